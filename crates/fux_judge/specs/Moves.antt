-- What the move of one voice costs by itself, and what several voices cost together.
use Rattle.std.specs.Prelude.{ℕ, ◌*◌, ◌^◌, Bool, not, ◌&&◌, nat_lt, List, Option, Some, None, if◌then◌else◌}
use Rattle.std.specs.List.{filter, list_any, sum_by}
use Rattle.fux_grid.specs.declared.cell.Cell.{Cell}
use Rattle.fux_grid.specs.declared.exercise.Exercise.{Exercise}
use Rattle.fux_grid.specs.Cells.{cell_in, pitch_of}
use Rattle.fux_grid.specs.Exercises.{species_in}
use Rattle.rule_law.specs.Voices.{is_free}
use Rattle.melody_rules.specs.Rows.{move_cost, voice_rule}
use Rattle.penalty_sheet.specs.declared.sheet.Sheet.{Sheet}
use Rattle.penalty_sheet.specs.Weights.{weight_of}
use Rattle.fux_judge.specs.Links.{breaks_strictly, cost_between, pair_rules, pair_tolls, together}
use Rattle.fux_judge.specs.Penalties.{is_strict_at}
use Rattle.fux_judge.specs.Rules.{is_of_melody, is_toll_of_melody}

-- the rules of a pair that are of melody, which read each voice by itself, and the others
unfoldable pub move_rules : List ℕ
move_rules = filter is_of_melody pair_rules

unfoldable pub joint_rules : List ℕ
joint_rules = filter (λ rule. not (is_of_melody rule)) pair_rules

-- the tolls
unfoldable pub move_tolls : List ℕ
move_tolls = filter is_toll_of_melody pair_tolls

unfoldable pub joint_tolls : List ℕ
joint_tolls = filter (λ toll. not (is_toll_of_melody toll)) pair_tolls

-- a voice of the exercise that is free strictly breaks a rule at a place, by its move from a cell
-- to the next
abbrev pub breaks_by_move : Exercise → ℕ → ℕ → Cell → Cell → ℕ → Bool
breaks_by_move ex i v before next rule =
    (nat_lt v ex.voices && (is_free ex v && voice_rule rule (species_in ex v) (pitch_of before) next))
    && is_strict_at rule ex (2 ^ v) i

-- what a voice pays by that move, by weight
abbrev pub charge_by_move : Exercise → Sheet → ℕ → Cell → Cell → ℕ
charge_by_move ex sheet v before next =
    sum_by (λ toll. move_cost toll ex v (pitch_of before) next * weight_of sheet toll) move_tolls

-- what the move costs: none where it makes a strict break
unfoldable pub move_of : Exercise → Sheet → ℕ → ℕ → Cell → Cell → Option ℕ
move_of ex sheet i v before next =
    if list_any (breaks_by_move ex i v before next) move_rules then None
    else Some (charge_by_move ex sheet v before next)

-- what the moves of four voices cost, from a column to the next
abbrev pub moves_of : Exercise → Sheet → ℕ → List Cell → List Cell → Option ℕ
moves_of ex sheet i before next =
    together (move_of ex sheet i 0 (cell_in before 0) (cell_in next 0))
    (together (move_of ex sheet i 1 (cell_in before 1) (cell_in next 1))
    (together (move_of ex sheet i 2 (cell_in before 2) (cell_in next 2))
    (move_of ex sheet i 3 (cell_in before 3) (cell_in next 3))))

-- what the other rules and tolls of a pair say of two columns
unfoldable pub joint_of : Exercise → Sheet → ℕ → Option (List Cell) → List Cell → Option ℕ
joint_of ex sheet i before next =
    if list_any (breaks_strictly ex i before next) joint_rules then None
    else Some (sum_by (λ toll. cost_between ex i before next toll * weight_of sheet toll) joint_tolls)
