-- The rules of two voices that clash, one of which is free: S15, S19, S20 and S21, and S27 and S28
-- where species are mixed.
use Rattle.std.specs.Prelude.{ℕ, ◌==◌, Bool, ◌||◌, nat_le, List, length, if◌then◌else◌}
use Rattle.fux_grid.specs.declared.cell.Cell.{Cell}
use Rattle.fux_grid.specs.declared.exercise.Exercise.{Exercise}
use Rattle.rule_law.specs.Growth.{newly}
use Rattle.rule_law.specs.Places.{Row, at_once, settled_by}
use Rattle.rule_law.specs.Voices.{on_pair}
use Rattle.rule_law.specs.Whole.{is_whole}
use Rattle.rule_law.specs.Ways.{holds_some_way, on_each_way}
use Rattle.dissonance_rules.specs.Ligatures.{is_bad_suspension, lacks_preparation, lacks_resolution}
use Rattle.dissonance_rules.specs.Mixed.{clash_unexcused, is_disturbed}
use Rattle.dissonance_rules.specs.Passing.{clashes_badly, is_told}

-- S15, S20, S27 and S28, by their numbers
abbrev pub passing_rule : ℕ
passing_rule = 15

abbrev pub resolution_rule : ℕ
resolution_rule = 20

abbrev pub excuse_rule : ℕ
excuse_rule = 27

abbrev pub disturbance_rule : ℕ
disturbance_rule = 28

-- S15 and S27: notes that come after a clash tell whether they are broken
abbrev pub is_told_later : ℕ → Bool
is_told_later rule = (rule == 15) || (rule == 27)

-- each of the rules but S27 is broken for one way to name the voices
abbrev pub clash_rule : ℕ → Exercise → ℕ → List (List Cell) → List Cell → List (List Cell) → ℕ → ℕ → Bool
clash_rule rule ex i behind now ahead v w =
    if rule == 15 then clashes_badly ex i behind now ahead v w
    else (if rule == 19 then lacks_preparation i behind now v w
    else (if rule == 20 then lacks_resolution i now ahead v w
    else (if rule == 28 then is_disturbed ex i now ahead v w
    else is_bad_suspension i now v w)))

-- it is broken for two voices: for one way to name them, or for both. S27 names no voice first
abbrev pub pair_rule : ℕ → Exercise → ℕ → List (List Cell) → List Cell → List (List Cell) → ℕ → ℕ → Bool
pair_rule rule ex i behind now ahead v w =
    if rule == 27 then clash_unexcused ex i behind now ahead v w
    else holds_some_way ex (clash_rule rule ex i behind now ahead) v w

-- the same of a set of two voices
abbrev pub clash_row : ℕ → Exercise → ℕ → Row Bool
clash_row rule ex voices i behind now ahead = on_pair ex (pair_rule rule ex i behind now ahead) voices

-- S15 and S27 are settled where it is told for each way to name the voices
abbrev pub passing_enough : Exercise → ℕ → Row Bool
passing_enough ex voices i behind now ahead = on_each_way ex (is_told ex i now ahead) voices

-- the last column settles them at a place, and none before it did
abbrev pub newly_passing : Exercise → ℕ → List (List Cell) → List Cell → ℕ → Bool
newly_passing ex voices = newly (settled_by (passing_enough ex voices))

-- a rule is settled at so many columns after the place, and in a list of all columns
abbrev pub enough_ahead : ℕ → Exercise → Row Bool
enough_ahead n ex i behind now ahead = nat_le n (length ahead) || is_whole ex i ahead

-- where the rules are settled: S20 at the fourth column after the place, S28 at the third; S19 and
-- S21 are at once
abbrev pub clash_enough : ℕ → Exercise → ℕ → Row Bool
clash_enough rule ex voices =
    if is_told_later rule then passing_enough ex voices
    else (if rule == 20 then enough_ahead 4 ex
    else (if rule == 28 then enough_ahead 3 ex
    else at_once))
