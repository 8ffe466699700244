-- What a setting breaks and pays for, place by place and then line by line.
use Rattle.std.specs.Prelude.{◌≡◌, ℕ, ◌*◌, ◌==◌, List, [], ◌∷◌, ◌++◌, length, map, if◌then◌else◌}
use Rattle.std.specs.List.{flat_map, range_with_len, sum_by}
use Rattle.fux_grid.specs.declared.cell.Cell.{Cell}
use Rattle.fux_grid.specs.declared.exercise.Exercise.{Exercise}
use Rattle.fux_grid.specs.Exercises.{bar_of, slot_of}
use Rattle.rule_law.specs.Voices.{is_free}
use Rattle.melody_rules.specs.Gauges.{gauges}
use Rattle.penalty_sheet.specs.declared.sheet.Sheet.{Sheet}
use Rattle.penalty_sheet.specs.Prices.{amount_of}
use Rattle.penalty_sheet.specs.Weights.{weight_of}
use Rattle.fux_judge.specs.Gauges.{cells_of_voice, free_voices}
use Rattle.fux_judge.specs.Penalties.{penalty_of}
use Rattle.fux_judge.specs.Rules.{cost_at, tolls_read}
use Rattle.score_marker.specs.declared.charge.Charge.{Charge}
use Rattle.score_marker.specs.declared.charge.Charge.TheVariants.{Broken, Toll, Line}
use Rattle.score_marker.specs.declared.mark.Mark.{Mark}
use Rattle.score_marker.specs.MarkLines.{price_of}
use Rattle.score_marker.specs.Marks.{AreMarks}
use Rattle.score_marker.specs.Setting.{marks_at}

-- a toll of this cost at a column, where it costs something
abbrev pub toll_where : ℕ → ℕ → ℕ → List Charge
toll_where i toll cost =
    if cost == 0 then [] else Toll (record { bar = bar_of i; slot = slot_of i; toll = toll; cost = cost }) ∷ []

-- a gauge of this cost over the line of a voice, where it costs something
abbrev pub line_where : ℕ → ℕ → ℕ → List Charge
line_where v gauge cost =
    if cost == 0 then [] else Line (record { voice = v; gauge = gauge; cost = cost }) ∷ []

-- the charge of a toll at a place: its count times its weight
unfoldable pub toll_charge : Exercise → Sheet → List (List Cell) → ℕ → ℕ → List Charge
toll_charge ex sheet s i toll = toll_where i toll (cost_at toll ex s i * weight_of sheet toll)

-- the charge of a gauge over the line of a voice: its value times its weight
unfoldable pub line_charge : Sheet → ℕ → ℕ → ℕ → List Charge
line_charge sheet v gauge value = line_where v gauge (value * weight_of sheet gauge)

-- the broken rules at a place, as the marker has them
abbrev pub charges_of_breaks : Exercise → List (List Cell) → ℕ → List Charge
charges_of_breaks ex s i = map Broken (marks_at ex s i)

-- the tolls there, by their numbers
abbrev pub charges_of_tolls : Exercise → Sheet → List (List Cell) → ℕ → List Charge
charges_of_tolls ex sheet s i = flat_map (toll_charge ex sheet s i) tolls_read

-- all that is broken and paid for at a place
abbrev pub charges_at_place : Exercise → Sheet → List (List Cell) → ℕ → List Charge
charges_at_place ex sheet s i = charges_of_breaks ex s i ++ charges_of_tolls ex sheet s i

-- and at all places
abbrev pub charges_of_places : Exercise → Sheet → List (List Cell) → List Charge
charges_of_places ex sheet s = flat_map (charges_at_place ex sheet s) (range_with_len 0 (length s))

-- the gauges over the line of a voice, by their numbers
abbrev pub charges_of_line : Sheet → List (List Cell) → ℕ → List Charge
charges_of_line sheet s v =
    flat_map (λ gauge. line_charge sheet v gauge.number (gauge.value (cells_of_voice s v))) gauges

-- over that of a voice that is free, and nothing over that of the cantus
abbrev pub charges_of_voice : Exercise → Sheet → List (List Cell) → ℕ → List Charge
charges_of_voice ex sheet s v = if is_free ex v then charges_of_line sheet s v else []

-- over those of the free voices, from the lowest
abbrev pub charges_of_lines : Exercise → Sheet → List (List Cell) → List Charge
charges_of_lines ex sheet s = flat_map (charges_of_line sheet s) (free_voices ex)

-- all that a setting breaks and pays for
abbrev pub charges : Exercise → Sheet → List (List Cell) → List Charge
charges ex sheet s = charges_of_places ex sheet s ++ charges_of_lines ex sheet s

-- what a charge costs: of a broken rule its price, nothing where it is strict
abbrev pub cost_of : Exercise → Charge → ℕ
cost_of ex (Broken mark) = amount_of (price_of ex mark)
cost_of ex (Toll charge) = charge.cost
cost_of ex (Line charge) = charge.cost

-- the mark of a charge, where it has one
abbrev pub mark_in : Charge → List Mark
mark_in (Broken mark) = mark ∷ []
mark_in (Toll charge) = []
mark_in (Line charge) = []

-- the marks of charges, in their order
abbrev pub marks_in : List Charge → List Mark
marks_in = flat_map mark_in

-- what a setting pays comes to its penalty
abbrev pub ChargesArePenalty : Type 0
ChargesArePenalty = (ex : Exercise) (sheet : Sheet) (s : List (List Cell))
    → sum_by (cost_of ex) (charges ex sheet s) ≡ penalty_of ex sheet s

-- what it breaks is what the marker marks
abbrev pub ChargesHaveMarks : Type 0
ChargesHaveMarks = (ex : Exercise) (sheet : Sheet) (s : List (List Cell)) → AreMarks ex s (marks_in (charges ex sheet s))
