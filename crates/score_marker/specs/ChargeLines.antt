-- The lines that tell what a setting breaks and pays for.
use Rattle.std.specs.Prelude.{ℕ, List, [], ◌∷◌, ◌++◌, codes, length}
use Rattle.std.specs.Fmt.{decimal}
use Rattle.std.specs.List.{flat_map}
use Rattle.fux_grid.specs.declared.exercise.Exercise.{Exercise}
use Rattle.score_marker.specs.declared.charge.Charge.{Charge}
use Rattle.score_marker.specs.declared.charge.Charge.TheVariants.{Broken, Toll, Line}
use Rattle.score_marker.specs.declared.charge.TollCharge.{TollCharge}
use Rattle.score_marker.specs.declared.charge.LineCharge.{LineCharge}
use Rattle.score_marker.specs.Charges.{marks_in}
use Rattle.score_marker.specs.MarkLines.{count_line, mark_line, price_of}

-- the line of a toll at a place
unfoldable pub toll_line : TollCharge → List ℕ
toll_line charge =
    codes "bar " ++ decimal charge.bar ++ codes " slot " ++ decimal charge.slot ++ codes " Q" ++ decimal charge.toll
    ++ codes " cost " ++ decimal charge.cost ++ 10 ∷ []

-- the line of a gauge over a voice's line
unfoldable pub line_line : LineCharge → List ℕ
line_line charge =
    codes "voice " ++ decimal charge.voice ++ codes " Q" ++ decimal charge.gauge ++ codes " cost "
    ++ decimal charge.cost ++ 10 ∷ []

-- the line of a charge: of a broken rule that of its mark
abbrev pub charge_line : Exercise → Charge → List ℕ
charge_line ex (Broken mark) = mark_line (price_of ex mark) mark
charge_line ex (Toll charge) = toll_line charge
charge_line ex (Line charge) = line_line charge

-- the lines of charges, one after the other
abbrev pub charge_lines : Exercise → List Charge → List ℕ
charge_lines ex charges = flat_map (charge_line ex) charges

-- the line that says what a setting's penalty is
abbrev pub penalty_line : ℕ → List ℕ
penalty_line penalty = codes "penalty " ++ decimal penalty ++ 10 ∷ []

-- the lines of the charges, then the penalty, and then how many rules are broken
abbrev pub weighing_text : Exercise → ℕ → List Charge → List ℕ
weighing_text ex penalty charges = charge_lines ex charges ++ penalty_line penalty ++ count_line (length (marks_in charges))
