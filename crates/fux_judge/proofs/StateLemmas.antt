-- What is kept for each crate of rules is what the crates as one ask for (`parts_of`), and a state
-- of a longer prefix is one that a column has come to (`come_behind`).
use Rattle.std.specs.Prelude.{⊤, List, [], ◌∷◌, ◌++◌, reverse}
use Rattle.fux_grid.specs.declared.cell.Cell.{Cell}
use Rattle.fux_grid.specs.declared.exercise.Exercise.{Exercise}
use Rattle.melody_rules.specs.Notes.{AreNotesOf}
use Rattle.rhythm_cadence.specs.Parts.{IsShapesOf}
use Rattle.dissonance_rules.specs.Starts.{AreStartsOf}
use Rattle.fux_judge.specs.declared.past.Past.{Past}
use Rattle.rule_law.specs.Prefixes.{GoesOn}
use Rattle.fux_judge.specs.declared.state.State.{State}
use Rattle.fux_judge.specs.States.{HasCome, IsPastOf, IsStateOf}

pub parts_of : {ex : Exercise} {p : List (List Cell)} {past : Past} → IsPastOf ex p past
    → AreNotesOf (reverse p) past.parts.first
    × (⊤ × (AreStartsOf ex p past.parts.second.second.first
    × (IsShapesOf ex p past.parts.second.second.second.first × ⊤)))
parts_of is = (is.melody, (tt, (is.dissonance, (is.rhythm, tt))))

pub come_behind : {ex : Exercise} {p : List (List Cell)} {col : List Cell} {state : State}
    → IsStateOf ex (p ++ col ∷ []) state → GoesOn ex p (col ∷ []) → HasCome ex state p col
come_behind is on = record { reached = record { newest = is.newest; past = is.past }; on = on }
