-- What `drill` makes of a number.
use Rattle.std.specs.Prelude.{◌≡◌, ℕ, Bool, true, false, List, [], ◌∷◌, ◌++◌, Ok, Err, codes, length, map}
use Rattle.std.specs.Fmt.{decimal}
use Rattle.fux_pitch.specs.Names.{name_of}
use Rattle.fux_grid.specs.declared.cell.Cell.{Cell}
use Rattle.fux_grid.specs.declared.exercise.Exercise.{Exercise}
use Rattle.fux_text.specs.Words.{spaced}
use Rattle.drill_exercise.specs.Drill.{IsDrill}
use Rattle.fux_judge.specs.Lawful.{HasNoLawful}
use Rattle.species_space.specs.Loads.{IsBestWithin, IsLeastOver, IsNothingWithin}
use Rattle.score_marker.specs.declared.mark.Mark.{Mark}
use Rattle.score_marker.specs.Marks.{AreMarks}
use Rattle.works.specs.declared.searching.Found.{Found}
use Rattle.works.specs.declared.work.Output.{Output}
use Rattle.works.specs.declared.work.Verdict.{Verdict}
use Rattle.works.specs.Composed.{TellsAs, TellsNone}
use Rattle.works.specs.Searched.{IsBestOf, IsFound, IsFoundSharply, IsNarrow, IsSharpBound, RefusesWidth, usual_sheet}
use Rattle.works.specs.Texts.{Work}

-- the first two lines: the number, and the cantus of its exercise
abbrev pub drill_heading : ℕ → Exercise → List ℕ
drill_heading number ex =
    codes "drill " ++ decimal number ++ codes "\ncantus" ++ spaced (map name_of ex.cantus) ++ 10 ∷ []

-- the line that tells a penalty and how many marks there are
abbrev pub best_line : ℕ → ℕ → List ℕ
best_line penalty marks = codes "best " ++ decimal penalty ++ codes " marks " ++ decimal marks ++ 10 ∷ []

-- the line tells the penalty of a setting, which are best as this tells, and how many marks that
-- setting has
pub record TellsBestMarks (ex : Exercise) (AreBest : List (List Cell) → ℕ → Type 0) (text : List ℕ) : Type 0 where
  pub setting : List (List Cell)
  pub penalty : ℕ
  pub best : AreBest setting penalty
  pub marks : List Mark
  pub exact : AreMarks ex setting marks
  pub spelled : text ≡ best_line penalty (length marks)

-- what the last line tells of an exercise, by its verdict: what `best` tells with a budget of
-- 200,000 over the usual weights, or what `compose` does
abbrev pub TellsDrill : Bool → Exercise → Verdict → List ℕ → Type 0
TellsDrill true ex =
    TellsAs (TellsBestMarks ex (IsBestOf ex usual_sheet)) (TellsNone (HasNoLawful ex))
    (IsSharpBound ex usual_sheet 200000)
TellsDrill false ex =
    TellsAs (TellsBestMarks ex (IsBestWithin ex usual_sheet 200000))
    (TellsNone (IsNothingWithin ex usual_sheet 200000)) (IsLeastOver ex usual_sheet 200000)

-- a text has a line more, of which a fact holds
pub record HasLineMore (TellsSo : List ℕ → Type 0) (before after : List ℕ) : Type 0 where
  pub line : List ℕ
  pub tells : TellsSo line
  pub longer : after ≡ before ++ line

-- what was found for a drill, by sharper floors or by the usual ones: over the usual weights, with
-- its budget
abbrev pub IsDrillFound : Bool → Exercise → Found → Type 0
IsDrillFound true ex = IsFoundSharply ex usual_sheet 200000
IsDrillFound false ex = IsFound ex usual_sheet 200000

-- a text has the line more that tells of what was found
abbrev pub AddsDrillLine : Bool → Exercise → List ℕ → List ℕ → Verdict → Type 0
AddsDrillLine by_sharper ex before after verdict = HasLineMore (TellsDrill by_sharper ex verdict) before after

-- an output has the heading of an exercise and its number, and that line
abbrev pub HasDrillLines : ℕ → Bool → Exercise → Output → Type 0
HasDrillLines number by_sharper ex output =
    AddsDrillLine by_sharper ex (drill_heading number ex) output.bytes output.verdict

-- an output on the exercise of a number
pub record IsDrilled (number : ℕ) (by_sharper : Bool) (output : Output) : Type 0 where
  pub exercise : Exercise
  pub drilled : IsDrill number exercise
  pub narrow : IsNarrow exercise
  pub lines : HasDrillLines number by_sharper exercise output

-- `drill` makes this of a number, by sharper floors where these are asked for
abbrev pub Drills : ℕ → Bool → Work → Type 0
Drills number by_sharper (Ok output) = IsDrilled number by_sharper output
Drills number by_sharper (Err refusal) = (ex : Exercise) × IsDrill number ex × RefusesWidth ex refusal
