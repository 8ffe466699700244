-- Where a writer stands behind the text of a head.
use Rattle.std.specs.Prelude.{◌≡◌, ℕ, ◌+◌, ◌-◌, ◌<◌, ⊤, List, [], ◌++◌, Option, Some, None, drop, length}
use Rattle.std.specs.List.{flat_map}
use Rattle.arrayvec.specs.ArrayString.{ArrayString}
use Rattle.cert_law.specs.Cases.{Matter}
use Rattle.cert_law.specs.Rests.{entries_at, entries_from, entries_of, stated_in}
use Rattle.cert_law.specs.Writer.{claims_of, stated_text}
use Rattle.cert_text.specs.declared.answers.Form.{Form}
use Rattle.cert_text.specs.declared.answers.Form.TheVariants.{First, Second, Third}
use Rattle.cert_text.specs.declared.potential.Potential.{Potential}
use Rattle.cert_text.specs.Potentials.{last_line, potential_line}
use Rattle.cert_writer.specs.declared.lines.Lines.{Lines}
use Rattle.cert_writer.specs.declared.lines.Stage.{Stage}
use Rattle.cert_writer.specs.declared.lines.Stage.TheVariants.{Start, Column, Last, Claims}
use Rattle.cert_writer.specs.Writing.{IsWriting, to_come}
use Rattle.cert_file.specs.Writing.{claim_lines}
use Rattle.fux_grid.specs.declared.exercise.Exercise.{Exercise}
use Rattle.fux_grid.specs.Exercises.{columns_in}
use Rattle.fux_grid.specs.Menus.{menu_of}

-- the column of the stage is there
abbrev pub IsStage : Exercise → Stage → Type 0
IsStage ex Start = ⊤
IsStage ex (Column place number) = (place < columns_in ex) × (number < length (menu_of ex place))
IsStage ex Last = ⊤
IsStage ex Claims = ⊤

-- the stage at which the text of a form goes on behind that of its head
abbrev pub first_stage : Form → Stage
first_stage First = Claims
first_stage Second = Start
first_stage Third = Claims

-- the entries that are still to come
abbrev pub entries_left : Matter → Stage → List Potential
entries_left t Start = entries_of t.exercise t.sheet
entries_left t (Column place number) =
    drop number (entries_at t.exercise t.sheet place)
    ++ entries_from t.exercise t.sheet (place + 1) (columns_in t.exercise - (place + 1))
entries_left t Last = []
entries_left t Claims = []

-- the line `claims`, where it is still to come
abbrev pub last_left : Stage → List ℕ
last_left Start = last_line
last_left (Column place number) = last_line
last_left Last = last_line
last_left Claims = []

-- the lines of the stage
abbrev pub stage_text : Matter → Stage → List ℕ
stage_text t stage = flat_map potential_line (entries_left t stage) ++ last_left stage

-- all lines that are still to come
abbrev pub lines_left : Matter → Lines → List ℕ
lines_left t lines = stage_text t lines.stage ++ claim_lines (to_come t lines.walk)

-- a writer stands at a column that is there, and at a prefix that is owed or at the end
pub record AreLines (t : Matter) (lines : Lines) : Type 0 where
  pub stage : IsStage t.exercise lines.stage
  pub walk : IsWriting t lines.walk

-- a line, if there is one
abbrev pub line_of : Option ArrayString → List ℕ
line_of None = []
line_of (Some line) = line.bytes

-- all lines that a form has behind the text of a head
abbrev pub all_lines : Matter → Form → List ℕ
all_lines t form = stated_text (stated_in form t.exercise t.sheet) ++ claim_lines (claims_of t.exercise t.sheet t.head)

-- a writer at the beginning: all of them are still to come
pub record Begins (t : Matter) (form : Form) (begun : Lines) : Type 0 where
  pub lines : AreLines t begun
  pub text : lines_left t begun ≡ all_lines t form
