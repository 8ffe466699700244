-- What `class` makes of a list and of the files that it names.
use Rattle.std.specs.Prelude.{◌≡◌, ℕ, ◌==◌, ◌&&◌, List, Ok, Err, zip, if◌then◌else◌}
use Rattle.std.specs.List.{AllZip}
use Rattle.class_marker.specs.Lists.{listed_names}
use Rattle.class_marker.specs.Markings.{IsMarking}
use Rattle.class_marker.specs.Reports.{Entry, class_text, marked_in, refused_in}
use Rattle.works.specs.declared.refusal.Refusal.{Refusal}
use Rattle.works.specs.declared.refusal.Refusal.TheVariants as refusal
use Rattle.works.specs.declared.work.Output.{Output}
use Rattle.works.specs.declared.work.Verdict.{Verdict}
use Rattle.works.specs.declared.work.Verdict.TheVariants.{Favorable, Unfavorable}

-- the bytes are a list
pub record IsList (text : List ℕ) : Type 0 where
  pub names : List (List ℕ)
  pub listed : listed_names text ≡ Ok names

-- a refusal of bytes that are no list: it tells the first line at fault
abbrev pub RefusesList : List ℕ → Refusal → Type 0
RefusesList text (refusal.List line) = listed_names text ≡ Err line
RefusesList text _ = ⊥

-- the name of a file with what `mark` says of its bytes
abbrev pub IsEntryOf : List ℕ × List ℕ → Entry → Type 0
IsEntryOf file entry = (entry.0 ≡ file.0) × IsMarking file.1 entry.1

-- a class is unfavorable where some exercises have a mark, or some are refused
abbrev pub class_verdict : ℕ → ℕ → Verdict
class_verdict marked refused = if (marked == 0) && (refused == 0) then Favorable else Unfavorable

-- an output is the report of the exercises in files of these names with these bytes
pub record IsClass (names texts : List (List ℕ)) (output : Output) : Type 0 where
  pub entries : List Entry
  pub each : AllZip IsEntryOf (zip names texts) entries
  pub bytes : output.bytes ≡ class_text entries
  pub verdict : output.verdict ≡ class_verdict (marked_in entries) (refused_in entries)
