-- What is said of a file that a command refuses, and the name of one that it cannot read.
use Rattle.std.specs.Prelude.{ℕ, List, ◌++◌, codes}
use Rattle.std.specs.Fmt.{decimal}
use Rattle.fux_grid.specs.declared.exercise.Place.{Place}
use Rattle.works.specs.declared.complaint.FileName.{FileName}
use Rattle.works.specs.declared.complaint.FileName.TheVariants.{Given, Listed}
use Rattle.works.specs.declared.refusal.Refusal.{Refusal}
use Rattle.works.specs.declared.refusal.Refusal.TheVariants.{Text, NoSetting, Lesson as NoLesson, With, List as NoList, Canon as NoCanon, TooWide, LongCertificate, LargeGraph, Sheet, Midi, Join}
use Rattle.penalty_sheet.specs.Sheets as sheets
use Rattle.smf_score.specs.JoinFaultTexts as joined
use Rattle.smf_score.specs.FaultTexts as midi
use Rattle.class_marker.specs.declared.unmarked.Unmarked.TheVariants as unmarked
use Rattle.class_marker.specs.Unmarked.{unmarked_text}
use Rattle.fux_text.specs.Faults.{text_fault}

-- what is said of a place with so many columns
abbrev pub width_text : Place → ℕ → List ℕ
width_text place count =
    codes "too wide: " ++ decimal count ++ codes " columns at bar " ++ decimal place.bar
    ++ codes " slot " ++ decimal place.slot

-- what is said of a refused file of this name
abbrev pub refusal_text : List ℕ → Refusal → List ℕ
refusal_text name (Text kind line column) = text_fault name kind line column
refusal_text name NoSetting = unmarked_text name unmarked.NoSetting
refusal_text name (NoLesson kind line column) = text_fault (codes "lesson") kind line column
refusal_text name (With voice) = codes "with " ++ decimal voice
refusal_text name (NoList line) = name ++ codes ":" ++ decimal line ++ codes ": list"
refusal_text name (NoCanon line) = name ++ codes ":" ++ decimal line ++ codes ": canon"
refusal_text name (TooWide place count) = width_text place count
refusal_text name LongCertificate = codes "certificate too long"
refusal_text name LargeGraph = codes "graph too large"
refusal_text name (Sheet fault) = codes "sheet: " ++ sheets.fault_text fault
refusal_text name (Midi fault) = codes "midi: " ++ midi.fault_text fault
refusal_text name (Join fault) = codes "midi: " ++ joined.fault_text fault

-- the name of a file, which the words give or a list has
abbrev pub name_text : FileName → List ℕ
name_text (Given name) = name.now
name_text (Listed name) = name
