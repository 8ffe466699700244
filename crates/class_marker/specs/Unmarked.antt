-- What is said of a text that `mark` refuses.
use Rattle.std.specs.Prelude.{ℕ, List, codes}
use Rattle.fux_text.specs.Faults.{text_fault}
use Rattle.class_marker.specs.declared.unmarked.Unmarked.{Unmarked}
use Rattle.class_marker.specs.declared.unmarked.Unmarked.TheVariants.{Text, NoSetting}

-- what is said of a text of this name that is refused
abbrev pub unmarked_text : List ℕ → Unmarked → List ℕ
unmarked_text name (Text kind line column) = text_fault name kind line column
unmarked_text name NoSetting = codes "no setting"
