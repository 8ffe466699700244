-- What is said of a fault of a note text.
use Rattle.std.specs.Prelude.{ℕ, List, ◌++◌, codes}
use Rattle.std.specs.Fmt.{decimal}
use Rattle.fux_text.specs.declared.fault.TextKind.{TextKind}
use Rattle.fux_text.specs.declared.fault.TextKind.TheVariants as kinds

-- the word for a kind of fault
abbrev pub kind_word : TextKind → List ℕ
kind_word kinds.TooLong = codes "toolong"
kind_word kinds.NotUtf8 = codes "notutf8"
kind_word kinds.Head = codes "head"
kind_word kinds.Word = codes "word"
kind_word kinds.Pitch = codes "pitch"
kind_word kinds.Length = codes "length"
kind_word kinds.BarLine = codes "barline"
kind_word kinds.Bars = codes "bars"
kind_word kinds.Range = codes "range"
kind_word kinds.Cantus = codes "cantus"
kind_word kinds.Tie = codes "tie"
kind_word kinds.Sing = codes "sing"
kind_word kinds.Given = codes "given"

-- what is said of the first fault of a text of this name, with its line and its column
abbrev pub text_fault : List ℕ → TextKind → ℕ → ℕ → List ℕ
text_fault name kind line column =
    name ++ codes ":" ++ decimal line ++ codes ":" ++ decimal column ++ codes ": " ++ kind_word kind
