-- The steps of reading that each line is put together from: each gives its value and what is left,
-- or the fault.
use Rattle.std.specs.Prelude.{ℕ, nat_eq, Bool, false, List, Option, Some, None, Result, Ok, Err, if◌then◌else◌}
use Rattle.std.specs.Option.{ok_or}
use Rattle.std.specs.Cmp.Lexicographic.{pointwise}
use Rattle.text_lines.specs.Faults.{Fault, ◌>>=◌}
use Rattle.text_lines.specs.Words.{PlacedWord, LineWords, first_word}
use Rattle.text_lines.specs.Lines.{TextLines, first_line}
use Rattle.text_lines.specs.Numbers.{number_within}

-- a fault at a word
abbrev pub fault_at : {K : Type 0} → K → PlacedWord → Fault K
fault_at kind w = record { kind = kind; line = w.line; column = w.column }

-- a fault where a word is missing
abbrev pub fault_past : {K : Type 0} → K → LineWords → Fault K
fault_past kind at = record { kind = kind; line = at.line; column = at.past }

-- a fault at the line's end
abbrev pub fault_beyond : {K : Type 0} → K → LineWords → Fault K
fault_beyond kind at = record { kind = kind; line = at.line; column = at.end }

-- the next word, which has to be there
unfoldable pub next : {K : Type 0} → K → LineWords → Result (PlacedWord × LineWords) (Fault K)
next kind at = ok_or (first_word at) (fault_past kind at)

-- no word is left
abbrev pub none_left : {K : Type 0} → K → Option (PlacedWord × LineWords) → Result (Unit {0}) (Fault K)
none_left kind None = Ok tt
none_left kind (Some found) = Err (fault_at kind found.0)

unfoldable pub done : {K : Type 0} → K → LineWords → Result (Unit {0}) (Fault K)
done kind at = none_left kind (first_word at)

-- two texts are one
abbrev pub same_text : List ℕ → List ℕ → Bool
same_text text other = pointwise nat_eq text other

-- the next word is this one
unfoldable pub literal : {K : Type 0} → K → List ℕ → LineWords → Result LineWords (Fault K)
literal kind text at = do
  w ← next kind at
  if same_text w.0.text text then Ok w.1 else Err (fault_at kind w.0)

-- the next word is a number within two bounds
unfoldable pub number_in : {K : Type 0} → K → ℕ → ℕ → LineWords → Result (ℕ × LineWords) (Fault K)
number_in kind least most at = do
  w ← next kind at
  n ← ok_or (number_within least most w.0.text) (fault_at kind w.0)
  Ok (n, w.1)

-- a fault at the first word of a line
abbrev pub fault_first : {K : Type 0} → K → LineWords → Option (PlacedWord × LineWords) → Fault K
fault_first kind at None = fault_past kind at
fault_first kind at (Some found) = fault_at kind found.0

-- a fault at the first word of the next line, or where the text ends
abbrev pub fault_of_line : {K : Type 0} → K → ℕ → Option (LineWords × TextLines) → Fault K
fault_of_line kind after None = record { kind = kind; line = after; column = 1 }
fault_of_line kind after (Some found) = fault_first kind found.0 (first_word found.0)

unfoldable pub fault_here : {K : Type 0} → K → TextLines → Fault K
fault_here kind text = fault_of_line kind text.after (first_line text)

-- a line begins with this word
abbrev pub word_is : List ℕ → Option (PlacedWord × LineWords) → Bool
word_is name None = false
word_is name (Some found) = same_text found.0.text name

-- the next line begins with this word
abbrev pub line_is : List ℕ → Option (LineWords × TextLines) → Bool
line_is name None = false
line_is name (Some found) = word_is name (first_word found.0)

unfoldable pub begins : List ℕ → TextLines → Bool
begins name text = line_is name (first_line text)

-- the words behind the first of the next line, which is this word; the kinds are of the fault where
-- no line is left, and where another line stands
unfoldable pub headed : {K : Type 0} → K → K → List ℕ → TextLines → Result (LineWords × TextLines) (Fault K)
headed missing other name text = do
  line ← ok_or (first_line text) (fault_of_line missing text.after None)
  words ← literal other name line.0
  Ok (words, line.1)

-- no line is left
abbrev pub none_of_lines : {K : Type 0} → Fault K → Option (LineWords × TextLines) → Result (Unit {0}) (Fault K)
none_of_lines fault None = Ok tt
none_of_lines fault (Some line) = Err fault

unfoldable pub no_line : {K : Type 0} → K → TextLines → Result (Unit {0}) (Fault K)
no_line kind text = none_of_lines (fault_here kind text) (first_line text)
