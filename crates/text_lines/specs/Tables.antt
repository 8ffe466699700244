-- A text as a table of lines, each a row: how it is read, which texts are right, and the first
-- fault of one that isn't.
use Rattle.std.specs.Prelude.{◌≡◌, ◌⊎◌, ℕ, ◌<◌, ◌≤◌, ◌&&◌, Bool, true, false, List, [], ◌∷◌, ◌++◌, Some, None, Result, Ok, Err, length, take, if◌then◌else◌}
use Rattle.std.specs.Str.{IsUtf8}
use Rattle.text_lines.specs.Faults.{Fault, ◌>>=◌}
use Rattle.text_lines.specs.Lines.{TextLines, first_line, lines_in}
use Rattle.text_lines.specs.Reading.{begins, fault_here, headed, no_line, same_text}
use Rattle.text_lines.specs.Rows.{IsRow, IsRowFault, Lacks, Row, row_in, word_place}
use Rattle.text_lines.specs.Fronts.{LongestFront}
use Rattle.text_lines.specs.Utf8.{fault_behind, text_in}
use Rattle.text_lines.specs.Words.{LineWords, PlacedWord, first_word}

-- lines of one name, as long as the next one begins so and one more may stand: their rows may hang
-- on the lines before. The kind is of the fault of a line of another name, where one of this name
-- is read
pub record Many (K V : Type 0) : Type 1 where
  pub other : K
  pub name : List ℕ
  pub goes : List V → Bool
  pub row : List V → Row K V

-- the lines of a text: nothing; a line of a name, and the kinds of the fault where none is left and
-- where another line stands; lines of one name; a fault at the line that comes next, unless
-- something holds; the end of the text, and the kind of the fault where a line is left; one table
-- or another, by how the next line begins; or lines, and those behind them by what they say
pub data Table (K : Type 0) : Type 0 → Type 1 where
  says : {R : Type 0} → R → Table K R
  line : {V : Type 0} → K → K → List ℕ → Row K V → Table K V
  many : {V : Type 0} → Many K V → Table K (List V)
  needs : Bool → K → Table K (Unit {0})
  ends : K → Table K (Unit {0})
  if_begins : {R : Type 0} → List ℕ → Table K R → Table K R → Table K R
  behind : {V R : Type 0} → Table K V → (V → Table K R) → Table K R

-- ---- reading

unfoldable pub line_in : {K V : Type 0} → K → K → List ℕ → Row K V → TextLines → Result (V × TextLines) (Fault K)
line_in lacking other name row text = do
  words ← headed lacking other name text
  x ← row_in row words.0
  Ok (x, words.1)

-- one more line of a name may stand behind those before, and the next line begins so
abbrev pub goes_on : {K V : Type 0} → Many K V → List V → TextLines → Bool
goes_on m before text = m.goes before && begins m.name text

unfoldable pub many_in : {K V : Type 0} → Many K V → List V → ℕ → List LineWords → Result (List V × TextLines) (Fault K)
many_in m before after [] = Ok (before, record { after = after; lines = [] })
many_in m before after (first ∷ others) =
    if goes_on m before (record { after = after; lines = first ∷ others }) then (do
      x ← line_in m.other m.other m.name (m.row before) (record { after = after; lines = first ∷ others })
      many_in m (before ++ x.0 ∷ []) after others)
    else Ok (before, record { after = after; lines = first ∷ others })

abbrev pub needed : {K : Type 0} → Bool → K → TextLines → Result (Unit {0} × TextLines) (Fault K)
needed true kind text = Ok (tt, text)
needed false kind text = Err (fault_here kind text)

unfoldable pub table_in : {K R : Type 0} → Table K R → TextLines → Result (R × TextLines) (Fault K)
table_in (Table.says x) text = Ok (x, text)
table_in (Table.line lacking other name row) text = line_in lacking other name row text
table_in (Table.many m) text = many_in m [] text.after text.lines
table_in (Table.needs holds kind) text = needed holds kind text
table_in (Table.ends kind) text = no_line kind text >>= λ end. Ok (tt, text)
table_in (Table.if_begins name one other) text = if begins name text then table_in one text else table_in other text
table_in (Table.behind front more) text = table_in front text >>= λ x. table_in (more x.0) x.1

-- ---- without reading

-- the next line begins with this word, and these words and lines stand behind it
pub record NextBegins (name : List ℕ) (text : TextLines) (words : LineWords) (rest : TextLines) : Type 0 where
  pub line : LineWords
  pub word : PlacedWord
  pub next : first_line text ≡ Some (line, rest)
  pub first : first_word line ≡ Some (word, words)
  pub same : same_text word.text name ≡ true

-- the next line is of this name and is right
pub record IsLine {K V : Type 0} (name : List ℕ) (row : Row K V) (text : TextLines) (x : V) (rest : TextLines)
    : Type 0 where
  pub words : LineWords
  pub begins : NextBegins name text words rest
  pub right : IsRow row words x

-- the next line goes wrong behind its name
pub record GoesWrong {K V : Type 0} (name : List ℕ) (row : Row K V) (text : TextLines) (f : Fault K) : Type 0 where
  pub words : LineWords
  pub rest : TextLines
  pub begins : NextBegins name text words rest
  pub wrong : IsRowFault row words f

-- no line is left, and the fault is in the line behind the last one; or another line stands there,
-- and the fault is at its first word; or the line goes wrong behind its name
pub data IsLineFault {K V : Type 0} (lacking other : K) (name : List ℕ) (row : Row K V) (text : TextLines) (f : Fault K)
    : Type 0 where
  missing : first_line text ≡ None → f ≡ record { kind = lacking; line = text.after; column = 1 }
      → IsLineFault lacking other name row text f
  wrong_name : (first : LineWords) (rest : TextLines) → first_line text ≡ Some (first, rest)
      → Lacks (word_place other name) first f → IsLineFault lacking other name row text f
  within : GoesWrong name row text f → IsLineFault lacking other name row text f

-- these lines of one name stand behind those before
abbrev pub AreMany : {K V : Type 0} → Many K V → List V → List V → TextLines → TextLines → Type 0
AreMany m before [] text rest = text ≡ rest
AreMany m before (x ∷ xs) text rest =
    (goes_on m before text ≡ true) × (behind : TextLines) × IsLine m.name (m.row before) text x behind
    × AreMany m (before ++ x ∷ []) xs behind rest

-- and they are all
pub record AreAll {K V : Type 0} (m : Many K V) (text : TextLines) (xs : List V) (rest : TextLines) : Type 0 where
  pub lines : AreMany m [] xs text rest
  pub no_more : goes_on m xs rest ≡ false

-- behind right ones stands one that goes wrong
pub record IsManyFault {K V : Type 0} (m : Many K V) (text : TextLines) (f : Fault K) : Type 0 where
  pub before : List V
  pub here : TextLines
  pub lines : AreMany m [] before text here
  pub one_more : goes_on m before here ≡ true
  pub wrong : GoesWrong m.name (m.row before) here f

-- the text has the right lines, and then others
abbrev pub IsTable : {K R : Type 0} → Table K R → TextLines → R → TextLines → Type 0
IsTable (Table.says x) text y rest = (x ≡ y) × (text ≡ rest)
IsTable (Table.line lacking other name row) text y rest = IsLine name row text y rest
IsTable (Table.many m) text y rest = AreAll m text y rest
IsTable (Table.needs holds kind) text y rest = (holds ≡ true) × (text ≡ rest)
IsTable (Table.ends kind) text y rest = (first_line text ≡ None) × (text ≡ rest)
IsTable (Table.if_begins name one other) text y rest =
    ((begins name text ≡ true) × IsTable one text y rest) ⊎ ((begins name text ≡ false) × IsTable other text y rest)
IsTable (Table.behind {V = V} front more) text y rest =
    (x : V) × (between : TextLines) × IsTable front text x between × IsTable (more x) between y rest

-- the first fault of the text: all lines before it are right
abbrev pub IsTableFault : {K R : Type 0} → Table K R → TextLines → Fault K → Type 0
IsTableFault (Table.says x) text f = ⊥
IsTableFault (Table.line lacking other name row) text f = IsLineFault lacking other name row text f
IsTableFault (Table.many m) text f = IsManyFault m text f
IsTableFault (Table.needs holds kind) text f = (holds ≡ false) × (f ≡ fault_here kind text)
IsTableFault (Table.ends kind) text f =
    (left : LineWords) × (rest : TextLines) × (first_line text ≡ Some (left, rest)) × (f ≡ fault_here kind text)
IsTableFault (Table.if_begins name one other) text f =
    ((begins name text ≡ true) × IsTableFault one text f) ⊎ ((begins name text ≡ false) × IsTableFault other text f)
IsTableFault (Table.behind {V = V} front more) text f =
    IsTableFault front text f
    ⊎ ((x : V) × (between : TextLines) × IsTable front text x between × IsTableFault (more x) between f)

-- ---- bytes

-- a format of texts: the kinds of the faults of bytes that are too many or no UTF-8, and the lines
-- of its texts
pub record Format (K R : Type 0) : Type 1 where
  pub too_long : K
  pub not_utf8 : K
  pub lines : Table K R

-- what the lines of a text say
unfoldable pub text_read : {K R : Type 0} → Format K R → List ℕ → Result R (Fault K)
text_read format bytes = do
  text ← text_in format.too_long format.not_utf8 bytes
  x ← table_in format.lines text
  Ok x.0

-- the first fault of bytes: they are too many, or stop being UTF-8 behind the longest front by
-- which UTF-8 goes on, or their lines go wrong
pub data IsTextFault {K R : Type 0} (format : Format K R) (bytes : List ℕ) (f : Fault K) : Type 0 where
  too_long : 65536 < length bytes → f ≡ record { kind = format.too_long; line = 1; column = 1 }
      → IsTextFault format bytes f
  not_utf8 : length bytes ≤ 65536 → (IsUtf8 bytes → ⊥) → (at : ℕ) → LongestFront IsUtf8 bytes at
      → f ≡ fault_behind format.not_utf8 (take at bytes) → IsTextFault format bytes f
  in_lines : length bytes ≤ 65536 → IsUtf8 bytes → IsTableFault format.lines (lines_in bytes) f
      → IsTextFault format bytes f
