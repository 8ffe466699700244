-- The list of a class: a name on each line.
use Rattle.std.specs.Prelude.{◌≡◌, ◌↔◌, ℕ, ◌+◌, ◌≤◌, Bool, ◌&&◌, ◌||◌, not, ◌==◌, List, [], ◌∷◌, ◌++◌, length, map, nat_le, nat_lt, string_bytes, String, Option, Some, None, Result, Ok, Err, if◌then◌else◌}
use Rattle.std.specs.Option.{ok_or}
use Rattle.std.specs.Str.{IsUtf8, is_utf8}
use Rattle.std.specs.declared.alloc.Global.{Global}
use Rattle.std.specs.declared.vec.Vec.{Vec}
use Rattle.text_lines.specs.Rows.{Row, Run}
use Rattle.whole_lines.specs.Ended.{IsText, IsTextFault, is_feed, said, without}
use Rattle.class_marker.specs.declared.list.ListFault.{ListFault}
use Rattle.class_marker.specs.declared.list.ListFault.TheVariants.{At, Memory}

-- a name has 1 to 255 bytes
abbrev pub is_name : List ℕ → Bool
is_name line = nat_lt 0 (length line) && nat_le (length line) 255

-- a line that a line feed ends is a name behind others, of which there are fewer than 512
abbrev pub with_name : List (List ℕ) → Option (List ℕ) → Option (List (List ℕ))
with_name names None = None
with_name names (Some line) = if is_name line && nat_lt (length names) 512 then Some (names ++ line ∷ []) else None

-- a list has names, one a line, and at least one: the kind of a line's fault is its number
abbrev pub names_run : Run ℕ (List (List ℕ)) (List (List ℕ))
names_run = record {
  word = λ names line. ok_or (with_name names (without 10 line)) (length names + 1);
  end = λ names. if length names == 0 then Err 1 else Ok names;
}

abbrev pub names_row : Row ℕ (List (List ℕ))
names_row = Row.runs names_run []

-- the names in a list, or the number of its first line at fault, by what its lines say: a text that
-- is too long or no UTF-8 is at fault in line 1
abbrev pub listed_by : (List ℕ → Result (List (List ℕ)) ℕ) → List ℕ → Result (List (List ℕ)) ℕ
listed_by says text = if nat_lt 65536 (length text) || not (is_utf8 text) then Err 1 else says text

abbrev pub listed_names : List ℕ → Result (List (List ℕ)) ℕ
listed_names text = listed_by (said is_feed names_row) text

-- what is read is this, unless memory runs out
abbrev pub Gives : Result (Vec (String Global) Global) ListFault → Result (List (List ℕ)) ℕ → Type 0
Gives (Ok names) found = found ≡ Ok (map string_bytes names.items)
Gives (Err (At line)) found = found ≡ Err line
Gives (Err Memory) found = Unit {0}

-- ---- without reading

-- bytes that may be a list: at most 65,536 of UTF-8
abbrev pub IsListed : List ℕ → Type 0
IsListed text = (length text ≤ 65536) × IsUtf8 text

-- names are listed just where the lines say them, and a line is told just where the first fault
-- stands in it
abbrev pub ListsAreRead : Type 0
ListsAreRead = (text : List ℕ) (names : List (List ℕ))
    → IsText (IsListed text) is_feed names_row text names ↔ (listed_names text ≡ Ok names)

abbrev pub ListFaultsAreRead : Type 0
ListFaultsAreRead = (text : List ℕ) (line : ℕ)
    → IsTextFault (IsListed text) 1 is_feed names_row text line ↔ (listed_names text ≡ Err line)
