-- Whole lists: lines one after the other, up to the one behind all.
use Rattle.std.specs.Prelude.{◌≡◌, ℕ, zero, suc, ◌≤◌, Bool, true, false, ⊤, List, [], ◌∷◌, ◌++◌, flat_map, length, Result, Ok, Err}
use Rattle.fux_grid.specs.declared.exercise.Exercise.{Exercise}
use Rattle.text_lines.specs.Faults.{◌>>=◌}
use Rattle.price_check.specs.declared.line.Before.{Before}
use Rattle.price_check.specs.declared.lists.ListsFault.{ListsFault}
use Rattle.price_check.specs.declared.lists.ListsFault.TheVariants as faults
use Rattle.price_check.specs.PriceLines.{Keeps, Cases, Price, Claims, Fits, Line, after, line_text, nothing_before}
use Rattle.price_check.specs.Reading.{line_in}

-- the line behind all lists
abbrev pub is_last : Line → Bool
is_last (Keeps turns runs) = false
is_last (Cases voice keys) = false
is_last (Price case voice pitch number) = false
is_last Claims = true

-- lines of lists that may stand behind those before, each behind the ones in front of it, and the
-- last line behind them all
abbrev pub AreLinesOf : Exercise → Before → List Line → Type 0
AreLinesOf ex before [] = Fits ex before Claims
AreLinesOf ex before (line ∷ lines) = Fits ex before line × (is_last line ≡ false) × AreLinesOf ex (after before line) lines

-- lines that are whole lists
abbrev pub AreLists : Exercise → List Line → Type 0
AreLists ex lines = AreLinesOf ex nothing_before lines

-- their text
abbrev pub lists_text : List Line → List ℕ
lists_text lines = flat_map line_text lines ++ line_text Claims

-- how many lines are read at most: as many as so many bytes may have
abbrev pub most_lines : ℕ
most_lines = 262144

-- ---- reading

-- lines in front of those that are read
abbrev pub behind_lines : List Line → Result (List Line × List ℕ) ℕ → Result (List Line × List ℕ) ℕ
behind_lines lines (Ok found) = Ok (lines ++ found.0, found.1)
behind_lines lines (Err left) = Err left

-- a line, and those behind it where it isn't the last
abbrev pub line_and_more : Line → List ℕ → Bool → (List ℕ → Result (List Line × List ℕ) ℕ) → Result (List Line × List ℕ) ℕ
line_and_more line bytes true more = Ok ([], bytes)
line_and_more line bytes false more = behind_lines (line ∷ []) (more bytes)

-- the lines at the front of some bytes, so many at most, up to the last one, and the bytes behind
-- that
unfoldable pub lines_in : ℕ → Exercise → Before → List ℕ → Result (List Line × List ℕ) ℕ
lines_in zero ex before bytes = Err (length bytes)
lines_in (suc most) ex before bytes = do
  line ← line_in ex before bytes
  line_and_more line.0 line.1 (is_last line.0) (lines_in most ex (after before line.0))

-- the lines of the lists at the front of some bytes, and the bytes behind `claims`; refused as a
-- line is, so many bytes being left
abbrev pub lists_in : Exercise → List ℕ → Result (List Line × List ℕ) ℕ
lists_in ex bytes = lines_in most_lines ex nothing_before bytes

-- what a reader answers is what is read, unless memory ran out
abbrev pub IsReadLists : Result (List Line × List ℕ) ℕ → Result (List Line × List ℕ) ListsFault → Type 0
IsReadLists read (Ok found) = read ≡ Ok found
IsReadLists read (Err (faults.Word left)) = read ≡ Err left
IsReadLists read (Err faults.Memory) = ⊤

-- ---- laws

-- lists are read as they are written
abbrev pub ListsAreRead : Type 0
ListsAreRead = (ex : Exercise) (lines : List Line) (rest : List ℕ) → ex.voices ≤ 4 → AreLists ex lines
    → length (lists_text lines) ≤ most_lines → lists_in ex (lists_text lines ++ rest) ≡ Ok (lines, rest)

-- what is read are lists, and their text stands at the front of the bytes
pub record AreReadLists (ex : Exercise) (lines : List Line) (bytes rest : List ℕ) : Type 0 where
  pub lists : AreLists ex lines
  pub text : bytes ≡ lists_text lines ++ rest

abbrev pub ReadListsFit : Type 0
ReadListsFit = (ex : Exercise) (lines : List Line) (bytes rest : List ℕ) → lists_in ex bytes ≡ Ok (lines, rest)
    → AreReadLists ex lines bytes rest
