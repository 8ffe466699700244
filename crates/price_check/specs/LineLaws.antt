-- What is written of a line is read, and what is read is what is written of a line.
use Rattle.std.specs.Prelude.{◌≡◌, ℕ, ◌≤◌, List, ◌++◌, Result, Ok, Err}
use Rattle.fux_grid.specs.declared.exercise.Exercise.{Exercise}
use Rattle.price_check.specs.declared.line.Before.{Before}
use Rattle.price_check.specs.PriceLines.{Fits, Line, line_text}
use Rattle.price_check.specs.Reading.{line_in}

-- the keys that are read stand behind those before; where they are refused, so many bytes are left
abbrev pub IsKeysRead : List ℕ → Result (List ℕ × List ℕ) ℕ → List ℕ → Result (List ℕ) ℕ → Type 0
IsKeysRead old (Ok found) new result = (new ≡ old ++ found.0) × (result ≡ Ok found.1)
IsKeysRead old (Err left) new result = result ≡ Err left

-- a line that may stand there is read as it is written
abbrev pub LinesAreRead : Type 0
LinesAreRead = (ex : Exercise) (before : Before) (line : Line) (rest : List ℕ) → ex.voices ≤ 4 → before.cases ≤ 16
    → Fits ex before line → line_in ex before (line_text line ++ rest) ≡ Ok (line, rest)

-- what is read may stand there, and its text stands at the front of the bytes
pub record IsRead (ex : Exercise) (before : Before) (line : Line) (bytes rest : List ℕ) : Type 0 where
  pub fits : Fits ex before line
  pub text : bytes ≡ line_text line ++ rest

abbrev pub ReadLinesFit : Type 0
ReadLinesFit = (ex : Exercise) (before : Before) (line : Line) (bytes rest : List ℕ)
    → line_in ex before bytes ≡ Ok (line, rest) → IsRead ex before line bytes rest
