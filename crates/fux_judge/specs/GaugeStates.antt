-- What a state knows of the lines for the gauges, and of the columns ahead of them.
use Rattle.std.specs.Prelude.{◌≡◌, ℕ, ◌+◌, ◌-◌, ◌<◌, ◌≤◌, pos, true, false, List, [], Some, length, slice_get}
use Rattle.fux_grid.specs.declared.cell.Cell.{Cell}
use Rattle.fux_grid.specs.declared.exercise.Exercise.{Exercise}
use Rattle.fux_grid.specs.Cells.{cell_in}
use Rattle.fux_grid.specs.Columns.{line}
use Rattle.fux_grid.specs.Exercises.{IsFree, IsValid, columns_in}
use Rattle.fux_grid.specs.Menus.{IsInMenu}
use Rattle.rule_law.specs.Gauges.{starts_ahead}
use Rattle.rule_law.specs.Prefixes.{IsPrefix}
use Rattle.melody_rules.specs.GaugeParts.{IsClimaxOf, IsCompassOf, IsLeapsOf, IsStrikesOf}
use Rattle.melody_rules.specs.Gauges.{is_topped}
use Rattle.melody_rules.specs.Rows.{pitches}
use Rattle.fux_judge.specs.declared.ahead.LineAhead.{LineAhead}
use Rattle.fux_judge.specs.declared.gauges.LineGauges.{LineGauges}

-- what is kept is of the line: each gauge's part is of its notes
pub record IsGaugesOf (cells : List Cell) (kept : LineGauges) : Type 0 where
  pub climax : IsClimaxOf (pitches cells) kept.climax
  pub compass : IsCompassOf (pitches cells) kept.compass
  pub leaps : IsLeapsOf (pitches cells) kept.leaps
  pub strikes : IsStrikesOf (pitches cells) kept.strikes

-- of each free voice's line in a history of columns
abbrev pub AreGaugesOf : Exercise → List (List Cell) → List LineGauges → Type 0
AreGaugesOf ex behind voices =
    (v : ℕ) (kept : LineGauges) → IsFree ex v → slice_get voices v ≡ Some kept → IsGaugesOf (line v behind) kept

-- each is of a line without cells
abbrev pub AreUngauged : List LineGauges → Type 0
AreUngauged voices = (v : ℕ) (kept : LineGauges) → slice_get voices v ≡ Some kept → IsGaugesOf [] kept

-- from column i on: the starts ahead of the voice, the last bar's place for a note above a lower
-- key, and a key above which no column has one
pub record IsAheadOf (ex : Exercise) (v i : ℕ) (ahead : LineAhead) : Type 0 where
  pub starts : ahead.starts ≡ starts_ahead ex v i
  pub last_high : (key : ℕ) → key < ahead.last_high → is_topped ex v (pos key) (columns_in ex - 8) ≡ false
  pub highest : (key : ℕ) → ahead.highest ≤ key → (j : ℕ) → j < columns_in ex → is_topped ex v (pos key) j ≡ true

-- with the voice's cell from a column of the menu of column i, what lies ahead from there on
-- becomes what lies ahead from the next column on
abbrev pub StepsAhead : Exercise → ℕ → ℕ → Cell → LineAhead → LineAhead → Type 0
StepsAhead ex v i cell ahead after =
    (col : List Cell) → IsInMenu ex i col → cell_in col v ≡ cell → IsFree ex v
    → IsAheadOf ex v i ahead → IsAheadOf ex v (i + 1) after

-- whatever i cells of the voice's line are kept, the answer is what is read of them
abbrev pub TellsOfLine : Exercise → ℕ → ℕ → LineGauges → LineAhead → (List Cell → ℕ) → ℕ → Type 0
TellsOfLine ex v i kept ahead read told =
    (cells : List Cell) → length cells ≡ i → IsGaugesOf cells kept → IsAheadOf ex v i ahead → told ≡ read cells

-- what lies ahead of each free voice behind a prefix of a valid exercise
abbrev pub AreAheadOf : Exercise → List (List Cell) → List LineAhead → Type 0
AreAheadOf ex p voices =
    IsValid ex → IsPrefix ex p → (v : ℕ) (ahead : LineAhead)
    → IsFree ex v → slice_get voices v ≡ Some ahead → IsAheadOf ex v (length p) ahead
