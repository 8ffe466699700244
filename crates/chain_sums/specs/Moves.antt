-- What the moves of single voices cost, and tables of it.
use Rattle.std.specs.Prelude.{◌≡◌, ℕ, ◌+◌, ◌^◌, ◌<◌, ◌≤◌, List, [], length, slice_index_or, Option, Some, None, IsSomeAnd}
use Rattle.std.specs.List.{All}
use Rattle.fux_grid.specs.declared.cell.Cell.{Cell}
use Rattle.fux_grid.specs.declared.cell.Cell.TheVariants.{Rest}
use Rattle.fux_grid.specs.Cells.{cell_in}
use Rattle.chain_sums.specs.declared.moves.CellNumbers.{CellNumbers}
use Rattle.chain_sums.specs.declared.moves.Choir.{Choir}
use Rattle.chain_sums.specs.declared.moves.ChoirRows.{ChoirRows}
use Rattle.chain_sums.specs.declared.moves.Moves.{Moves}
use Rattle.chain_sums.specs.declared.moves.VoiceMoves.{VoiceMoves}
use Rattle.chain_sums.specs.declared.moves.VoiceRow.{VoiceRow}
use Rattle.chain_sums.specs.Chains.{Chains, plus}
use Rattle.chain_sums.specs.Rows.{AllAtMost}

-- what the moves of the voices of two columns cost together, of four voices at most
abbrev pub moves_sum : (ℕ → Cell → Cell → Option ℕ) → List Cell → List Cell → Option ℕ
moves_sum moves before d =
    plus (moves 0 (cell_in before 0) (cell_in d 0))
    (plus (moves 1 (cell_in before 1) (cell_in d 1))
    (plus (moves 2 (cell_in before 2) (cell_in d 2)) (moves 3 (cell_in before 3) (cell_in d 3))))

-- a column behind another costs at least what it costs whatever stands before it, and what the
-- moves of the voices cost
abbrev pub AreLeastMoves : Chains → ℕ → (List Cell → Option ℕ) → (ℕ → Cell → Cell → Option ℕ) → Type 0
AreLeastMoves c i own moves = (before d : List Cell) (x y : ℕ) → c.cost i (Some before) d ≡ Some x → own d ≡ Some y
    → IsSomeAnd (moves_sum moves before d) (λ z. y + z ≤ x)

-- a row has what the moves to the first of some cells cost
pub record AreMovesTo (cost : Cell → Option ℕ) (to : List Cell) (row : List (Option ℕ)) : Type 0 where
  pub within : length row ≤ length to
  pub same : (n : ℕ) → n < length row → slice_index_or row n None ≡ cost (slice_index_or to n Rest)
  pub small : AllAtMost (2 ^ 50) row

-- each row of a voice's table has what the moves from its cell cost
abbrev pub AreVoiceMoves : (Cell → Cell → Option ℕ) → VoiceMoves → Type 0
AreVoiceMoves moves it = All (λ from. AreMovesTo (moves from.cell) it.to.items from.costs.items) it.from.items

-- the tables of all voices are such tables
pub record AreChoirMoves (moves : ℕ → Cell → Cell → Option ℕ) (choir : Choir) : Type 0 where
  pub bass : AreVoiceMoves (moves 0) choir.bass
  pub tenor : AreVoiceMoves (moves 1) choir.tenor
  pub alto : AreVoiceMoves (moves 2) choir.alto
  pub soprano : AreVoiceMoves (moves 3) choir.soprano

-- the cell that has this number, if any has it, is that one
abbrev pub IsNumberAmong : List Cell → Cell → ℕ → Type 0
IsNumberAmong cells cell n = n < length cells → slice_index_or cells n Rest ≡ cell

-- each cell of a column has its number in its voice's table
pub record AreNumbersOf (choir : Choir) (d : List Cell) (numbers : CellNumbers) : Type 0 where
  pub bass : IsNumberAmong choir.bass.to.items (cell_in d 0) numbers.bass
  pub tenor : IsNumberAmong choir.tenor.to.items (cell_in d 1) numbers.tenor
  pub alto : IsNumberAmong choir.alto.to.items (cell_in d 2) numbers.alto
  pub soprano : IsNumberAmong choir.soprano.to.items (cell_in d 3) numbers.soprano

-- a row of a voice's table has what the moves from a cell cost
pub record IsRowFrom (moves : Cell → Cell → Option ℕ) (it : VoiceMoves) (cell : Cell) (row : VoiceRow) : Type 0 where
  pub of : row.moves.now ≡ it
  pub costs : AreMovesTo (moves cell) it.to.items row.costs.now

-- the rows of all voices' tables for the cells of a column
pub record AreRowsFrom (moves : ℕ → Cell → Cell → Option ℕ) (choir : Choir) (before : List Cell) (rows : ChoirRows) : Type 0
  where
    pub bass : IsRowFrom (moves 0) choir.bass (cell_in before 0) rows.bass
    pub tenor : IsRowFrom (moves 1) choir.tenor (cell_in before 1) rows.tenor
    pub alto : IsRowFrom (moves 2) choir.alto (cell_in before 2) rows.alto
    pub soprano : IsRowFrom (moves 3) choir.soprano (cell_in before 3) rows.soprano

-- the first so many columns of a menu have these numbers
abbrev pub AreNumbersAt : Choir → List (List Cell) → List CellNumbers → Type 0
AreNumbersAt choir menu numbers = (k : ℕ) (d : CellNumbers) → k < length numbers
    → AreNumbersOf choir (slice_index_or menu k []) (slice_index_or numbers k d)

-- tables of the moves from one menu to another, and the numbers of the other's columns
pub record AreMovesOf (moves : ℕ → Cell → Cell → Option ℕ) (menu : List (List Cell)) (it : Moves) : Type 0 where
  pub choir : AreChoirMoves moves it.choir
  pub numbers : AreNumbersAt it.choir menu it.numbers.items
  pub beside : length it.numbers.items ≡ length menu
