-- Rows in pieces, and what they are worked from.
use Rattle.std.specs.Prelude.{ℕ, ◌^◌, ◌<◌, List, length, slice_index_or, Option, Some, IfOk, Result}
use Rattle.std.specs.Fork.{slice_chunk}
use Rattle.std.specs.List.{AllZip}
use Rattle.std.specs.declared.alloc.Global.{Global}
use Rattle.std.specs.declared.vec.Vec.{Vec}
use Rattle.arrayvec.specs.ArrayVec.{ArrayVec}
use Rattle.fux_pitch.specs.declared.memory.Memory.{Memory}
use Rattle.fux_grid.specs.declared.cell.Cell.{Cell}
use Rattle.chain_sums.specs.declared.finished.Finished.{Finished}
use Rattle.chain_sums.specs.declared.finished.Finished.TheVariants.{Still, Tried}
use Rattle.chain_sums.specs.declared.menu.Menu.{Menu}
use Rattle.chain_sums.specs.Chains.{Chains, IsLeast}
use Rattle.chain_sums.specs.Choices.{AreChoices}
use Rattle.chain_sums.specs.Menus.{IsMenuOf, IsPacked}
use Rattle.chain_sums.specs.Rows.{AllAtMost, IsOneCostAboveRow, IsRow}
use Rattle.chain_sums.specs.Still.{IsStill}

-- the least sums of the place that comes next
abbrev pub sums_in : Finished → List (Option ℕ)
sums_in (Still menu sums) = sums.now
sums_in (Tried choices) = choices.sums.now

-- a place's menu, each column of which holds all it sounds, and the least sums behind its columns
pub record IsStillRow (c : Chains) (i : ℕ) (next : Menu) (sums : List (Option ℕ)) : Type 0 where
  pub menu : IsMenuOf (c.menu i) next
  pub packed : IsPacked c.voices next
  pub still : IsStill (c.menu i)
  pub row : IsRow c i sums
  pub small : AllAtMost (2 ^ 62) sums

-- what a row is worked from is that of the place
abbrev pub IsFinished : Chains → (List Cell → Option ℕ) → (ℕ → Cell → Cell → Option ℕ) → ℕ → Finished → Type 0
IsFinished c own moved i (Still menu sums) = IsStillRow c i menu.now sums.now
IsFinished c own moved i (Tried choices) = AreChoices c own moved i choices

-- the least sum behind a column, one cost at most above those of the row that it is worked from
pub record IsEntry (c : Chains) (i : ℕ) (next : List (Option ℕ)) (d : List Cell) (sum : Option ℕ) : Type 0 where
  pub least : IsLeast c i (Some d) sum
  pub small : IsOneCostAboveRow next sum

-- each of some columns has its entry beside it
abbrev pub AreEntries : Chains → ℕ → List (Option ℕ) → List (ArrayVec Cell) → List (Option ℕ) → Type 0
AreEntries c i next columns sums = AllZip (λ column sum. IsEntry c i next column.items sum) columns sums

-- a piece that may be lacking
abbrev pub Piece : Type 0
Piece = Result (Vec (Option ℕ) Global) Memory

-- each piece that is there has the entries of the chunk of its number
abbrev pub ArePieces : Chains → ℕ → List (Option ℕ) → ℕ → List (ArrayVec Cell) → List Piece → Type 0
ArePieces c i next size columns pieces = (n : ℕ) (d : Piece) → n < length pieces
    → IfOk (slice_index_or pieces n d) (λ part. AreEntries c i next (slice_chunk columns size n) part.items)
