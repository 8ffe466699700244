-- All that is known of the columns that may come next.
use Rattle.std.specs.Prelude.{◌≡◌, ℕ, ◌+◌, ◌^◌, ◌≤◌, List, Option, IsSomeAnd, Some}
use Rattle.std.specs.Bool.{OnTrue}
use Rattle.fux_grid.specs.declared.cell.Cell.{Cell}
use Rattle.chain_sums.specs.declared.choices.Choices.{Choices}
use Rattle.chain_sums.specs.Candidates.{AreAllCandidates, GoByBounds}
use Rattle.chain_sums.specs.Chains.{Chains}
use Rattle.chain_sums.specs.Fresh.{AllFollowAll}
use Rattle.chain_sums.specs.Menus.{IsMenuOf}
use Rattle.chain_sums.specs.Moves.{AreMovesOf}
use Rattle.chain_sums.specs.Rows.{AllAtMost, IsRow}

-- a place's menu, the least sums behind its columns, those of them that may have a sum, by what it
-- is at least, and the moves to them
pub record AreChoices (c : Chains) (own : List Cell → Option ℕ) (moved : ℕ → Cell → Cell → Option ℕ) (i : ℕ) (it : Choices) :
    Type 0 where
  pub menu : IsMenuOf (c.menu i) it.menu.now
  pub row : IsRow c i it.sums.now
  pub small : AllAtMost (2 ^ 62) it.sums.now
  pub candidates : AreAllCandidates c own i it.sums.now it.candidates.now
  pub order : GoByBounds it.candidates.now
  pub moves : AreMovesOf moved (c.menu i) it.moves.now
  pub always : OnTrue it.always (AllFollowAll (c.menu i))

-- a cost with the least sum behind it is no less than a sum that is there; nothing is said where
-- nothing is behind it
abbrev pub IsNoLess : Option ℕ → ℕ → Option ℕ → Type 0
IsNoLess least cost rest = (x : ℕ) → rest ≡ Some x → IsSomeAnd least (λ y. y ≤ cost + x)
