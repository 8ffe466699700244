-- What the search for a cell that fits keeps.
use Rattle.std.proofs.Common.{◌≡◌, ℕ, ◌<◌, ◌≤◌, false}
use Rattle.canon_space.specs.Canons.{fits}
use Rattle.canon_space.specs.Kept.{history_of}
use Rattle.canon_space.specs.Paths.{numbered_cell}
use Rattle.canon_space.proofs.bars.next_cell.Given as goal

-- none so far fits
abbrev pub invariant-loop-number : goal.invariant-loop-number
invariant-loop-number l =
    (n : ℕ) → l.from ≤ n → n < l.number → fits l.canon (history_of l.behind) l.v (numbered_cell n) ≡ false
