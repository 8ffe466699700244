use Rattle.std.proofs.Common.{◌≡◌, length, ◌-◌, ◌≤◌, ◌++◌, string_bytes, map, drop}
use Rattle.fux_text.specs.GivenItems.{given_items, given_word}
use Rattle.fux_text.specs.Words.{spaced}
use Rattle.fux_text.proofs.items.put_items.Given as goal

-- what is written so far, and the items of what is left, are what is to be written
abbrev pub invariant-loop-first : goal.invariant-loop-first
invariant-loop-first l =
    (l.first ≤ length l.cells)
    × (string_bytes l.out ++ spaced (map given_word (given_items (drop l.first l.cells))) ≡ string_bytes l.fn.out
    ++ spaced (map given_word (given_items l.cells)))

abbrev pub decreases-loop-first : goal.decreases-loop-first
decreases-loop-first l = length l.cells - l.first
