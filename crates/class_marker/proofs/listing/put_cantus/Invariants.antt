use Rattle.std.proofs.Common.{◌≡◌, ◌+◌, ◌-◌, ◌++◌, List, filter, map}
use Rattle.std.specs.List.{range_with_len}
use Rattle.fux_grid.specs.declared.cell.Cell.{Cell}
use Rattle.class_marker.specs.declared.difference.Difference.TheVariants.{Cantus}
use Rattle.class_marker.specs.Differences.{differs}
use Rattle.class_marker.proofs.listing.put_cantus.Given as goal

-- what is told so far, and what is left, are what is to be told
abbrev pub invariant-loop-bar : goal.invariant-loop-bar
invariant-loop-bar l = (s : List (List Cell)) →
    l.out.items ++ filter (differs l.lesson l.answer s) (map (λ bar. Cantus bar) (range_with_len l.bar (l.bars + 1 - l.bar)))
    ≡ l.fn.out.items ++ filter (differs l.lesson l.answer s) (map (λ bar. Cantus bar) (range_with_len 1 l.bars))
