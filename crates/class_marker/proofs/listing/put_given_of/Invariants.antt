use Rattle.std.proofs.Common.{◌≡◌, ◌+◌, ◌-◌, ◌++◌, filter, map}
use Rattle.std.specs.List.{range_with_len}
use Rattle.class_marker.specs.declared.difference.Difference.TheVariants.{Given}
use Rattle.class_marker.specs.Differences.{differs}
use Rattle.class_marker.proofs.listing.put_given_of.Given as goal

-- what is told so far, and what is left, are what is to be told
abbrev pub invariant-loop-bar : goal.invariant-loop-bar
invariant-loop-bar l =
    l.out.items ++ filter (differs l.lesson l.answer l.score.columns) (map (λ bar. Given l.voice bar) (range_with_len l.bar (l.bars + 1 - l.bar)))
    ≡ l.fn.out.items ++ filter (differs l.lesson l.answer l.score.columns) (map (λ bar. Given l.voice bar) (range_with_len 1 l.bars))
