use Rattle.std.proofs.Common.{◌≡◌, ◌-◌, ◌++◌, filter, map, min}
use Rattle.std.specs.List.{flat_map, range_with_len}
use Rattle.class_marker.specs.declared.difference.Difference.TheVariants.{Given}
use Rattle.class_marker.specs.Differences.{common_bars, differs}
use Rattle.class_marker.proofs.listing.put_given.Given as goal

-- what is told so far, and what is left, are what is to be told
abbrev pub invariant-loop-voice : goal.invariant-loop-voice
invariant-loop-voice l =
    l.out.items ++ filter (differs l.lesson l.answer l.score.columns) (flat_map (λ v. map (λ bar. Given v bar) (common_bars l.lesson l.answer))
    (range_with_len l.voice (min l.lesson.voices l.answer.voices - l.voice)))
    ≡ l.fn.out.items ++ filter (differs l.lesson l.answer l.score.columns) (flat_map (λ v. map (λ bar. Given v bar) (common_bars l.lesson l.answer))
    (range_with_len 0 (min l.lesson.voices l.answer.voices)))
