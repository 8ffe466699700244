use Rattle.std.proofs.Common.{◌≡◌, ◌-◌, ◌++◌, List, filter, map, min}
use Rattle.std.specs.List.{flat_map, range_with_len}
use Rattle.fux_grid.specs.declared.cell.Cell.{Cell}
use Rattle.class_marker.specs.declared.difference.Difference.TheVariants.{Range}
use Rattle.class_marker.specs.Differences.{common_bars, differs}
use Rattle.class_marker.proofs.listing.put_ranges.Given as goal

-- what is told so far, and what is left, are what is to be told
abbrev pub invariant-loop-voice : goal.invariant-loop-voice
invariant-loop-voice l = (s : List (List Cell)) →
    l.out.items ++ filter (differs l.lesson l.answer s) (flat_map (λ v. map (λ bar. Range v bar) (common_bars l.lesson l.answer))
    (range_with_len l.voice (min l.lesson.voices l.answer.voices - l.voice)))
    ≡ l.fn.out.items ++ filter (differs l.lesson l.answer s) (flat_map (λ v. map (λ bar. Range v bar) (common_bars l.lesson l.answer))
    (range_with_len 0 (min l.lesson.voices l.answer.voices)))
