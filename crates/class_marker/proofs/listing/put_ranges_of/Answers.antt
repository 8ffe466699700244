use Rattle.std.proofs.Common.{◌+◌, ◌++◌, ◌∙◌, filter, map, ap, arith}
use Rattle.std.specs.List.{range_with_len}
use Rattle.class_marker.specs.declared.difference.Difference.TheVariants.{Range}
use Rattle.class_marker.specs.Differences.{differs}
use Rattle.class_marker.proofs.SectionLemmas.{all_kept, number_kept}
use Rattle.class_marker.proofs.listing.put_ranges_of.Goals as goal

pub loop-bar-preserved : goal.loop-bar-preserved
loop-bar-preserved c = λ s.
    number_kept (differs c.args.lesson.now c.args.answer.now s) (λ bar. Range c.args.voice bar) _ _ _ _ c.loop-bar.bar
    (c.fewer-bars.result + 1) (omega arith) (c.differs_in_range-is_other.ensures) c.in_ok-put_if.ensures (c.loop-bar.invariant s)

pub returns : goal.returns
returns c = λ s.
    let P = differs c.args.lesson.now c.args.answer.now s in
    all_kept P (λ bar. Range c.args.voice bar) _ _ c.loop-bar.bar (c.fewer-bars.result + 1) (omega arith) (c.loop-bar.invariant s)
    ∙ ap (λ n. c.args.out.now.items ++ filter P (map (λ bar. Range c.args.voice bar) (range_with_len 1 n))) c.fewer-bars.ensures
