use Rattle.std.proofs.Common.{map, min, arith}
use Rattle.class_marker.specs.declared.difference.Difference.TheVariants.{Range}
use Rattle.class_marker.specs.Differences.{common_bars, differs}
use Rattle.class_marker.proofs.SectionLemmas.{all_parts_kept, numbers_kept}
use Rattle.class_marker.proofs.listing.put_ranges.Goals as goal

pub loop-voice-preserved : goal.loop-voice-preserved
loop-voice-preserved c = λ s.
    let lesson = c.args.lesson.now in
    let answer = c.args.answer.now in
    numbers_kept (differs lesson answer s) (λ v. map (λ bar. Range v bar) (common_bars lesson answer)) _ _ _ c.loop-voice.voice
    (min lesson.voices answer.voices) (omega arith) (c.in_ok-put_ranges_of.ensures s) (c.loop-voice.invariant s)

pub returns : goal.returns
returns c = λ s.
    let lesson = c.args.lesson.now in
    let answer = c.args.answer.now in
    all_parts_kept (differs lesson answer s) (λ v. map (λ bar. Range v bar) (common_bars lesson answer)) _ _ c.loop-voice.voice
    (min lesson.voices answer.voices) (omega arith) (c.loop-voice.invariant s)
