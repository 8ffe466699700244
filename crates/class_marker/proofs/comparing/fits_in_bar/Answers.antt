use Rattle.std.proofs.Common.{◌≡◌, ◌-◌, ap, sym, ◌∙◌, refl, arith}
use Rattle.std.specs.List.{list_all, range_with_len}
use Rattle.class_marker.specs.Differences.{fits_at, fits_in_bar}
use Rattle.class_marker.proofs.SectionLemmas.{range_first}
use Rattle.class_marker.proofs.comparing.fits_in_bar.Goals as goal

pub loop-slot-preserved : goal.loop-slot-preserved
loop-slot-preserved c =
    let test = fits_at c.args.lesson.now c.args.score.now.columns c.args.v c.args.bar in
    let k = c.loop-slot.slot in
    c.loop-slot.invariant ∙ ap (list_all test) (range_first k 8 (omega arith))
    ∙ rw (sym c.if-not-fits_at.ensures) refl

pub returns-then-not-fits_at : goal.returns-then-not-fits_at
unfolding fits_in_bar
returns-then-not-fits_at c =
    let test = fits_at c.args.lesson.now c.args.score.now.columns c.args.v c.args.bar in
    let k = c.loop-slot.slot in
    sym (c.loop-slot.invariant ∙ ap (list_all test) (range_first k 8 (omega arith))
    ∙ rw (sym c.if-not-fits_at.ensures) refl)

pub returns : goal.returns
unfolding fits_in_bar
returns c =
    let test = fits_at c.args.lesson.now c.args.score.now.columns c.args.v c.args.bar in
    let none : 8 - c.loop-slot.slot ≡ 0 = omega arith in
    sym (c.loop-slot.invariant ∙ ap (λ n. list_all test (range_with_len c.loop-slot.slot n)) none)
