use Rattle.std.proofs.Common.{◌≡◌, ◌+◌, ◌-◌, ◌++◌, suc, string_bytes, append-nil, ap, sym, ◌∙◌, arith}
use Rattle.std.specs.List.{flat_map, range_with_len}
use Rattle.score_print.specs.Systems.{fits, printed_system}
use Rattle.score_print.proofs.Filling.{all-wrapped, begun-anew, kept-on, systems_from}
use Rattle.score_print.proofs.RowSteps.{moved}
use Rattle.score_print.proofs.systems.print_wrapped.Goals as goal
use Rattle.score_print.proofs.systems.print_wrapped.Goals.{then-not-fits+in_ok-put_system, else-not-fits}

pub loop-bar-preserved : goal.loop-bar-preserved
loop-bar-preserved c =
    let ex = c.args.ex.now in
    let bar = c.loop-bar.bar in
    let first = c.loop-bar.first in
    let slots = c.slots_shown-slots.result in
    let f = printed_system ex slots in
    let fit = fits ex c.args.columns slots in
    let left = (ex.bars + 1) - (bar + 1) in
    let out = string_bytes c.loop-bar.out in
    let now = string_bytes c.if-not-fits.out in
    let whole = flat_map f (systems_from fit 1 2 ((ex.bars + 1) - 2)) in
    let next : (ex.bars + 1) - bar ≡ suc left = omega (arith, c.loop-bar-test.true) in
    let so_far = ap (λ n. out ++ flat_map f (systems_from fit first bar n)) (sym next) ∙ c.loop-bar.invariant.written in
    elim c.if-not-fits.branch [
      | then-not-fits+in_ok-put_system w ↦
          record {
            least = omega (arith, w.first-is, c.loop-bar.invariant.least, c.loop-bar.invariant.before);
            before = omega (arith, w.first-is);
            written = ap (λ n. now ++ flat_map f (systems_from fit n (bar + 1) left)) w.first-is
                ∙ moved out now (f (range_with_len first (bar - first))) (flat_map f (systems_from fit bar (bar + 1) left)) whole
                (ap string_bytes w.out-is ∙ w.in_ok-put_system.ensures)
                (ap (λ systems. out ++ flat_map f systems)
                (sym (begun-anew fit first bar left (sym c.fits.ensures ∙ w.if-not-fits.true))) ∙ so_far);
          }
      | else-not-fits w ↦
          record {
            least = omega (arith, w.first-is, c.loop-bar.invariant.least);
            before = omega (arith, w.first-is, c.loop-bar.invariant.before);
            written = ap (λ n. now ++ flat_map f (systems_from fit n (bar + 1) left)) w.first-is
                ∙ ap (λ text. string_bytes text ++ flat_map f (systems_from fit first (bar + 1) left)) w.out-is
                ∙ ap (λ systems. out ++ flat_map f systems)
                (sym (kept-on fit first bar left (sym c.fits.ensures ∙ w.if-not-fits.false))) ∙ so_far;
          }
    ]

pub returns : goal.returns
returns c =
    let ex = c.args.ex.now in
    let bar = c.loop-bar.bar in
    let first = c.loop-bar.first in
    let slots = c.slots_shown-slots.result in
    let f = printed_system ex slots in
    let fit = fits ex c.args.columns slots in
    let out = string_bytes c.loop-bar.out in
    let all : ex.bars + 1 ≡ bar = omega (arith, c.loop-bar-test.false, c.loop-bar.auto.bar-end) in
    let none : 0 ≡ (ex.bars + 1) - bar = omega (arith, all) in
    all-wrapped ex c.args.columns slots (string_bytes c.put_system-2.new.out) c.slots_shown-slots.ensures.value
    c.requires.fewest_bars
    (c.in_ok-put_system-2.ensures
    ∙ ap (λ n. out ++ f (range_with_len first (n - first))) all
    ∙ ap (λ t. out ++ t) (sym (append-nil (f (range_with_len first (bar - first)))))
    ∙ ap (λ n. out ++ flat_map f (systems_from fit first bar n)) none ∙ c.loop-bar.invariant.written)
