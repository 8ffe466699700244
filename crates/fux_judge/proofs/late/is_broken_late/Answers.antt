use Rattle.std.proofs.Common.{◌≡◌, ◌+◌, ◌||◌, true, false, ap, sym, ◌∙◌, add-one, length, arith}
use Rattle.std.specs.List.{list_any}
use Rattle.rule_law.specs.Forms.{sets_of}
use Rattle.rule_law.specs.Growth.{any_below}
use Rattle.rule_law.specs.Rulebooks.{IsAmong}
use Rattle.fux_judge.specs.Penalties.{newly_broken_at}
use Rattle.fux_judge.specs.Rules.{rule_at}
use Rattle.fux_judge.proofs.LateLemmas.{any_below-found, as_far, breaks_among, some_at}
use Rattle.fux_judge.proofs.late.is_broken_late.Goals as goal

pub returns-then-breaks_for : goal.returns-then-breaks_for
returns-then-breaks_for c = λ p col come.
    let ex = c.args.ex.now in
    let places = c.places_left-places.result in
    let far = as_far ex c.args.next.now p col come in
    let row = rule_at c.args.rule in
    let sets = c.sets_of-sets.ensures.value ∙ ap (λ form. sets_of form ex.voices) c.form_of.ensures in
    let among : IsAmong (row.first ex (length p)) (row.count ex (length p)) (places.first + c.loop-k.k) =
    record {
      from = omega (arith, c.places_left-places.ensures.from, ap (row.first ex) far);
      to = omega (
        arith,
        c.places_left-places.ensures.to,
        ap (row.first ex) far,
        ap (row.count ex) far,
        c.loop-k-test.true,
      );
    } in
    let here : some_at c.args.rule ex p col (places.first + c.loop-k.k) ≡ true =
    sym (ap (list_any (λ voices. newly_broken_at c.args.rule ex voices p col (places.first + c.loop-k.k))) sets)
    ∙ sym (c.breaks_for.ensures p col come among) ∙ c.if-breaks_for.true in
    sym (sym (breaks_among c.args.rule ex p col c.requires.late come.on places.first places.count
    (omega (arith, c.places_left-places.ensures.within, far, c.requires.begun))
    (c.places_left-places.ensures.left p col come))
    ∙ any_below-found (λ k. some_at c.args.rule ex p col (places.first + k)) c.loop-k.k places.count
    (omega (arith, c.loop-k-test.true)) here)

pub loop-k-preserved : goal.loop-k-preserved
loop-k-preserved c = λ p col come.
    let ex = c.args.ex.now in
    let places = c.places_left-places.result in
    let far = as_far ex c.args.next.now p col come in
    let row = rule_at c.args.rule in
    let sets = c.sets_of-sets.ensures.value ∙ ap (λ form. sets_of form ex.voices) c.form_of.ensures in
    let among : IsAmong (row.first ex (length p)) (row.count ex (length p)) (places.first + c.loop-k.k) =
    record {
      from = omega (arith, c.places_left-places.ensures.from, ap (row.first ex) far);
      to = omega (
        arith,
        c.places_left-places.ensures.to,
        ap (row.first ex) far,
        ap (row.count ex) far,
        c.loop-k-test.true,
      );
    } in
    let here : some_at c.args.rule ex p col (places.first + c.loop-k.k) ≡ false =
    sym (ap (list_any (λ voices. newly_broken_at c.args.rule ex voices p col (places.first + c.loop-k.k))) sets)
    ∙ sym (c.breaks_for.ensures p col come among) ∙ c.if-breaks_for.false in
    ap (any_below (λ k. some_at c.args.rule ex p col (places.first + k))) (add-one c.loop-k.k)
    ∙ ap (λ b. b || some_at c.args.rule ex p col (places.first + c.loop-k.k)) (c.loop-k.invariant p col come)
    ∙ here

pub returns : goal.returns
returns c = λ p col come.
    let ex = c.args.ex.now in
    let places = c.places_left-places.result in
    let far = as_far ex c.args.next.now p col come in
    let end : c.loop-k.k ≡ places.count = omega (arith, c.loop-k-test.false) in
    sym (sym (breaks_among c.args.rule ex p col c.requires.late come.on places.first places.count
    (omega (arith, c.places_left-places.ensures.within, far, c.requires.begun))
    (c.places_left-places.ensures.left p col come))
    ∙ ap (any_below (λ k. some_at c.args.rule ex p col (places.first + k))) (sym end) ∙ c.loop-k.invariant p col come)

pub returns-then-places-eq0 : goal.returns-then-places-eq0
returns-then-places-eq0 c = λ p col come.
    let ex = c.args.ex.now in
    let places = c.places_left-places.result in
    let far = as_far ex c.args.next.now p col come in
    sym (sym (breaks_among c.args.rule ex p col c.requires.late come.on places.first places.count
    (omega (arith, c.places_left-places.ensures.within, far, c.requires.begun))
    (c.places_left-places.ensures.left p col come))
    ∙ ap (any_below (λ k. some_at c.args.rule ex p col (places.first + k))) c.if-places-eq0.true)
