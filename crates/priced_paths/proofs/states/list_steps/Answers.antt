use Rattle.std.proofs.Common.{◌≡◌, add-zero, arith, sym, ap, ◌+◌, ◌∙◌, if◌then◌else◌}
use Rattle.priced_paths.proofs.Listing.{counted_few, list_begins, list_ends, list_more, too_many}
use Rattle.priced_paths.proofs.states.list_steps.Goals.{then-made, else-made}
use Rattle.priced_paths.proofs.states.list_steps.Goals as goal

pub loop-label-init : goal.loop-label-init
loop-label-init g c = list_begins _ _ _ _ c.args.state.now c.args.states.now.keys c.requires.workable

pub returns-then-len-gt-MOST_SPOTS-clause-large : goal.returns-then-len-gt-MOST_SPOTS-clause-large
returns-then-len-gt-MOST_SPOTS-clause-large g c = λ same.
    too_many _ _ _ _ c.args.state.now c.loop-label.label c.loop-label.edges c.args.states.now.keys c.loop-label.states.keys
    c.list_next.new.states.keys c.requires.workable.is (omega (arith, c.loop-label-test.true, c.requires.labels))
    c.loop-label.invariant c.in_ok-made.ensures.grown (omega (arith, c.if-len-gt-MOST_SPOTS.true, c.len.ensures.len))

pub loop-label-preserved : goal.loop-label-preserved
loop-label-preserved g c =
    let counts : c.if-made.edges ≡ c.loop-label.edges + (if c.in_ok-made.made then 1 else 0) = elim c.if-made.branch [
      | then-made w ↦ w.edges-is ∙ ap (λ b. c.loop-label.edges + (if b then 1 else 0)) (sym w.if-made.true)
      | else-made w ↦ w.edges-is ∙ sym (add-zero c.loop-label.edges)
          ∙ ap (λ b. c.loop-label.edges + (if b then 1 else 0)) (sym w.if-made.false)
    ] in
    list_more _ _ _ _ c.args.state.now c.loop-label.label c.loop-label.edges c.if-made.edges c.in_ok-made.made
    c.args.states.now.keys c.loop-label.states.keys c.list_next.new.states.keys c.requires.workable.is
    (omega (arith, c.loop-label-test.true, c.requires.labels)) c.loop-label.invariant c.in_ok-made.ensures.grown
    c.in_ok-made.ensures.made counts (omega (arith, c.if-len-gt-MOST_SPOTS.false, c.len.ensures.len))

pub returns-clause-worked : goal.returns-clause-worked
returns-clause-worked g c =
    list_ends _ _ _ _ c.args.state.now c.loop-label.label c.args.labels c.loop-label.edges c.args.states.now.keys
    c.loop-label.states.keys c.requires.labels (omega (arith, c.loop-label-test.false)) c.loop-label.invariant

pub returns-clause-few : goal.returns-clause-few
returns-clause-few g c =
    let few = counted_few _ c.loop-label.label c.loop-label.edges c.loop-label.invariant.counts in
    omega (arith, few, c.loop-label-test.false, c.loop-label.auto.label-end)

pub overflow_add-edges : goal.overflow_add-edges
overflow_add-edges g c =
    let few = counted_few _ c.loop-label.label c.loop-label.edges c.loop-label.invariant.counts in
    omega (arith, few)
