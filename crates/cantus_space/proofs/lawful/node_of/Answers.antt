use Rattle.std.proofs.Common.{◌≡◌, ◌+◌, ◌∷◌, false, reverse, subst, sym, take, true≢false, ◌∙◌, ap}
use Rattle.cantus_space.specs.Nodes.{IsNodeOf}
use Rattle.cantus_space.specs.Rules.{is_live}
use Rattle.cantus_space.proofs.LawfulLemmas.{front-more, live_front}
use Rattle.cantus_space.proofs.lawful.node_of.Goals as goal

pub returns-in_err-node-clause-none : goal.returns-in_err-node-clause-none
returns-in_err-node-clause-none c = λ _ live.
    let plan = c.args.space.now in
    let ps = c.args.pitches.now in
    let i = c.loop-i.i in
    let p = c.index-pitches-i.result in
    let behind = reverse (take i ps) in
    let own = subst (λ plan. IsNodeOf plan behind c.loop-i.node) (sym c.plan-plan.ensures.value) c.loop-i.invariant in
    let dead : is_live plan (p ∷ behind) ≡ false = subst (λ plan. is_live plan (p ∷ behind) ≡ false)
    c.plan-plan.ensures.value (c.in_err-node.ensures behind own) in
    let front = front-more ps i p c.loop-i-test.true c.index-pitches-i.is in
    true≢false (sym (live_front plan ps (i + 1) live) ∙ ap (is_live plan) front ∙ dead)

pub loop-i-preserved : goal.loop-i-preserved
loop-i-preserved c =
    let plan = c.args.space.now in
    let ps = c.args.pitches.now in
    let i = c.loop-i.i in
    let p = c.index-pitches-i.result in
    let behind = reverse (take i ps) in
    let own = subst (λ plan. IsNodeOf plan behind c.loop-i.node) (sym c.plan-plan.ensures.value) c.loop-i.invariant in
    subst (λ qs. IsNodeOf plan qs c.in_ok-node.node)
    (sym (front-more ps i p c.loop-i-test.true c.index-pitches-i.is))
    (subst (λ plan. IsNodeOf plan (p ∷ behind) c.in_ok-node.node) c.plan-plan.ensures.value
    (c.in_ok-node.ensures behind own))
