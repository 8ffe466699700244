use Rattle.std.proofs.Common.{subst, sym}
use Rattle.std.specs.Prelude.{◌↔◌, IsTrue, map}
use Rattle.cert_law.specs.Cases.{matter_of}
use Rattle.cert_law.specs.Known.{IsBehindKnown, IsStepOf as IsPlainStepOf, KeepsKnown, Tailed, tree_in as plain_tree, ways_of}
use Rattle.cert_tree.specs.Walks.{IsBehind}
use Rattle.price_check.specs.Floors.{list_of}
use Rattle.price_check.specs.Sharps.{IsSharpKnown, Sharp, plain_of, tree_in}
use Rattle.price_check.proofs.SharpLemmas.{broken_truth, plain_step, sharp_kept}
use Rattle.price_check.proofs.SameFloors.{stated_floors_are_one}
use Rattle.price_check.specs.PriceLines.{line_of}
use Rattle.price_check.proofs.sharp_case.SharpCaseClaimTree.judge_behind.Goals as goal

pub judge_behind-requires-clause-step : goal.judge_behind-requires-clause-step
judge_behind-requires-clause-step c =
    subst (λ (t : Tailed). IsPlainStepOf t c.args.number c.args.known.now.own) (sym c.self.invariant.without)
    (subst (λ (s : Sharp). IsPlainStepOf (plain_of s.case) c.args.number c.args.known.now.own) (sym c.self.view_is)
    (plain_step c.args.self.now c.args.known.now c.args.number c.requires.step))

pub returns-in-Broken-clause-told : goal.returns-in-Broken-clause-told
returns-in-Broken-clause-told c =
    let it = c.self.inside in
    let t = matter_of it.case in
    let k = c.args.number in
    let known = c.args.known.now in
    let claim = c.args.claim in
    let result = c.judge_behind.result in
    let told = subst
    (λ (w : Tailed). IsBehindKnown w known.own k (λ q. IsTrue result ↔ (plain_tree w).IsTrueOf q claim))
    c.self.invariant.without c.judge_behind.ensures.told in
    subst
    (λ (s : Sharp). IsBehind (IsSharpKnown s) (ways_of s.case.exercise) known k
    (λ q. IsTrue result ↔ (tree_in s).IsTrueOf q claim))
    c.self.view_is
    (λ p is at. broken_truth t.exercise t.sheet t.head stated_floors_are_one (map line_of it.lines.now)
    (map list_of it.floors.now) c.self.invariant.stated ((ways_of t.exercise).child p k) claim c.in-Broken.field-0 result
    c.in-Broken.is (told p is.own at))

pub returns-in-Broken-clause-kept : goal.returns-in-Broken-clause-kept
returns-in-Broken-clause-kept c =
    let known = c.args.known.now in
    let own = c.judge_behind.new.known in
    sharp_kept c.args.self.now known own
    (subst (λ (s : Sharp). KeepsKnown (plain_of s.case) known.own own) c.self.view_is
    (subst (λ (w : Tailed). KeepsKnown w known.own own) c.self.invariant.without c.judge_behind.ensures.kept))
