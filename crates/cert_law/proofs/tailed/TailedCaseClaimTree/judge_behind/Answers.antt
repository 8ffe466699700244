use Rattle.std.proofs.Common.{IsTrue, sym, subst}
use Rattle.std.specs.Prelude.{◌↔◌, IfSome}
use Rattle.cert_law.specs.Known.{IsBehindKnown, IsKnown, IsStepOf, KeepsKnown, Tailed, tree_in}
use Rattle.cert_law.proofs.tailed.TailedCaseClaimTree.judge_behind.Goals as goal

pub judge_on-requires-clause-step : goal.judge_on-requires-clause-step
judge_on-requires-clause-step g c =
    subst (λ (t : Tailed). IsStepOf t c.args.number c.args.known.now) (sym c.self.view_is) c.requires.step

pub returns-clause-told : goal.returns-clause-told
returns-clause-told g c =
    subst
    (λ (t : Tailed). IsBehindKnown t c.args.known.now c.args.number
    (λ q. IsTrue c.judge_on.result ↔ (tree_in t).IsTrueOf q c.args.claim))
    c.self.view_is c.judge_on.ensures.told

pub returns-clause-found : goal.returns-clause-found
returns-clause-found g c =
    subst
    (λ (t : Tailed). IfSome c.judge_on.new.found
    (λ next. IsBehindKnown t c.args.known.now c.args.number (IsKnown t next)))
    c.self.view_is c.judge_on.ensures.found

pub returns-clause-kept : goal.returns-clause-kept
returns-clause-kept g c =
    subst (λ (t : Tailed). KeepsKnown t c.args.known.now c.judge_on.new.known) c.self.view_is c.judge_on.ensures.kept
