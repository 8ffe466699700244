use Rattle.std.proofs.Common.{◌≡◌, sym, subst}
use Rattle.std.specs.Prelude.{IfSome}
use Rattle.cert_law.specs.Known.{IsBehindKnown, IsKnown, IsStepOf, KeepsKnown, Tailed, own_in}
use Rattle.cert_law.proofs.tailed.TailedCaseClaimTree.tell_behind.Goals as goal

pub tell_on-requires-clause-step : goal.tell_on-requires-clause-step
tell_on-requires-clause-step g c =
    subst (λ (t : Tailed). IsStepOf t c.args.number c.args.known.now) (sym c.self.view_is) c.requires.step

pub returns-clause-own : goal.returns-clause-own
returns-clause-own g c =
    subst
    (λ (t : Tailed). IsBehindKnown t c.args.known.now c.args.number (λ q. c.tell_on.result ≡ own_in t q))
    c.self.view_is c.tell_on.ensures.own

pub returns-clause-found : goal.returns-clause-found
returns-clause-found g c =
    subst
    (λ (t : Tailed). IfSome c.tell_on.new.found
    (λ next. IsBehindKnown t c.args.known.now c.args.number (IsKnown t next)))
    c.self.view_is c.tell_on.ensures.found

pub returns-clause-kept : goal.returns-clause-kept
returns-clause-kept g c =
    subst (λ (t : Tailed). KeepsKnown t c.args.known.now c.tell_on.new.known) c.self.view_is c.tell_on.ensures.kept
