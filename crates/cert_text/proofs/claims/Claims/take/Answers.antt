use Rattle.std.proofs.Common.{ap, sym, subst}
use Rattle.cert_text.specs.declared.begun.Step.{Step}
use Rattle.cert_text.specs.Begun.{StopStep}
use Rattle.cert_text.specs.Reading.{Reading}
use Rattle.cert_text.proofs.TakeLemmas.{goes_takes}
use Rattle.cert_text.proofs.claims.Claims.take.Goals as goal

pub returns-in-Goes-clause-taken : goal.returns-in-Goes-clause-taken
returns-in-Goes-clause-taken c =
    let before = c.self.inside.begun in
    let piece = c.args.piece.now in
    let used = c.read-used.result.used in
    let P : Step → Type 0 = λ step. StopStep before piece used step in
    λ unrefused. goes_takes c.args.self.now c.go_on.new.self before c.in-Goes.begun piece used
    (sym (ap (λ (r : Reading). r.begun) c.self.view_is))
    (subst P c.in-Goes.is c.read-used.ensures) unrefused
    (record {
      next = ap (λ (r : Reading). r.next) c.go_on.ensures;
      count = ap
          (λ (r : Reading). r.used) c.go_on.ensures;
      begun = ap
          (λ (r : Reading). r.begun) c.go_on.ensures;
      refused = ap (λ (r : Reading). r.refused) c.go_on.ensures;
    })
