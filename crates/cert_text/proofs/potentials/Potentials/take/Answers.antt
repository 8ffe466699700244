use Rattle.std.proofs.Common.{ap, sym, ◌∙◌, subst}
use Rattle.cert_text.specs.declared.stated_line.StatedStep.{StatedStep}
use Rattle.cert_text.specs.PotentialReading.{PotentialReading, owes_potential}
use Rattle.cert_text.specs.StatedLines.{StopStep}
use Rattle.cert_text.proofs.PotentialLemmas.{potential_goes}
use Rattle.cert_text.proofs.potentials.Potentials.take.Goals as goal

pub returns-in-Goes-clause-taken : goal.returns-in-Goes-clause-taken
returns-in-Goes-clause-taken c =
    let before = c.self.inside.line in
    let piece = c.args.piece.now in
    let used = c.read-used.result.used in
    let P : StatedStep → Type 0 = λ step. StopStep before piece used step in
    λ unrefused. potential_goes c.args.self.now c.go_on-in-Goes.new.self before c.in-Goes.line piece used
    c.go_on.inside.given
    (sym (ap (λ (r : PotentialReading). r.begun) c.self.view_is))
    (c.self.invariant.kind ∙ ap (λ (r : PotentialReading). owes_potential r) c.self.view_is)
    (subst P c.in-Goes.is c.read-used.ensures) unrefused c.requires.more
    (ap (λ (r : PotentialReading). r.given) c.go_on.view_is) c.go_on-in-Goes.ensures
