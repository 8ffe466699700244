use Rattle.cert_text.specs.declared.answers.Form.TheVariants.{Third}
use Rattle.cert_text.proofs.HeadLaws.{answers-one}
use Rattle.cert_text.proofs.heads.head_any.Goals as goal

pub returns-clause-only : goal.returns-clause-only
returns-clause-only c = λ form head n heads.
    answers-one c.args.ex.now Third c.args.bytes.now c.head_up_to.result form head n c.requires tt c.head_up_to.ensures.ok
    c.head_up_to.ensures.texts heads
