use Rattle.std.proofs.Common.{ap, ◌∙◌, ℕ}
use Rattle.cert_text.specs.declared.answers.CertHead.{CertHead}
use Rattle.cert_text.specs.declared.answers.Form.TheVariants.{First}
use Rattle.cert_text.proofs.HeadBacks.{heads_are_one}
use Rattle.cert_text.proofs.heads.head.Goals as goal

pub returns-in-Ok-clause-only : goal.returns-in-Ok-clause-only
returns-in-Ok-clause-only c = λ head n heads.
    let one = heads_are_one c.args.ex.now c.args.bytes.now c.in-Ok.field-0-0 First c.in-Ok.head head c.in-Ok.used n c.requires
    c.in-Ok.ensures.ok.1 heads in
    ap (λ (h : CertHead). (h, c.in-Ok.used)) one.1 ∙ ap (λ (k : ℕ). (head, k)) one.2
