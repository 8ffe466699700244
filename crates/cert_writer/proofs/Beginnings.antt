-- The lines of a certificate at their beginning (`stage_there`, `text_begun`).
use Rattle.std.proofs.Common.{◌≡◌, List, ◌++◌, Some, ap, sym, ◌∙◌, subst}
use Rattle.cert_law.specs.Cases.{Matter}
use Rattle.cert_law.specs.Rests.{entries_of, stated_in}
use Rattle.cert_law.specs.Writer.{stated_text}
use Rattle.cert_text.specs.declared.answers.Form.{Form}
use Rattle.cert_text.specs.declared.answers.Form.TheVariants.{First, Second, Third}
use Rattle.cert_text.specs.declared.claim.Claim.{Claim}
use Rattle.cert_writer.specs.Stages.{IsStage, first_stage, stage_text}
use Rattle.cert_writer.specs.declared.lines.Stage.{Stage}
use Rattle.cert_file.specs.Writing.{claim_lines}

pub stage_there : (t : Matter) (form : Form) (stage : Stage) → stage ≡ first_stage form → IsStage t.exercise stage
stage_there t First stage e = subst (λ (s : Stage). IsStage t.exercise s) (sym e) tt
stage_there t Second stage e = subst (λ (s : Stage). IsStage t.exercise s) (sym e) tt
stage_there t Third stage e = subst (λ (s : Stage). IsStage t.exercise s) (sym e) tt

pub text_begun : (t : Matter) (form : Form) (stage : Stage) (claims all : List Claim) → stage ≡ first_stage form
    → claims ≡ all
    → stage_text t stage ++ claim_lines claims
    ≡ stated_text (stated_in form t.exercise t.sheet) ++ claim_lines all
text_begun t First stage claims all e same =
    ap (λ s. stage_text t s ++ claim_lines claims) e ∙ ap claim_lines same
text_begun t Second stage claims all e same =
    ap (λ s. stage_text t s ++ claim_lines claims) e
    ∙ ap (λ cs. stated_text (Some (entries_of t.exercise t.sheet)) ++ claim_lines cs) same
text_begun t Third stage claims all e same =
    ap (λ s. stage_text t s ++ claim_lines claims) e ∙ ap claim_lines same
