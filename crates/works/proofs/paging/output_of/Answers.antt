use Rattle.std.proofs.Common.{◌≡◌, ap, ap₂, ◌∙◌}
use Rattle.works.specs.declared.work.Verdict.{Verdict}
use Rattle.works.specs.ClassPages.{page_verdict}
use Rattle.works.proofs.paging.output_of.Goals as goal

pub returns : goal.returns
returns c = λ class is.
    c.of_bytes.ensures
    ∙ ap₂ (λ (verdict : Verdict) bytes. record { verdict = verdict; bytes = bytes })
    (c.verdict_of.ensures ∙ ap page_verdict is.all_right) (c.in_ok-bytes.ensures class is)
