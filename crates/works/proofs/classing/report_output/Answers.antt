use Rattle.works.proofs.ClassLemmas.{class_told}
use Rattle.works.proofs.classing.report_output.Goals as goal

pub returns : goal.returns
returns g c = λ bytes content.
    class_told c.args.names.now c.args.texts.now bytes c.in_ok-report.report c.of_text.result c.verdict_of-verdict.result
    c.requires c.in_ok-report.ensures c.verdict_of-verdict.ensures c.of_text.ensures content
