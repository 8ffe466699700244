use Rattle.std.proofs.Common.{◌+◌, ap}
use Rattle.class_marker.proofs.WholeReportLemmas.{more_said}
use Rattle.class_marker.proofs.whole_report.put_said.Goals as goal

pub returns : goal.returns
returns c = λ sayings is.
    more_said sayings c.args.name.now c.args.said.now c.args.report.now _ is c.in_ok-put_text.ensures
    (ap (λ n. c.args.report.now.marked + n) c.marked.ensures)
    (ap (λ n. c.args.report.now.refused + n) c.refused.ensures)
    (ap (λ n. c.args.report.now.others + n) c.other.ensures)
