use Rattle.std.proofs.Common.{◌++◌, string_bytes, refl, ap, ◌∙◌, append_assoc}
use Rattle.class_marker.specs.WholeReports.{counts_text, line_end}
use Rattle.class_marker.proofs.WholeReportLemmas.{whole_said}
use Rattle.class_marker.proofs.whole_report.whole.Goals as goal

pub returns : goal.returns
returns c = λ sayings is long.
    let old = c.args.report in
    let end = line_end c.args.by_lesson old.others in
    whole_said c.args.by_lesson c.args.count sayings old _ is long
    (c.in_ok-put_end.ensures ∙ ap (λ t. t ++ end) c.in_ok-put_counts.ensures
    ∙ append_assoc (string_bytes old.text) (counts_text c.args.count old.marked old.refused) end) refl refl refl
