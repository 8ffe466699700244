use Rattle.std.proofs.Common.{◌≡◌, List, map, length, subst, sym, ◌∙◌}
use Rattle.std.specs.Prelude.{string_bytes}
use Rattle.std.specs.Option.{option_copied}
use Rattle.std.proofs.lemmas.List.{length-map}
use Rattle.fux_port.specs.Counts.{Rose}
use Rattle.class_marker.specs.WholeReports.{IsReportOf, IsWholeOf, Saying}
use Rattle.works.specs.WholeClasses.{sought_in}
use Rattle.works.proofs.WholeLemmas.{by_copied, whole_is}
use Rattle.works.proofs.gathering.told_names.Goals as goal

pub returns-clause-reported : goal.returns-clause-reported
returns-clause-reported g c =
    let names = map string_bytes c.args.names.now in
    let count = length c.args.names.now in
    whole_is (g.F.Shelf.files c.args.shelf.now)
    (Rose (g.F.Shelf.faults c.args.shelf.now) (g.F.Shelf.faults c.say_names.new.shelf)) (sought_in c.args.kind (option_copied c.args.lesson))
    names c.in_ok-report.report c.in_ok-report-2.report count c.output_of.result
    (length-map c.args.names.now string_bytes) c.in_ok-report.ensures.said
    (subst (λ by_lesson. (sayings : List Saying) → IsReportOf sayings c.in_ok-report.report → length sayings ≡ count
    → IsWholeOf by_lesson sayings c.in_ok-report-2.report) (c.is_some.ensures ∙ sym (by_copied c.args.kind c.args.lesson))
    c.in_ok-report-2.ensures) c.output_of.ensures
