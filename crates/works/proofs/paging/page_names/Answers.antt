use Rattle.std.proofs.Common.{map}
use Rattle.std.specs.Prelude.{string_bytes}
use Rattle.std.specs.Option.{option_copied}
use Rattle.fux_port.specs.Counts.{Rose}
use Rattle.works.proofs.PageLemmas.{page_is}
use Rattle.works.proofs.paging.page_names.Goals as goal

pub returns-clause-paged : goal.returns-clause-paged
returns-clause-paged g c =
    page_is (g.F.Shelf.files c.args.shelf.now)
    (Rose (g.F.Shelf.faults c.args.shelf.now) (g.F.Shelf.faults c.paged_names.new.shelf)) (option_copied c.args.lesson)
    (map string_bytes c.args.names.now) c.in_ok-page.page c.output_of.result c.in_ok-page.ensures.paged
    c.output_of.ensures
