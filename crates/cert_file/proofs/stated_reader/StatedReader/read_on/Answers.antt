use Rattle.std.proofs.Common.{sym, ap, subst, ◌∙◌}
use Rattle.fux_port.specs.Counts.{Rose}
use Rattle.cert_file.specs.StatedReadings.{IsAtStated, ReadsStated, StatedReading}
use Rattle.cert_file.proofs.StatedLemmas.{stated_on, stated_placed}
use Rattle.cert_file.proofs.stated_reader.StatedReader.read_on.Goals as goal

pub returns-clause-reads : goal.returns-clause-reads
returns-clause-reads g c = λ front at used_up.
    let files = g.F.Shelf.files c.args.shelf.now in
    let name = c.args.name.now in
    let entries = c.self.inside.entries in
    let piece = c.self.inside.pieces in
    let rose = Rose (g.F.Shelf.faults c.args.shelf.now) (g.F.Shelf.faults c.read_on.new.shelf) in
    let stands = subst (λ r. IsAtStated files name front r) (sym c.self.view_is) at in
    let none = ap (λ (r : StatedReading). r.ahead) c.self.view_is ∙ used_up in
    let after : StatedReading = record {
      entries = entries;
      ahead = c.read_on.new.self.ahead;
      offset = c.read_on.new.self.offset;
    } in
    subst (λ r. ReadsStated files name rose front r after c.read_on.result) c.self.view_is
    (stated_on files name front entries piece stands c.read_on.new.self rose c.read_on.result
    (c.read_on.ensures.reads _ (stated_placed files name front entries piece stands) none))
