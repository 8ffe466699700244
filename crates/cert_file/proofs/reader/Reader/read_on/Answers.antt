use Rattle.std.proofs.Common.{sym, ap, subst, ◌∙◌}
use Rattle.fux_port.specs.Counts.{Rose}
use Rattle.cert_file.specs.Readings.{IsAt, Reading}
use Rattle.cert_file.proofs.PieceLemmas.{placed, reads_on}
use Rattle.cert_file.proofs.reader.Reader.read_on.Goals as goal

pub returns-clause-reads : goal.returns-clause-reads
returns-clause-reads g c = λ front at used_up.
    let files = g.F.Shelf.files c.args.shelf.now in
    let name = c.args.name.now in
    let claims = c.self.inside.claims in
    let piece = c.self.inside.pieces in
    let stands = subst (λ r. IsAt files name front r) (sym c.self.view_is) at in
    let none = ap (λ (r : Reading). r.ahead) c.self.view_is ∙ used_up in
    reads_on files name front claims piece stands _ c.read_on.new.self
    (Rose (g.F.Shelf.faults c.args.shelf.now) (g.F.Shelf.faults c.read_on.new.shelf)) c.read_on.result
    (ap (λ (r : Reading). r.claims.begun) c.self.view_is)
    (c.read_on.ensures.reads _ (placed files name front claims piece stands) none)
