use Rattle.std.proofs.Common.{◌<◌, ◌≤◌, nat_lt, length, refl, sym, ap, subst, ◌∙◌, arith}
use Rattle.fux_port.specs.Counts.{Rose}
use Rattle.cert_file.specs.Readings.{IsPlaced, Piece}
use Rattle.cert_file.proofs.FileLemmas.{continues, past_at}
use Rattle.cert_file.proofs.PieceLemmas.{reaches, written}
use Rattle.cert_file.proofs.pieces.Pieces.read_on.Goals as goal

pub returns-then-count-gt0-clause-reads : goal.returns-then-count-gt0-clause-reads
returns-then-count-gt0-clause-reads g c = λ used at used_up.
    let files = g.F.Shelf.files c.args.shelf.now in
    let name = c.args.name.now in
    let stands = subst (λ p. IsPlaced files name used p) (sym c.self.view_is) at in
    let none = ap (λ (p : Piece). p.ahead) c.self.view_is ∙ used_up in
    let fits : c.in_ok-count.count ≤ length c.read_piece.new.buf = omega (
      arith,
      c.in_ok-count.ensures.fits,
      c.read_piece.ensures.long,
      ap length c.deref_mut.ensures.value,
      c.self.invariant.long,
      c.max-wanted.ensures,
      c.min.ensures,
    ) in (
      refl,
      past_at files name used _ stands none c.if-left-eq0.true c.self.invariant.limit
          (λ file has. reaches file c.read_piece.new.buf c.self.inside.offset c.in_ok-count.count fits
          c.if-count-gt0.true
          (c.in_ok-count.ensures.placed file has)),
    )

pub returns-clause-reads : goal.returns-clause-reads
returns-clause-reads g c = λ used at used_up.
    let files = g.F.Shelf.files c.args.shelf.now in
    let name = c.args.name.now in
    let stands = subst (λ p. IsPlaced files name used p) (sym c.self.view_is) at in
    let none = ap (λ (p : Piece). p.ahead) c.self.view_is ∙ used_up in
    let fits : c.in_ok-count.count ≤ length c.read_piece.new.buf = omega (
      arith,
      c.in_ok-count.ensures.fits,
      c.read_piece.ensures.long,
      ap length c.deref_mut.ensures.value,
      c.self.invariant.long,
      c.max-wanted.ensures,
      c.min.ensures,
    ) in
    let room : 0 < c.max-wanted.result = omega (arith, c.max-wanted.ensures, c.min.ensures) in
    continues files name used _ stands none c.read_piece.new.buf _ c.in_ok-count.count (nat_lt 0 c.in_ok-count.count)
    (Rose (g.F.Shelf.faults c.args.shelf.now) (g.F.Shelf.faults c.read_piece.new.shelf)) refl
    (written c.read_piece.new.buf _ _ c.in_ok-count.count fits
    (omega (arith, fits, c.read_piece.ensures.long, c.deref_mut.ensures.len))) fits
    c.in_ok-count.ensures.placed (λ zero. c.in_ok-count.ensures.end zero room)
