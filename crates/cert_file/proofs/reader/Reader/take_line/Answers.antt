use Rattle.std.proofs.Common.{ap, arith, length, ◌≤◌, sym, subst}
use Rattle.cert_file.specs.Readings.{IsAt, Piece, Reading, longest_piece}
use Rattle.cert_file.proofs.PieceLemmas.{stands_near, line_refused, line_taken}
use Rattle.cert_file.proofs.reader.Reader.take_line.Goals as goal

pub returns-in-Ok-clause-takes : goal.returns-in-Ok-clause-takes
returns-in-Ok-clause-takes c = λ files name front at.
    let stands = subst (λ r. IsAt files name front r) (sym c.self.view_is) at in
    line_taken files name front _ stands c.in-Ok.field-0 c.take.new.self
    (rw c.ahead.ensures.bytes at (c.in-Ok.ensures.taken stands.clear)) c.use_up.new.self c.use_up.ensures

pub returns-in-Err-clause-takes : goal.returns-in-Err-clause-takes
returns-in-Err-clause-takes c = λ files name front at.
    let stands = subst (λ r. IsAt files name front r) (sym c.self.view_is) at in
    line_refused files name front _ stands c.in-Err.fault c.take.new.self c.args.self.now c.self.invariant.limit
    (rw c.ahead.ensures.bytes at (c.in-Err.ensures.word stands.clear))

pub returns-in-Ok-clause-near : goal.returns-in-Ok-clause-near
returns-in-Ok-clause-near c =
    stands_near c.args.self.now _
    (subst (λ (r : Reading). length r.ahead ≤ longest_piece) c.self.view_is c.self.invariant.short)
    (omega (
      arith,
      ap (λ (p : Piece). p.offset) c.use_up.ensures,
      ap (λ (r : Reading). r.offset) c.self.view_is,
    ))

pub returns-in-Err-clause-near : goal.returns-in-Err-clause-near
returns-in-Err-clause-near c =
    stands_near c.args.self.now _
    (subst (λ (r : Reading). length r.ahead ≤ longest_piece) c.self.view_is c.self.invariant.short)
    (omega (arith, ap (λ (r : Reading). r.offset) c.self.view_is))
