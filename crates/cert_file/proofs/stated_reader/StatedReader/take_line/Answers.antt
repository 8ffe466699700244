use Rattle.std.proofs.Common.{ap, arith, length, ◌≤◌, Ok, Err, sym, subst}
use Rattle.cert_file.specs.Readings.{Piece, longest_piece}
use Rattle.cert_file.specs.StatedReadings.{IsAtStated, StatedReading, TakesStated}
use Rattle.cert_file.proofs.StatedLemmas.{stands_near_stated, more_behind, stated_refused, stated_taken}
use Rattle.cert_file.proofs.stated_reader.StatedReader.take_line.Goals as goal

pub returns-in-Ok-clause-takes : goal.returns-in-Ok-clause-takes
returns-in-Ok-clause-takes c = λ files name front at.
    let after : StatedReading = record {
      entries = c.take.new.self;
      ahead = c.use_up.new.self.ahead;
      offset = c.use_up.new.self.offset;
    } in
    let stands = subst (λ r. IsAtStated files name front r) (sym c.self.view_is) at in
    subst (λ r. TakesStated files name front r after (Ok c.in-Ok.taken)) c.self.view_is
    (stated_taken files name front _ stands c.in-Ok.taken c.take.new.self
    (rw c.ahead.ensures.bytes at (c.in-Ok.ensures.taken stands.clear)) c.use_up.new.self c.use_up.ensures)

pub returns-in-Err-clause-takes : goal.returns-in-Err-clause-takes
returns-in-Err-clause-takes c = λ files name front at.
    let stands = subst (λ r. IsAtStated files name front r) (sym c.self.view_is) at in
    subst (λ r. TakesStated files name front r c.args.self.now (Err c.in-Err.fault)) c.self.view_is
    (stated_refused files name front _ stands c.in-Err.fault c.take.new.self c.args.self.now c.self.invariant.limit
    (rw c.ahead.ensures.bytes at (c.in-Err.ensures.word stands.clear)))

pub returns-in-Ok-clause-more : goal.returns-in-Ok-clause-more
returns-in-Ok-clause-more c =
    more_behind c.self.inside.entries c.ahead.result.now c.in-Ok.taken c.take.new.self c.take.result c.in-Ok.is
    c.take.ensures.again c.in-Ok.ensures.taken

pub returns-in-Ok-clause-near : goal.returns-in-Ok-clause-near
returns-in-Ok-clause-near c =
    stands_near_stated c.args.self.now _
    (subst (λ (r : StatedReading). length r.ahead ≤ longest_piece) c.self.view_is c.self.invariant.short)
    (omega (
      arith,
      ap (λ (p : Piece). p.offset) c.use_up.ensures,
      ap (λ (r : StatedReading). r.offset) c.self.view_is,
    ))

pub returns-in-Err-clause-near : goal.returns-in-Err-clause-near
returns-in-Err-clause-near c =
    stands_near_stated c.args.self.now _
    (subst (λ (r : StatedReading). length r.ahead ≤ longest_piece) c.self.view_is c.self.invariant.short)
    (omega (arith, ap (λ (r : StatedReading). r.offset) c.self.view_is))
