use Rattle.std.proofs.Common.{Option, None, Ok, Err, Bool, refl, sym, ap, subst, ◌∙◌, arith}
use Rattle.std.proofs.lemmas.Result.{err_from_is_err_and}
use Rattle.fux_port.specs.Counts.{Rose}
use Rattle.fux_port.proofs.Rises.{rose_later}
use Rattle.cert_text.specs.declared.potential.Potential.{Potential}
use Rattle.cert_file.specs.Readings.{Files}
use Rattle.cert_file.specs.StatedReadings.{IsAtStated, ReadsStated, TakesLines}
use Rattle.cert_file.proofs.NearLemmas.{on_err}
use Rattle.cert_file.proofs.StatedLemmas.{given_later, gives_claims, gives_fault, gives_potential, gives_unread, stands_near_stated}
use Rattle.cert_file.proofs.stated_reader.StatedReader.next.Goals as goal

pub returns-in-Some-clause-gives : goal.returns-in-Some-clause-gives
returns-in-Some-clause-gives g c = λ front at.
    let files = g.F.Shelf.files c.args.shelf.now in
    let name = c.args.name.now in
    let first = c.args.self.now in
    let now = c.loop-taken.self in
    let after = c.take_line.new.self in
    let done = c.in-Ok.taken.done in
    let known = c.loop-taken.invariant.0 front at in
    gives_potential files name front first now known.1 after
    (Rose (g.F.Shelf.faults c.args.shelf.now) (g.F.Shelf.faults c.loop-taken.shelf)) c.in-Some.potential done
    (subst (λ (o : Option Potential). TakesLines files name front now after o done) c.in-Some.is
    (c.in-Ok.ensures.takes files name front known.0))

pub returns-then-taken-clause-gives : goal.returns-then-taken-clause-gives
returns-then-taken-clause-gives g c = λ front at.
    let files = g.F.Shelf.files c.args.shelf.now in
    let name = c.args.name.now in
    let first = c.args.self.now in
    let now = c.loop-taken.self in
    let after = c.take_line.new.self in
    let known = c.loop-taken.invariant.0 front at in
    gives_claims files name front first now known.1 after
    (Rose (g.F.Shelf.faults c.args.shelf.now) (g.F.Shelf.faults c.loop-taken.shelf))
    (subst (λ (b : Bool). TakesLines files name front now after None b) c.if-taken.true
    (subst (λ (o : Option Potential). TakesLines files name front now after o c.in-Ok.taken.done) c.in-None.is
    (c.in-Ok.ensures.takes files name front known.0)))

pub returns-in_err-read_on-clause-gives : goal.returns-in_err-read_on-clause-gives
returns-in_err-read_on-clause-gives g c = λ front at.
    let files = g.F.Shelf.files c.args.shelf.now in
    let name = c.args.name.now in
    let first = c.args.self.now in
    let now = c.loop-taken.self in
    let after = c.take_line.new.self in
    let rose = Rose (g.F.Shelf.faults c.args.shelf.now) (g.F.Shelf.faults c.read_on.new.shelf) in
    let later = Rose (g.F.Shelf.faults c.loop-taken.shelf) (g.F.Shelf.faults c.read_on.new.shelf) in
    let known = c.loop-taken.invariant.0 front at in
    let takes = subst (λ (b : Bool). TakesLines files name front now after None b) c.if-taken.false
    (subst (λ (o : Option Potential). TakesLines files name front now after o c.in-Ok.taken.done) c.in-None.is
    (c.in-Ok.ensures.takes files name front known.0)) in
    let same = c.loop-taken.invariant.1 in
    let stands = subst (λ (fs : Files). IsAtStated fs name front after) (sym same) takes.0 in
    let told = err_from_is_err_and c.from_residual.result c.from_residual.ensures.1 in
    rw (told.1, told.2) (gives_unread files name front first after (given_later first now after 0 known.1 takes.2)
    c.read_on.new.self c.read_on.new.self rose later
    c.in_err-read_on.field-0.0 (rose_later _ _ _ c.loop-taken.invariant.2)
    (subst (λ (fs : Files). ReadsStated fs name later front after c.read_on.new.self (Err c.in_err-read_on.field-0.0))
    same (c.in_err-read_on.ensures.reads front stands takes.1)))

pub returns-then-not-branch-clause-gives : goal.returns-then-not-branch-clause-gives
returns-then-not-branch-clause-gives g c = λ front at.
    let files = g.F.Shelf.files c.args.shelf.now in
    let name = c.args.name.now in
    let first = c.args.self.now in
    let now = c.loop-taken.self in
    let after = c.take_line.new.self in
    let later = Rose (g.F.Shelf.faults c.loop-taken.shelf) (g.F.Shelf.faults c.read_on.new.shelf) in
    let known = c.loop-taken.invariant.0 front at in
    let takes = subst (λ (b : Bool). TakesLines files name front now after None b) c.if-taken.false
    (subst (λ (o : Option Potential). TakesLines files name front now after o c.in-Ok.taken.done) c.in-None.is
    (c.in-Ok.ensures.takes files name front known.0)) in
    let same = c.loop-taken.invariant.1 in
    let stands = subst (λ (fs : Files). IsAtStated fs name front after) (sym same) takes.0 in
    let reads = subst
    (λ (fs : Files). ReadsStated fs name later front after c.read_on.new.self (Ok c.in_ok-read_on.field-0)) same
    (c.in_ok-read_on.ensures.reads front stands takes.1) in
    let over = subst (λ (b : Bool). ReadsStated files name later front after c.read_on.new.self (Ok b))
    c.if-not-branch.true reads in
    gives_fault files name front first c.read_on.new.self
    (given_later first after c.read_on.new.self 0 (given_later first now after 0 known.1 takes.2) over.1) c.end.result
    (c.end.ensures files name front over.0 over.2)

pub loop-taken-preserved : goal.loop-taken-preserved
loop-taken-preserved g c = (
  λ front at.
      let files = g.F.Shelf.files c.args.shelf.now in
      let name = c.args.name.now in
      let first = c.args.self.now in
      let now = c.loop-taken.self in
      let after = c.take_line.new.self in
      let later = Rose (g.F.Shelf.faults c.loop-taken.shelf) (g.F.Shelf.faults c.read_on.new.shelf) in
      let known = c.loop-taken.invariant.0 front at in
      let takes = subst (λ (b : Bool). TakesLines files name front now after None b) c.if-taken.false
      (subst (λ (o : Option Potential). TakesLines files name front now after o c.in-Ok.taken.done) c.in-None.is
      (c.in-Ok.ensures.takes files name front known.0)) in
      let same = c.loop-taken.invariant.1 in
      let stands = subst (λ (fs : Files). IsAtStated fs name front after) (sym same) takes.0 in
      let reads = subst
      (λ (fs : Files). ReadsStated fs name later front after c.read_on.new.self (Ok c.in_ok-read_on.field-0)) same
      (c.in_ok-read_on.ensures.reads front stands takes.1) in
      let on = subst (λ (b : Bool). ReadsStated files name later front after c.read_on.new.self (Ok b))
      c.if-not-branch.false reads in
      (on.0, given_later first after c.read_on.new.self 0 (given_later first now after 0 known.1 takes.2) on.1),
  c.read_on.ensures.files ∙ c.loop-taken.invariant.1,
  omega (arith, c.loop-taken.invariant.2, c.read_on.ensures.faults),
  omega (
    arith,
    c.loop-taken.invariant.3,
    c.take_line.ensures.offset,
    c.read_on.ensures.grows (c.in_ok-read_on.was ∙ ap Ok c.if-not-branch.false),
  ),
  λ name offset promised. c.read_on.ensures.serving name offset (c.loop-taken.invariant.4 name offset promised),
  omega (arith, c.loop-taken.invariant.5, c.take_line.ensures.offset, c.in_ok-read_on.ensures.told),
  c.read_on.ensures.more ∙ c.in-Ok.ensures.done ∙ c.if-taken.false,
)

-- ---- how much is read

pub returns-in-Err-clause-near : goal.returns-in-Err-clause-near
returns-in-Err-clause-near g c = λ front at.
    c.take_line.ensures.near (g.F.Shelf.files c.args.shelf.now) c.args.name.now front
    (c.loop-taken.invariant.0 front at).0

pub returns-then-not-branch-clause-near : goal.returns-then-not-branch-clause-near
returns-then-not-branch-clause-near g c = λ front at.
    let files = g.F.Shelf.files c.args.shelf.now in
    let name = c.args.name.now in
    let now = c.loop-taken.self in
    let after = c.take_line.new.self in
    let later = Rose (g.F.Shelf.faults c.loop-taken.shelf) (g.F.Shelf.faults c.read_on.new.shelf) in
    let known = c.loop-taken.invariant.0 front at in
    let takes = subst (λ (b : Bool). TakesLines files name front now after None b) c.if-taken.false
    (subst (λ (o : Option Potential). TakesLines files name front now after o c.in-Ok.taken.done) c.in-None.is
    (c.in-Ok.ensures.takes files name front known.0)) in
    let same = c.loop-taken.invariant.1 in
    let stands = subst (λ (fs : Files). IsAtStated fs name front after) (sym same) takes.0 in
    let reads = subst
    (λ (fs : Files). ReadsStated fs name later front after c.read_on.new.self (Ok c.in_ok-read_on.field-0)) same
    (c.in_ok-read_on.ensures.reads front stands takes.1) in
    let over = subst (λ (b : Bool). ReadsStated files name later front after c.read_on.new.self (Ok b))
    c.if-not-branch.true reads in
    stands_near_stated c.read_on.new.self _ c.read_on.ensures.short refl files name front over.0

pub returns-in_err-read_on-clause-near : goal.returns-in_err-read_on-clause-near
returns-in_err-read_on-clause-near g c =
    let files = g.F.Shelf.files c.args.shelf.now in
    let name = c.args.name.now in
    let now = c.loop-taken.self in
    let after = c.take_line.new.self in
    on_err c.from_residual.result (λ front at.
    let known = c.loop-taken.invariant.0 front at in
    let takes = subst (λ (b : Bool). TakesLines files name front now after None b) c.if-taken.false
    (subst (λ (o : Option Potential). TakesLines files name front now after o c.in-Ok.taken.done) c.in-None.is
    (c.in-Ok.ensures.takes files name front known.0)) in
    stands_near_stated after _ c.take_line.ensures.short c.in_err-read_on.ensures.stays files name front takes.0)

pub returns-in-Some-clause-told_word : goal.returns-in-Some-clause-told_word
returns-in-Some-clause-told_word g c = λ place is.
    omega (arith, c.loop-taken.invariant.5, c.take_line.ensures.offset)

pub returns-then-taken-clause-told_word : goal.returns-then-taken-clause-told_word
returns-then-taken-clause-told_word g c = λ place is.
    omega (arith, c.loop-taken.invariant.5, c.take_line.ensures.offset)

pub returns-in-Err-clause-told_word : goal.returns-in-Err-clause-told_word
returns-in-Err-clause-told_word g c = λ place is.
    omega (arith, c.loop-taken.invariant.5, c.take_line.ensures.offset)

pub returns-then-not-branch-clause-told_word : goal.returns-then-not-branch-clause-told_word
returns-then-not-branch-clause-told_word g c = λ place is.
    omega (arith, c.loop-taken.invariant.5, c.take_line.ensures.offset, c.in_ok-read_on.ensures.told)

pub returns-in_err-read_on-clause-told_word : goal.returns-in_err-read_on-clause-told_word
returns-in_err-read_on-clause-told_word g c = λ place is.
    let told = err_from_is_err_and c.from_residual.result c.from_residual.ensures.1 in
    let made = told.1 in
    let same = told.2 in
    absurd (c.in_err-read_on.ensures.fault place cc)
