use Rattle.std.proofs.Common.{◌++◌, Option, Ok, Err, Bool, refl, sym, ap, subst, ◌∙◌, arith}
use Rattle.std.proofs.lemmas.Result.{err_from_is_err_and}
use Rattle.fux_port.specs.Counts.{Rose}
use Rattle.fux_port.specs.Files.{MayHave}
use Rattle.fux_port.proofs.Rises.{rose_later}
use Rattle.cert_text.specs.declared.claim.Claim.{Claim}
use Rattle.cert_file.specs.Readings.{Files, IsAt, ReadsOn, TakesLine}
use Rattle.cert_file.proofs.NearLemmas.{on_err}
use Rattle.cert_file.proofs.PieceLemmas.{fault_given, gives_at_end, stands_near}
use Rattle.cert_file.proofs.reader.Reader.next.Goals as goal

pub returns-in-Ok-Some-clause-gives : goal.returns-in-Ok-Some-clause-gives
returns-in-Ok-Some-clause-gives g c = λ front at.
    let files = g.F.Shelf.files c.args.shelf.now in
    let name = c.args.name.now in
    subst (λ (o : Option Claim). TakesLine files name front c.take_line.new.self (Ok o)) c.in-Ok-Some.field-0-is
    (c.in-Ok-Some.ensures.takes files name front (c.loop-claim.invariant.0 front at))

pub returns-then-not-branch-clause-gives : goal.returns-then-not-branch-clause-gives
returns-then-not-branch-clause-gives g c = λ front at.
    let files = g.F.Shelf.files c.args.shelf.now in
    let name = c.args.name.now in
    let taken = subst (λ (o : Option Claim). TakesLine files name front c.take_line.new.self (Ok o))
    c.in-Ok-None.field-0-is
    (c.in-Ok-None.ensures.takes files name front (c.loop-claim.invariant.0 front at)) in
    let same = c.loop-claim.invariant.1 in
    let stands = subst (λ (fs : Files). IsAt fs name front c.take_line.new.self) (sym same) taken.0 in
    let reads = subst
    (λ (fs : Files). ReadsOn fs name (Rose (g.F.Shelf.faults c.loop-claim.shelf) (g.F.Shelf.faults c.read_on.new.shelf))
    front
    c.take_line.new.self.claims.begun c.read_on.new.self (Ok c.in_ok-read_on.field-0)) same
    (c.in_ok-read_on.ensures.reads front stands taken.1) in
    let over = subst
    (λ (b : Bool). ReadsOn files name (Rose (g.F.Shelf.faults c.loop-claim.shelf)
    (g.F.Shelf.faults c.read_on.new.shelf)) front
    c.take_line.new.self.claims.begun c.read_on.new.self (Ok b)) c.if-not-branch.true reads in
    gives_at_end files name front _ _ c.end.result (c.end.ensures.gives files name front over.0
    (subst (λ xs. MayHave files name (front ++ xs)) (sym over.1) over.2))

pub returns-then-not-branch-clause-served : goal.returns-then-not-branch-clause-served
returns-then-not-branch-clause-served g c = λ _. c.end.ensures.read

pub returns-in_err-read_on-clause-gives : goal.returns-in_err-read_on-clause-gives
returns-in_err-read_on-clause-gives g c = λ front at.
    let files = g.F.Shelf.files c.args.shelf.now in
    let name = c.args.name.now in
    let rose = Rose (g.F.Shelf.faults c.args.shelf.now) (g.F.Shelf.faults c.read_on.new.shelf) in
    let later = Rose (g.F.Shelf.faults c.loop-claim.shelf) (g.F.Shelf.faults c.read_on.new.shelf) in
    let taken = subst (λ (o : Option Claim). TakesLine files name front c.take_line.new.self (Ok o))
    c.in-Ok-None.field-0-is
    (c.in-Ok-None.ensures.takes files name front (c.loop-claim.invariant.0 front at)) in
    let same = c.loop-claim.invariant.1 in
    let stands = subst (λ (fs : Files). IsAt fs name front c.take_line.new.self) (sym same) taken.0 in
    let told = err_from_is_err_and c.from_residual.result c.from_residual.ensures.1 in
    rw (told.1, told.2) (fault_given files name front c.take_line.new.self.claims.begun rose later c.read_on.new.self
    c.read_on.new.self c.in_err-read_on.field-0.0 (rose_later _ _ _ c.loop-claim.invariant.2)
    (subst (λ (fs : Files). ReadsOn fs name later front c.take_line.new.self.claims.begun c.read_on.new.self
    (Err c.in_err-read_on.field-0.0)) same
    (c.in_err-read_on.ensures.reads front stands taken.1)))

pub loop-claim-smaller : goal.loop-claim-smaller
loop-claim-smaller g c =
    omega (
      arith,
      c.read_on.ensures.grows (c.in_ok-read_on.was ∙ ap Ok c.if-not-branch.false),
      c.read_on.ensures.limit,
      c.take_line.ensures.offset,
    )

pub loop-claim-preserved : goal.loop-claim-preserved
loop-claim-preserved g c = (
  λ front at.
      let files = g.F.Shelf.files c.args.shelf.now in
      let name = c.args.name.now in
      let taken = subst (λ (o : Option Claim). TakesLine files name front c.take_line.new.self (Ok o))
      c.in-Ok-None.field-0-is
      (c.in-Ok-None.ensures.takes files name front (c.loop-claim.invariant.0 front at)) in
      let same = c.loop-claim.invariant.1 in
      let stands = subst (λ (fs : Files). IsAt fs name front c.take_line.new.self) (sym same) taken.0 in
      let reads = subst
      (λ (fs : Files). ReadsOn fs name (Rose (g.F.Shelf.faults c.loop-claim.shelf)
      (g.F.Shelf.faults c.read_on.new.shelf)) front
      c.take_line.new.self.claims.begun c.read_on.new.self (Ok c.in_ok-read_on.field-0)) same
      (c.in_ok-read_on.ensures.reads front stands taken.1) in
      subst
      (λ (b : Bool). ReadsOn files name (Rose (g.F.Shelf.faults c.loop-claim.shelf)
      (g.F.Shelf.faults c.read_on.new.shelf)) front
      c.take_line.new.self.claims.begun c.read_on.new.self (Ok b)) c.if-not-branch.false reads,
  c.read_on.ensures.files ∙ c.loop-claim.invariant.1,
  omega (arith, c.loop-claim.invariant.2, c.read_on.ensures.faults),
  omega (
    arith,
    c.loop-claim.invariant.3,
    c.take_line.ensures.offset,
    c.read_on.ensures.grows (c.in_ok-read_on.was ∙ ap Ok c.if-not-branch.false),
  ),
  λ name offset promised. c.read_on.ensures.serving name offset (c.loop-claim.invariant.4 name offset promised),
  omega (arith, c.loop-claim.invariant.5, c.take_line.ensures.offset, c.in_ok-read_on.ensures.told),
)

pub returns-in-Ok-Some-clause-limit : goal.returns-in-Ok-Some-clause-limit
returns-in-Ok-Some-clause-limit g c = omega (arith, c.loop-claim.invariant.3, c.take_line.ensures.limit)

pub returns-in-Err-clause-limit : goal.returns-in-Err-clause-limit
returns-in-Err-clause-limit g c = omega (arith, c.loop-claim.invariant.3, c.take_line.ensures.limit)

pub returns-in_err-read_on-clause-limit : goal.returns-in_err-read_on-clause-limit
returns-in_err-read_on-clause-limit g c = omega (arith, c.loop-claim.invariant.3, c.take_line.ensures.limit)

pub returns-then-not-branch-clause-limit : goal.returns-then-not-branch-clause-limit
returns-then-not-branch-clause-limit g c = omega (arith, c.loop-claim.invariant.3, c.take_line.ensures.limit)

-- ---- how much is read

pub returns-in-Err-clause-near : goal.returns-in-Err-clause-near
returns-in-Err-clause-near g c = λ front at.
    c.take_line.ensures.near (g.F.Shelf.files c.args.shelf.now) c.args.name.now front
    (c.loop-claim.invariant.0 front at)

pub returns-then-not-branch-clause-near : goal.returns-then-not-branch-clause-near
returns-then-not-branch-clause-near g c =
    let files = g.F.Shelf.files c.args.shelf.now in
    let name = c.args.name.now in
    on_err c.end.result (λ front at.
    let taken = subst (λ (o : Option Claim). TakesLine files name front c.take_line.new.self (Ok o))
    c.in-Ok-None.field-0-is
    (c.in-Ok-None.ensures.takes files name front (c.loop-claim.invariant.0 front at)) in
    let same = c.loop-claim.invariant.1 in
    let stands = subst (λ (fs : Files). IsAt fs name front c.take_line.new.self) (sym same) taken.0 in
    let reads = subst
    (λ (fs : Files). ReadsOn fs name (Rose (g.F.Shelf.faults c.loop-claim.shelf) (g.F.Shelf.faults c.read_on.new.shelf))
    front
    c.take_line.new.self.claims.begun c.read_on.new.self (Ok c.in_ok-read_on.field-0)) same
    (c.in_ok-read_on.ensures.reads front stands taken.1) in
    let over = subst
    (λ (b : Bool). ReadsOn files name (Rose (g.F.Shelf.faults c.loop-claim.shelf)
    (g.F.Shelf.faults c.read_on.new.shelf)) front
    c.take_line.new.self.claims.begun c.read_on.new.self (Ok b)) c.if-not-branch.true reads in
    stands_near c.read_on.new.self _ c.read_on.ensures.short refl files name front over.0)

pub returns-in_err-read_on-clause-near : goal.returns-in_err-read_on-clause-near
returns-in_err-read_on-clause-near g c =
    let files = g.F.Shelf.files c.args.shelf.now in
    let name = c.args.name.now in
    on_err c.from_residual.result (λ front at.
    let taken = subst (λ (o : Option Claim). TakesLine files name front c.take_line.new.self (Ok o))
    c.in-Ok-None.field-0-is
    (c.in-Ok-None.ensures.takes files name front (c.loop-claim.invariant.0 front at)) in
    stands_near c.take_line.new.self _ c.take_line.ensures.short c.in_err-read_on.ensures.stays files name front taken.0)

pub returns-in-Ok-Some-clause-told_word : goal.returns-in-Ok-Some-clause-told_word
returns-in-Ok-Some-clause-told_word g c = λ place is.
    omega (arith, c.loop-claim.invariant.5, c.take_line.ensures.offset)

pub returns-in-Err-clause-told_word : goal.returns-in-Err-clause-told_word
returns-in-Err-clause-told_word g c = λ place is.
    omega (arith, c.loop-claim.invariant.5, c.take_line.ensures.offset)

pub returns-then-not-branch-clause-told_word : goal.returns-then-not-branch-clause-told_word
returns-then-not-branch-clause-told_word g c = λ place is.
    omega (arith, c.loop-claim.invariant.5, c.take_line.ensures.offset, c.in_ok-read_on.ensures.told)

pub returns-in_err-read_on-clause-told_word : goal.returns-in_err-read_on-clause-told_word
returns-in_err-read_on-clause-told_word g c = λ place is.
    let told = err_from_is_err_and c.from_residual.result c.from_residual.ensures.1 in
    let made = told.1 in
    let same = told.2 in
    absurd (c.in_err-read_on.ensures.fault place cc)
