use Rattle.std.proofs.Common.{◌+◌, Option, Ok, Err, refl, sym, subst, ◌∙◌, arith}
use Rattle.fux_port.specs.Counts.{Rose}
use Rattle.fux_port.proofs.Rises.{rose_later}
use Rattle.cert_text.specs.declared.answers.CertFault.{CertFault}
use Rattle.cert_text.specs.declared.claim.Claim.{Claim}
use Rattle.cert_file.specs.Nearness.{StandsNear}
use Rattle.cert_file.specs.Readings.{Files, Gives}
use Rattle.cert_file.specs.declared.fault.ReadFault.{ReadFault}
use Rattle.cert_file.specs.declared.verdict.Verdict.TheVariants as verdicts
use Rattle.cert_file.specs.Judgments.{Finds}
use Rattle.cert_file.proofs.JudgingLemmas.{begins, count_grows, counted, end_near, finds_end, finds_fault, given, refused_near, refuses_next, takes_on, unrefused, wrong_near}
use Rattle.cert_file.proofs.judging.judge.Goals as goal

pub feed-requires : goal.feed-requires
feed-requires g c =
    omega (
      arith,
      counted g.C.Checks.subject (g.F.Shelf.files c.args.shelf.now) c.args.name.now (g.C.Checks.seen c.args.checker) c.loop-claim.reader (g.C.Checks.seen c.loop-claim.checker)
          c.loop-claim.invariant.0 c.next.ensures.limit,
    )

pub at_end-requires-clause-count : goal.at_end-requires-clause-count
at_end-requires-clause-count g c =
    omega (
      arith,
      counted g.C.Checks.subject (g.F.Shelf.files c.args.shelf.now) c.args.name.now (g.C.Checks.seen c.args.checker) c.loop-claim.reader (g.C.Checks.seen c.loop-claim.checker)
          c.loop-claim.invariant.0 c.next.ensures.limit,
    )

pub loop-claim-init : goal.loop-claim-init
loop-claim-init g c = (
  begins g.C.Checks.subject (g.F.Shelf.files c.args.shelf.now) c.args.name.now (g.C.Checks.seen c.args.checker) c.args.reader.now c.requires.fresh
      c.requires.sound c.requires.opened,
  refl,
  omega arith,
  λ name offset promised. promised,
  omega arith,
)

pub returns-in-Err-Unreadable-clause-cause : goal.returns-in-Err-Unreadable-clause-cause
returns-in-Err-Unreadable-clause-cause g c =
    let files = g.F.Shelf.files c.args.shelf.now in
    let name = c.args.name.now in
    let on = c.loop-claim.invariant.0 in
    let rose = Rose (g.F.Shelf.faults c.loop-claim.shelf) (g.F.Shelf.faults c.next.new.shelf) in
    let read = subst (λ (f : ReadFault). Gives files name rose on.now c.next.new.self (Err f))
    c.in-Err-Unreadable.field-0-is
    (given g.C.Checks.subject files name (g.C.Checks.seen c.args.checker) c.loop-claim.reader (g.C.Checks.seen c.loop-claim.checker) on rose c.next.new.self
    (Err c.in-Err-Unreadable.field-0)
    (g.F.Shelf.files c.loop-claim.shelf) c.loop-claim.invariant.1 c.in-Err-Unreadable.ensures.gives) in
    rose_later _ _ _ c.loop-claim.invariant.2 read

pub loop-claim-smaller : goal.loop-claim-smaller
loop-claim-smaller g c =
    let files = g.F.Shelf.files c.args.shelf.now in
    let name = c.args.name.now in
    let on = c.loop-claim.invariant.0 in
    omega (
      arith,
      counted g.C.Checks.subject files name (g.C.Checks.seen c.args.checker) c.loop-claim.reader (g.C.Checks.seen c.loop-claim.checker) on c.next.ensures.limit,
      count_grows g.C.Checks.subject files name (g.C.Checks.seen c.args.checker) c.loop-claim.reader (g.C.Checks.seen c.loop-claim.checker) on c.in-Ok-Some.claim
          (g.C.Checks.seen c.feed.new.self)
          (c.in_default.ensures.taken (unrefused g.C.Checks.subject files name (g.C.Checks.seen c.args.checker) c.loop-claim.reader (g.C.Checks.seen c.loop-claim.checker)
          on)),
    )

pub loop-claim-preserved : goal.loop-claim-preserved
loop-claim-preserved g c =
    let files = g.F.Shelf.files c.args.shelf.now in
    let name = c.args.name.now in
    let on = c.loop-claim.invariant.0 in
    let rose = Rose (g.F.Shelf.faults c.loop-claim.shelf) (g.F.Shelf.faults c.next.new.shelf) in
    let read = subst (λ (o : Option Claim). Gives files name rose on.now c.next.new.self (Ok o)) c.in-Ok-Some.field-0-is
    (given g.C.Checks.subject files name (g.C.Checks.seen c.args.checker) c.loop-claim.reader (g.C.Checks.seen c.loop-claim.checker) on rose c.next.new.self
    (Ok c.in-Ok-Some.field-0)
    (g.F.Shelf.files c.loop-claim.shelf) c.loop-claim.invariant.1 c.in-Ok-Some.ensures.gives) in (
      takes_on g.C.Checks.subject files name (g.C.Checks.seen c.args.checker) c.loop-claim.reader (g.C.Checks.seen c.loop-claim.checker) on c.in-Ok-Some.claim (g.C.Checks.seen c.feed.new.self)
          c.next.new.self
          read.0 read.1 (c.in_default.ensures.taken
          (unrefused g.C.Checks.subject files name (g.C.Checks.seen c.args.checker) c.loop-claim.reader (g.C.Checks.seen c.loop-claim.checker) on)),
      c.next.ensures.files ∙ c.loop-claim.invariant.1,
      omega (arith, c.loop-claim.invariant.2, c.next.ensures.faults),
      λ name offset promised. c.next.ensures.serving name offset (c.loop-claim.invariant.3 name offset promised),
      omega (arith, c.loop-claim.invariant.4, c.in-Ok-Some.ensures.told),
    )

pub returns-in-Err-clause-finds : goal.returns-in-Err-clause-finds
returns-in-Err-clause-finds g c =
    let files = g.F.Shelf.files c.args.shelf.now in
    let name = c.args.name.now in
    let on = c.loop-claim.invariant.0 in
    let rose = Rose (g.F.Shelf.faults c.loop-claim.shelf) (g.F.Shelf.faults c.next.new.shelf) in
    let read = subst (λ (o : Option Claim). Gives files name rose on.now c.next.new.self (Ok o)) c.in-Ok-Some.field-0-is
    (given g.C.Checks.subject files name (g.C.Checks.seen c.args.checker) c.loop-claim.reader (g.C.Checks.seen c.loop-claim.checker) on rose c.next.new.self
    (Ok c.in-Ok-Some.field-0)
    (g.F.Shelf.files c.loop-claim.shelf) c.loop-claim.invariant.1 c.in-Ok-Some.ensures.gives) in
    refuses_next g.C.Checks.subject files name (g.C.Checks.seen c.args.checker) c.loop-claim.reader (g.C.Checks.seen c.loop-claim.checker) on c.in-Ok-Some.claim
    c.in-Err.refused
    (g.C.Checks.seen c.feed.new.self) c.next.new.self read.0 read.1 c.next.ensures.limit_after
    (c.in-Err.ensures.refused (unrefused g.C.Checks.subject files name (g.C.Checks.seen c.args.checker) c.loop-claim.reader (g.C.Checks.seen c.loop-claim.checker) on))

pub returns-in-Ok-None-clause-finds : goal.returns-in-Ok-None-clause-finds
returns-in-Ok-None-clause-finds g c =
    let files = g.F.Shelf.files c.args.shelf.now in
    let name = c.args.name.now in
    let on = c.loop-claim.invariant.0 in
    let rose = Rose (g.F.Shelf.faults c.loop-claim.shelf) (g.F.Shelf.faults c.next.new.shelf) in
    let read = subst (λ (o : Option Claim). Gives files name rose on.now c.next.new.self (Ok o)) c.in-Ok-None.field-0-is
    (given g.C.Checks.subject files name (g.C.Checks.seen c.args.checker) c.loop-claim.reader (g.C.Checks.seen c.loop-claim.checker) on rose c.next.new.self
    (Ok c.in-Ok-None.field-0)
    (g.F.Shelf.files c.loop-claim.shelf) c.loop-claim.invariant.1 c.in-Ok-None.ensures.gives) in
    finds_end g.C.Checks.subject files name (g.C.Checks.seen c.args.checker) c.loop-claim.reader (g.C.Checks.seen c.loop-claim.checker) on c.at_end.result c.next.ensures.limit
    read
    c.at_end.ensures.accepted c.at_end.ensures.short

pub returns-in-Err-Text-clause-finds : goal.returns-in-Err-Text-clause-finds
returns-in-Err-Text-clause-finds g c =
    let files = g.F.Shelf.files c.args.shelf.now in
    let name = c.args.name.now in
    let on = c.loop-claim.invariant.0 in
    let rose = Rose (g.F.Shelf.faults c.loop-claim.shelf) (g.F.Shelf.faults c.next.new.shelf) in
    let read = subst (λ (f : ReadFault). Gives files name rose on.now c.next.new.self (Err f)) c.in-Err-Text.field-0-is
    (given g.C.Checks.subject files name (g.C.Checks.seen c.args.checker) c.loop-claim.reader (g.C.Checks.seen c.loop-claim.checker) on rose c.next.new.self
    (Err c.in-Err-Text.field-0)
    (g.F.Shelf.files c.loop-claim.shelf) c.loop-claim.invariant.1 c.in-Err-Text.ensures.gives) in
    subst
    (λ (f : CertFault). Finds (g.C.Checks.subject (g.C.Checks.seen c.args.checker).asked) (g.C.Checks.seen c.args.checker).head files name
    (verdicts.Text f))
    (sym c.in-Err-Text.fault-is)
    (finds_fault g.C.Checks.subject files name (g.C.Checks.seen c.args.checker) c.loop-claim.reader (g.C.Checks.seen c.loop-claim.checker) on c.in-Err-Text.fault read)

-- ---- how much is read

pub returns-in-Err-clause-near : goal.returns-in-Err-clause-near
returns-in-Err-clause-near g c =
    let files = g.F.Shelf.files c.args.shelf.now in
    let name = c.args.name.now in
    let start = g.C.Checks.seen c.args.checker in
    let checker = g.C.Checks.seen c.loop-claim.checker in
    let reader = c.loop-claim.reader in
    let on = c.loop-claim.invariant.0 in
    let rose = Rose (g.F.Shelf.faults c.loop-claim.shelf) (g.F.Shelf.faults c.next.new.shelf) in
    let read = subst (λ (o : Option Claim). Gives files name rose on.now c.next.new.self (Ok o)) c.in-Ok-Some.field-0-is
    (given g.C.Checks.subject files name start reader checker on rose c.next.new.self (Ok c.in-Ok-Some.field-0)
    (g.F.Shelf.files c.loop-claim.shelf) c.loop-claim.invariant.1 c.in-Ok-Some.ensures.gives) in
    record {
      read = c.next.new.self.offset;
      few = omega (arith, c.loop-claim.invariant.4, c.in-Ok-Some.ensures.told);
      near = refused_near g.C.Checks.subject files name start reader checker on c.in-Ok-Some.claim c.in-Err.refused
          (g.C.Checks.seen c.feed.new.self) c.next.new.self read.0 read.1 read.2 c.next.ensures.short
          (c.in-Err.ensures.refused (unrefused g.C.Checks.subject files name start reader checker on));
    }

pub returns-in-Ok-None-clause-near : goal.returns-in-Ok-None-clause-near
returns-in-Ok-None-clause-near g c =
    let files = g.F.Shelf.files c.args.shelf.now in
    let name = c.args.name.now in
    let start = g.C.Checks.seen c.args.checker in
    let checker = g.C.Checks.seen c.loop-claim.checker in
    let reader = c.loop-claim.reader in
    let on = c.loop-claim.invariant.0 in
    let rose = Rose (g.F.Shelf.faults c.loop-claim.shelf) (g.F.Shelf.faults c.next.new.shelf) in
    let read = subst (λ (o : Option Claim). Gives files name rose on.now c.next.new.self (Ok o)) c.in-Ok-None.field-0-is
    (given g.C.Checks.subject files name start reader checker on rose c.next.new.self (Ok c.in-Ok-None.field-0)
    (g.F.Shelf.files c.loop-claim.shelf) c.loop-claim.invariant.1 c.in-Ok-None.ensures.gives) in
    record {
      read = c.next.new.self.offset;
      few = omega (arith, c.loop-claim.invariant.4, c.in-Ok-None.ensures.told);
      near = end_near g.C.Checks.subject files name start reader checker on c.at_end.result c.next.new.self.offset read
          c.at_end.ensures.accepted c.at_end.ensures.short;
    }

pub returns-in-Err-Text-clause-near : goal.returns-in-Err-Text-clause-near
returns-in-Err-Text-clause-near g c =
    let files = g.F.Shelf.files c.args.shelf.now in
    let name = c.args.name.now in
    let start = g.C.Checks.seen c.args.checker in
    let checker = g.C.Checks.seen c.loop-claim.checker in
    let reader = c.loop-claim.reader in
    let on = c.loop-claim.invariant.0 in
    let rose = Rose (g.F.Shelf.faults c.loop-claim.shelf) (g.F.Shelf.faults c.next.new.shelf) in
    let known = subst (λ (f : ReadFault). Gives files name rose on.now c.next.new.self (Err f)) c.in-Err-Text.field-0-is
    (given g.C.Checks.subject files name start reader checker on rose c.next.new.self (Err c.in-Err-Text.field-0)
    (g.F.Shelf.files c.loop-claim.shelf) c.loop-claim.invariant.1 c.in-Err-Text.ensures.gives) in
    wrong_near g.C.Checks.subject files name start reader checker on c.in-Err-Text.fault
    (g.F.Shelf.given c.args.shelf.now) (g.F.Shelf.given c.next.new.shelf + c.args.reader.now.offset)
    c.next.new.self.offset known
    (subst (λ (fs : Files). StandsNear fs name reader c.next.new.self.offset) c.loop-claim.invariant.1
    c.in-Err-Text.ensures.near on.now on.at)
    (λ place is. omega (arith, c.loop-claim.invariant.4, c.next.ensures.told_word place (c.in-Err-Text.is ∙ cc is)))
    (omega (arith, c.loop-claim.invariant.4, c.next.ensures.little))
