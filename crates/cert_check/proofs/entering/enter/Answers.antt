use Rattle.std.proofs.Common.{◌≡◌, ◌∷◌, [], ◌++◌, List, Option, Ok, Err, sym, ap, subst, ◌∙◌, arith}
use Rattle.fux_port.specs.Counts.{Rose}
use Rattle.fux_port.proofs.Rises.{rose_later}
use Rattle.std.specs.List.{flat_map}
use Rattle.cert_text.specs.declared.potential.Potential.{Potential}
use Rattle.cert_text.specs.Potentials.{potential_line}
use Rattle.cert_text.specs.declared.answers.CertFault.TheVariants.{CertWord}
use Rattle.cert_file.specs.Nearness.{EndsNear, StandsNearStated}
use Rattle.cert_file.specs.Readings.{Files}
use Rattle.cert_file.specs.StatedReadings.{GivesStated}
use Rattle.cert_file.specs.declared.fault.ReadFault.{ReadFault}
use Rattle.cert_file.specs.declared.fault.ReadFault.TheVariants.{Text}
use Rattle.cert_check.specs.Entering.{IsEnteredInto}
use Rattle.cert_check.specs.Starts.{IsStatedWhole}
use Rattle.cert_check.specs.Stating.{Stating}
use Rattle.cert_check.proofs.EnteringLemmas.{entered_more, entered_whole, enters_fault, given_there}
use Rattle.cert_check.proofs.entering.enter.Goals as goal

pub loop-potential-preserved : goal.loop-potential-preserved
loop-potential-preserved g c =
    let files = g.F.Shelf.files c.args.shelf.now in
    let name = c.args.name.now in
    let first = c.args.stated.now in
    let s = c.loop-potential.stated in
    let reader = c.loop-potential.reader in
    let on = c.loop-potential.invariant.0 in
    let p = c.in-Ok-Some.potential in
    let rose = Rose (g.F.Shelf.faults c.loop-potential.shelf) (g.F.Shelf.faults c.next.new.shelf) in
    let front = on.front ++ flat_map potential_line s.entries in
    let given = subst (λ (o : Option Potential). GivesStated files name rose front reader c.next.new.self (Ok o))
    c.in-Ok-Some.field-0-is
    (given_there s.exercise files name s.head s.entries reader on (g.F.Shelf.files c.loop-potential.shelf) rose
    c.next.new.self (Ok c.in-Ok-Some.field-0) c.loop-potential.invariant.2 c.in-Ok-Some.ensures.gives) in (
      subst (λ (t : Stating). IsEnteredInto files name t c.next.new.self) (sym c.state.ensures)
          (entered_more s.exercise files name s.head s.entries reader on p c.next.new.self given.0 given.1 given.2
          given.3),
      c.state.ensures
          ∙ ap (λ (t : Stating). record t { entries = s.entries ++ p ∷ [] }) c.loop-potential.invariant.1
          ∙ ap (λ (es : List Potential). record first { entries = es })
          (sym (ap (λ (t : Stating). t.entries) c.state.ensures)),
      c.next.ensures.files ∙ c.loop-potential.invariant.2,
      omega (arith, c.loop-potential.invariant.3, c.next.ensures.faults),
      λ name offset promised. c.next.ensures.serving name offset (c.loop-potential.invariant.4 name offset promised),
      omega (arith, c.loop-potential.invariant.5, c.in-Ok-Some.ensures.told),
    )

pub returns-in-Ok-None : goal.returns-in-Ok-None
returns-in-Ok-None g c =
    let files = g.F.Shelf.files c.args.shelf.now in
    let name = c.args.name.now in
    let s = c.loop-potential.stated in
    let reader = c.loop-potential.reader in
    let before = c.loop-potential.invariant in
    let on = before.0 in
    let next = c.next.ensures in
    let rose = Rose (g.F.Shelf.faults c.loop-potential.shelf) (g.F.Shelf.faults c.next.new.shelf) in
    let front = on.front ++ flat_map potential_line s.entries in
    let given = subst (λ (o : Option Potential). GivesStated files name rose front reader c.next.new.self (Ok o))
    c.in-Ok-None.field-0-is
    (given_there s.exercise files name s.head s.entries reader on (g.F.Shelf.files c.loop-potential.shelf) rose
    c.next.new.self (Ok c.in-Ok-None.field-0) before.2 c.in-Ok-None.ensures.gives) in
    record {
      enters = (
        before.1,
        subst (λ (t : Stating). IsStatedWhole t.exercise files name t.head s.entries c.next.new.self) before.1
            (entered_whole s.exercise files name s.head s.entries reader on c.next.new.self given.0 given.1),
      );
      limit = next.limit_after;
      short = next.short;
      word = λ place is. let none : ⊥ = cc is in absurd none;
      served = λ all. tt;
      serving = λ other offset promised. next.serving other offset (before.4 other offset promised);
      little = omega (arith, before.5, c.in-Ok-None.ensures.told);
      told = omega (arith, before.5, c.in-Ok-None.ensures.told);
      files = next.files ∙ before.2;
      faults = omega (arith, before.3, next.faults);
    }

pub returns-in-Err : goal.returns-in-Err
returns-in-Err g c =
    let files = g.F.Shelf.files c.args.shelf.now in
    let name = c.args.name.now in
    let s = c.loop-potential.stated in
    let reader = c.loop-potential.reader in
    let before = c.loop-potential.invariant in
    let on = before.0 in
    let after = c.next.new.self in
    let next = c.next.ensures in
    let rose = Rose (g.F.Shelf.faults c.args.shelf.now) (g.F.Shelf.faults c.next.new.shelf) in
    let later = Rose (g.F.Shelf.faults c.loop-potential.shelf) (g.F.Shelf.faults c.next.new.shelf) in
    let front = on.front ++ flat_map potential_line s.entries in
    let given = given_there s.exercise files name s.head s.entries reader on (g.F.Shelf.files c.loop-potential.shelf) later after
    (Err c.in-Err.fault) before.2 c.in-Err.ensures.gives in
    record {
      enters =
          enters_fault files name rose later c.args.stated.now s s reader after after c.in-Err.fault on before.1
          c.requires.sound (rose_later _ _ _ before.3) given;
      limit = next.limit_after;
      short = next.short;
      word = λ place is.
          let fault : c.in-Err.fault ≡ Text (CertWord place) = cc is in
          let known = subst (λ (f : ReadFault). GivesStated files name later front reader after (Err f)) fault given in (
            omega (arith, before.5, next.told_word place (c.in-Err.is ∙ ap Err fault)),
            subst (λ n. EndsNear files name n after.offset) (sym known.such.0)
                (subst (λ (fs : Files). StandsNearStated fs name reader after.offset) before.2 c.in-Err.ensures.near front
                on.at),
          );
      served = λ all. c.in-Err.ensures.served (λ offset within. before.4 name offset (all offset within));
      serving = λ other offset promised. next.serving other offset (before.4 other offset promised);
      little = omega (arith, before.5, next.little);
      told = tt;
      files = next.files ∙ before.2;
      faults = omega (arith, before.3, next.faults);
    }
