use Rattle.std.proofs.Common.{ap, subst}
use Rattle.std.proofs.lemmas.Result.{err_from_is_err_and}
use Rattle.cantus_check.specs.Topics.{cantus_subject}
use Rattle.cantus_space.specs.declared.plan.CantusPlan.{CantusPlan}
use Rattle.cert_file.specs.Nearness.{IsReadNear}
use Rattle.works.specs.declared.work.Output.{Output}
use Rattle.works.specs.CantusChecked.{IsCantusChecked}
use Rattle.works.proofs.CantusCheckLemmas.{checked}
use Rattle.works.proofs.cantus_checking.check.Goals as goal

pub returns-in_ok-output_on-in-Ok : goal.returns-in_ok-output_on-in-Ok
returns-in_ok-output_on-in-Ok g c =
    let files = g.F.Shelf.files c.args.shelf.now in
    let name = c.args.certificate.now in
    let output = c.in_ok-output_on-in-Ok.field-0 in
    let it = c.check_cantus_file.ensures in
    record {
      checks =
          subst (λ (plan : CantusPlan). IsCantusChecked plan files name output) c.space_of-space.ensures
          (checked c.space_of-space.result files name output c.in-Ok.verdict c.in-Ok.ensures.answers c.in-Ok.ensures.accepts
          c.in_ok-output_on-in-Ok.ensures);
      served = λ promised. tt;
      little = it.little;
      near = record {
        said = c.in-Ok.verdict;
        told = ap (λ (output : Output). output.bytes) c.in_ok-output_on-in-Ok.ensures;
        near = subst
            (λ (plan : CantusPlan). IsReadNear (cantus_subject plan) files name (g.F.Shelf.given c.args.shelf.now)
            (g.F.Shelf.given c.check_cantus_file.new.shelf) c.in-Ok.verdict)
            c.space_of-space.ensures c.in-Ok.ensures.near;
      };
      files = it.files;
      faults = it.faults;
    }

pub returns-in_err-output_on-in-Ok : goal.returns-in_err-output_on-in-Ok
returns-in_err-output_on-in-Ok g c =
    let it = c.check_cantus_file.ensures in
    let told = err_from_is_err_and c.from_residual.result c.from_residual.ensures.1 in
    record {
      checks = rw (told.1, told.2) tt;
      served = λ promised. rw (told.1, told.2) tt;
      little = it.little;
      near = rw told.1 tt;
      files = it.files;
      faults = it.faults;
    }

pub returns-in-Err-Unreadable : goal.returns-in-Err-Unreadable
returns-in-Err-Unreadable g c =
    let it = c.check_cantus_file.ensures in
    record {
      checks = rw c.in-Err-Unreadable.field-0-is at c.in-Err-Unreadable.ensures.answers;
      served = λ promised. c.in-Err-Unreadable.ensures.served promised c.in-Err-Unreadable.field-0-is;
      little = it.little;
      near = tt;
      files = it.files;
      faults = it.faults;
    }

pub returns-in-Err-Memory : goal.returns-in-Err-Memory
returns-in-Err-Memory g c =
    let it = c.check_cantus_file.ensures in
    record {
      checks = tt;
      served = λ promised. tt;
      little = it.little;
      near = tt;
      files = it.files;
      faults = it.faults;
    }
