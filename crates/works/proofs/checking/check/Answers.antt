use Rattle.std.proofs.Common.{ap}
use Rattle.std.proofs.lemmas.Result.{err_from_is_err_and}
use Rattle.works.specs.declared.work.Output.{Output}
use Rattle.works.proofs.CheckLemmas.{checked, unchecked, unmade_served}
use Rattle.works.proofs.checking.check.Goals as goal

pub returns-in_ok-output_on-in-Ok : goal.returns-in_ok-output_on-in-Ok
returns-in_ok-output_on-in-Ok g c =
    let it = c.check_file.ensures in
    record {
      checks =
          checked c.args.exercise.now c.args.sheet.now (g.F.Shelf.files c.args.shelf.now) c.args.certificate.now _
          c.in-Ok.verdict c.requires c.in_default.ensures.narrow c.in-Ok.ensures.answers c.in-Ok.ensures.accepts
          c.in_ok-output_on-in-Ok.ensures;
      served = λ promised. tt;
      little = it.little;
      near = record {
        said = c.in-Ok.verdict;
        told = ap (λ (output : Output). output.bytes) c.in_ok-output_on-in-Ok.ensures;
        near = c.in-Ok.ensures.near;
      };
      files = it.files;
      faults = it.faults;
    }

pub returns-in_err-output_on-in-Ok : goal.returns-in_err-output_on-in-Ok
returns-in_err-output_on-in-Ok g c =
    let it = c.check_file.ensures in
    let told = err_from_is_err_and c.from_residual.result c.from_residual.ensures.1 in
    record {
      checks = rw (told.1, told.2) tt;
      served = λ promised. rw (told.1, told.2) tt;
      little = it.little;
      near = rw told.1 tt;
      files = it.files;
      faults = it.faults;
    }

pub returns-in-Err : goal.returns-in-Err
returns-in-Err g c =
    let it = c.check_file.ensures in
    record {
      checks = rw c.unmade_by.ensures (unchecked c.args.exercise.now c.args.sheet.now (g.F.Shelf.files c.args.shelf.now)
          c.args.certificate.now _ c.in-Err.fault c.in_default.ensures.narrow c.in-Err.ensures.answers);
      served = λ promised. rw c.unmade_by.ensures (unmade_served c.in-Err.fault (c.in-Err.ensures.served promised));
      little = it.little;
      near = tt;
      files = it.files;
      faults = it.faults;
    }
