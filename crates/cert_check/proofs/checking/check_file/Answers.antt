use Rattle.std.proofs.Common.{◌+◌, inl, Result, Err, refl, sym, subst, arith}
use Rattle.cert_check.specs.Answers.{Answers}
use Rattle.cert_check.specs.Starts.{IsStarted}
use Rattle.cert_check.specs.Judged.{shelved}
use Rattle.cert_check.specs.declared.checking.CheckFault.{CheckFault}
use Rattle.cert_check.proofs.AnswerLemmas.{narrow_answer, started_read, starts_answer, unstarted_headless, unstarted_missing, unstarted_served}
use Rattle.cert_check.proofs.JudgedLemmas.{judged_since}
use Rattle.cert_check.proofs.RefusedLemmas.{accepted_answer}
use Rattle.cert_file.specs.Readings.{Files}
use Rattle.cert_file.specs.declared.verdict.Verdict.{Verdict}
use Rattle.cert_file.proofs.NearLemmas.{each_verdict}
use Rattle.cert_check.specs.Settings.{Asked}
use Rattle.fux_port.specs.Counts.{Rose}
use Rattle.fux_port.specs.Promises.{ServesWhole}
use Rattle.cert_check.proofs.checking.check_file.Goals as goal

-- ---- where no head was read

pub returns-in-Err-clause-answers : goal.returns-in-Err-clause-answers
returns-in-Err-clause-answers g c =
    let files = g.F.Shelf.files c.args.shelf.now in
    let rose = Rose (g.F.Shelf.faults c.args.shelf.now) (g.F.Shelf.faults c.start.new.shelf) in
    subst (λ (r : Result Verdict CheckFault). Answers c.args.ex.now c.args.sheet.now files c.args.name.now rose r)
    (sym c.not_started.ensures)
    (starts_answer c.args.ex.now c.args.sheet.now files c.args.name.now rose c.in-Err.fault c.in-Err.ensures.starts)

pub returns-in-Err-clause-accepts : goal.returns-in-Err-clause-accepts
returns-in-Err-clause-accepts g c =
    accepted_answer c.args.ex.now c.args.sheet.now (g.F.Shelf.files c.args.shelf.now) c.args.name.now
    (Rose (g.F.Shelf.faults c.args.shelf.now) (g.F.Shelf.faults c.start.new.shelf)) c.requires.valid c.not_started.result
    (returns-in-Err-clause-answers g c)

pub returns-in-Err-clause-missing : goal.returns-in-Err-clause-missing
returns-in-Err-clause-missing g c = λ missing.
    rw c.not_started.ensures (unstarted_missing (Err c.in-Err.fault) c.in-Err.fault refl
    (c.in-Err.ensures.missing missing))

pub returns-in-Err-clause-served : goal.returns-in-Err-clause-served
returns-in-Err-clause-served g c = λ all.
    rw c.not_started.ensures (unstarted_served c.in-Err.fault
    (c.in-Err.ensures.served (λ offset within. all offset (omega (arith, within)))))

pub returns-in-Err-clause-near : goal.returns-in-Err-clause-near
returns-in-Err-clause-near g c = each_verdict _ c.not_started.result (λ it. inl c.start.ensures.little)

pub returns-in-Err-clause-narrow : goal.returns-in-Err-clause-narrow
returns-in-Err-clause-narrow g c =
    narrow_answer c.args.ex.now c.args.sheet.now (g.F.Shelf.files c.args.shelf.now) c.args.name.now
    (Rose (g.F.Shelf.faults c.args.shelf.now) (g.F.Shelf.faults c.start.new.shelf)) c.not_started.result
    (returns-in-Err-clause-answers g c)

pub returns-in-Err-clause-wide : goal.returns-in-Err-clause-wide
returns-in-Err-clause-wide g c = λ wide.
    rw c.not_started.ensures (unstarted_headless c.args.ex.now (g.F.Shelf.files c.args.shelf.now) c.args.name.now
    (Rose (g.F.Shelf.faults c.args.shelf.now) (g.F.Shelf.faults c.start.new.shelf)) c.in-Err.fault c.in-Err.ensures.starts)

-- ---- behind a head

pub check_form-requires-clause-started : goal.check_form-requires-clause-started
check_form-requires-clause-started g c κs within =
    subst
    (λ (fs : Files).
    IsStarted c.args.ex.now fs c.args.name.now c.in-Ok.started.0 c.in-Ok.started.1 c.in-Ok.started.2)
    (sym c.start.ensures.files) c.in-Ok.ensures.starts

pub returns : goal.returns
returns g c =
    let before = c.args.shelf.now in
    let mid = c.start.new.shelf in
    let after = c.check_form.new.shelf in
    let files = g.F.Shelf.files before in
    let name = c.args.name.now in
    let rose = Rose (g.F.Shelf.faults before) (g.F.Shelf.faults after) in
    let asked : Asked = record { exercise = c.args.ex.now; sheet = c.args.sheet.now } in
    let result = c.check_form.result in
    let past = g.F.Shelf.given after in
    let it = judged_since asked name (ServesWhole (g.F.Shelf.serves before) name 1073741824)
    (shelved files (g.F.Shelf.faults before) (g.F.Shelf.given before))
    (shelved (g.F.Shelf.files mid) (g.F.Shelf.faults mid) (g.F.Shelf.given mid))
    (shelved (g.F.Shelf.files after) (g.F.Shelf.faults after) (past + c.in-Ok.started.2.offset)) past
    (ServesWhole (g.F.Shelf.serves mid) name 1073741824) result c.start.ensures.files c.start.ensures.faults
    (λ read few. omega (arith, few, c.in-Ok.ensures.told))
    (λ all offset within. c.start.ensures.serving name offset (all offset within)) c.check_form.ensures.judged in
    record {
      answers = it.answers;
      accepts = accepted_answer asked.exercise asked.sheet files name rose c.requires.valid result it.answers;
      missing = λ missing. absurd (started_read c.in-Ok.started (c.in-Ok.ensures.missing missing));
      served = it.served;
      little = it.little;
      near = it.near;
      narrow = narrow_answer asked.exercise asked.sheet files name rose result it.answers;
      wide = c.check_form.ensures.wide;
      files = it.files;
      faults = it.faults;
    }
