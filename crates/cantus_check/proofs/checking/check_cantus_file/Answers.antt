use Rattle.std.proofs.Common.{◌≡◌, ◌+◌, inl, List, [], Result, Ok, Err, refl, sym, subst, arith}
use Rattle.std.specs.Prelude.{⊤}
use Rattle.cert_file.specs.declared.verdict.Verdict.{Verdict}
use Rattle.fux_port.specs.Counts.{Rose}
use Rattle.cantus_check.specs.Answers.{Answers}
use Rattle.cantus_check.specs.Topics.{cantus_subject}
use Rattle.cantus_check.specs.Claims.{Said}
use Rattle.cantus_space.specs.declared.plan.CantusPlan.{CantusPlan}
use Rattle.cantus_check.specs.Heads.{IsHeadText}
use Rattle.cert_file.specs.Checking.{Checking, opened_at}
use Rattle.cert_file.specs.Judgments.{Finds, Shows}
use Rattle.cert_file.specs.Nearness.{ReadsNear}
use Rattle.cert_file.specs.Readings.{Files}
use Rattle.cert_file.proofs.NearLemmas.{each_verdict, near_moved}
use Rattle.cert_file.specs.Subjects.{IsOpened}
use Rattle.fux_pitch.specs.declared.pitch.Pitch.{Pitch}
use Rattle.cantus_check.specs.declared.checking.CantusFault.{CantusFault}
use Rattle.cantus_check.proofs.AnswerLemmas.{accepts_valid, judged_answer, opening_answer, starts_answer, unstarted_missing}
use Rattle.cantus_check.proofs.checking.check_cantus_file.Goals as goal

pub returns-in-Err-clause-answers : goal.returns-in-Err-clause-answers
returns-in-Err-clause-answers g c =
    let files = g.F.Shelf.files c.args.shelf.now in
    let rose = Rose (g.F.Shelf.faults c.args.shelf.now) (g.F.Shelf.faults c.start.new.shelf) in
    subst (λ (r : Result Verdict CantusFault). Answers c.args.space.now files c.args.name.now rose r)
    (sym c.not_started.ensures)
    (starts_answer c.args.space.now files c.args.name.now rose c.in-Err.fault c.in-Err.ensures.starts)

pub returns-in-Err-clause-accepts : goal.returns-in-Err-clause-accepts
returns-in-Err-clause-accepts g c =
    accepts_valid c.args.space.now (g.F.Shelf.files c.args.shelf.now) c.args.name.now
    (Rose (g.F.Shelf.faults c.args.shelf.now) (g.F.Shelf.faults c.start.new.shelf)) _
    (returns-in-Err-clause-answers g c)

pub returns-in-Err-clause-missing : goal.returns-in-Err-clause-missing
returns-in-Err-clause-missing g c = λ missing.
    rw c.not_started.ensures (unstarted_missing (Err c.in-Err.fault) c.in-Err.fault refl
    (c.in-Err.ensures.missing missing))

pub returns-in-Err-open-clause-answers : goal.returns-in-Err-open-clause-answers
returns-in-Err-open-clause-answers g c =
    let files = g.F.Shelf.files c.args.shelf.now in
    let rose = Rose (g.F.Shelf.faults c.args.shelf.now) (g.F.Shelf.faults c.start.new.shelf) in
    subst (λ (r : Result Verdict CantusFault). Answers c.args.space.now files c.args.name.now rose r)
    (sym c.not_opened.ensures)
    (opening_answer c.args.space.now files c.args.name.now rose c.in-Ok.started.0.best c.in-Ok.started.1 c.in-Err-open.fault c.in-Ok.ensures.starts
    c.in-Err-open.ensures.fault)

pub returns-in-Err-open-clause-accepts : goal.returns-in-Err-open-clause-accepts
returns-in-Err-open-clause-accepts g c =
    accepts_valid c.args.space.now (g.F.Shelf.files c.args.shelf.now) c.args.name.now
    (Rose (g.F.Shelf.faults c.args.shelf.now) (g.F.Shelf.faults c.start.new.shelf)) _
    (returns-in-Err-open-clause-answers g c)

pub judge-requires-clause-fresh : goal.judge-requires-clause-fresh
judge-requires-clause-fresh g c =
    subst (λ (k : Checking CantusPlan Said (List Pitch)). k ≡ opened_at k.asked k.head [])
    (sym c.in-Ok-open.ensures.opened) refl

pub judge-requires-clause-sound : goal.judge-requires-clause-sound
judge-requires-clause-sound g c = c.kept.ensures.sound

pub judge-requires-clause-opened : goal.judge-requires-clause-opened
judge-requires-clause-opened g c =
    let name = c.args.name.now in
    subst
    (λ (k : Checking CantusPlan Said (List Pitch)).
    IsOpened IsHeadText (g.F.Shelf.files c.start.new.shelf) name k.head c.in-Ok.started.1)
    (sym c.in-Ok-open.ensures.opened)
    (subst (λ (fs : Files). IsOpened IsHeadText fs name c.in-Ok.started.0.best c.in-Ok.started.1)
    (sym c.start.ensures.files) c.in-Ok.ensures.starts)

pub returns-in-Ok-judge-clause-answers : goal.returns-in-Ok-judge-clause-answers
returns-in-Ok-judge-clause-answers g c =
    let plan = c.args.space.now in
    let files = g.F.Shelf.files c.args.shelf.now in
    let said = c.in-Ok.started.0.best in
    let it = c.in-Ok-judge.verdict in
    let opened = c.in-Ok-open.ensures.opened in
    judged_answer plan files c.args.name.now ⊤ said it
    (subst (λ told. Finds (cantus_subject plan) said told c.args.name.now it) c.start.ensures.files
    (subst
    (λ (k : Checking CantusPlan Said (List Pitch)). Finds (cantus_subject k.asked) k.head (g.F.Shelf.files c.start.new.shelf) c.args.name.now it)
    opened
    c.in-Ok-judge.ensures.finds))
    (subst (λ (k : Checking CantusPlan Said (List Pitch)). Shows (cantus_subject k.asked) k.head it) opened c.in-Ok-judge.ensures.shown)

pub returns-in-Ok-judge-clause-accepts : goal.returns-in-Ok-judge-clause-accepts
returns-in-Ok-judge-clause-accepts g c =
    accepts_valid c.args.space.now (g.F.Shelf.files c.args.shelf.now) c.args.name.now ⊤ (Ok c.in-Ok-judge.verdict)
    (returns-in-Ok-judge-clause-answers g c)

-- ---- how much is read

pub returns-in-Err-clause-near : goal.returns-in-Err-clause-near
returns-in-Err-clause-near g c = each_verdict _ c.not_started.result (λ it. inl c.start.ensures.little)

pub returns-in-Err-open-clause-near : goal.returns-in-Err-open-clause-near
returns-in-Err-open-clause-near g c = each_verdict _ c.not_opened.result (λ it. inl c.start.ensures.little)

pub returns-in-Ok-judge-clause-near : goal.returns-in-Ok-judge-clause-near
returns-in-Ok-judge-clause-near g c =
    let name = c.args.name.now in
    let files = g.F.Shelf.files c.start.new.shelf in
    let mid = g.F.Shelf.given c.start.new.shelf in
    let past = g.F.Shelf.given c.judge.new.shelf in
    let reader = c.in-Ok.started.1 in
    let it = c.in-Ok-judge.verdict in
    near_moved (cantus_subject c.args.space.now) c.in-Ok.started.0.best files name (g.F.Shelf.files c.args.shelf.now)
    (g.F.Shelf.given c.args.shelf.now) mid (past + reader.offset) past it c.start.ensures.files
    (λ read few. omega (arith, few, c.in-Ok.ensures.told))
    (subst
    (λ (k : Checking CantusPlan Said (List Pitch)). ReadsNear (cantus_subject k.asked) k.head files name mid (past + reader.offset) it)
    c.in-Ok-open.ensures.opened c.in-Ok-judge.ensures.near)
