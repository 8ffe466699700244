use Rattle.std.proofs.Common.{◌≡◌, ◌+◌, List, [], None, Some, Result, Err, length, refl, sym, ap, subst, ◌∙◌, arith}
use Rattle.cert_check.specs.Answers.{Answers, unopened, unstarted}
use Rattle.cert_check.specs.Judged.{AreClaimsJudged, IsFileJudged, shelved}
use Rattle.cert_file.specs.Checking.{Checking, opened_at}
use Rattle.cert_file.specs.Subjects.{IsOpened}
use Rattle.cert_check.specs.Settings.{Asked, IsOpeningText, Numbers, Opening}
use Rattle.cert_check.proofs.NearLemmas.{closed_near, entered_near}
use Rattle.cert_check.specs.Starts.{IsEntered, IsStatedWhole}
use Rattle.fux_grid.specs.declared.cell.Cell.{Cell}
use Rattle.cert_check.specs.Stating.{Stating, TellsFalse, stating_for}
use Rattle.cert_check.specs.declared.checking.CheckFault.{CheckFault}
use Rattle.cert_check.proofs.AnswerLemmas.{opening_answer, unclosed_served, unopened_narrow, unopened_served, unstarted_served}
use Rattle.cert_check.proofs.EnteringLemmas.{claims_opened, closed_answer, entered_answer, first_entered}
use Rattle.cert_check.proofs.JudgedLemmas.{behind_front, judged_since, unread}
use Rattle.cert_file.specs.Readings.{Files, Reading}
use Rattle.cert_file.specs.StatedReadings.{StatedReading}
use Rattle.cert_file.specs.declared.verdict.Verdict.{Verdict}
use Rattle.cert_law.specs.Entries.{entry_count}
use Rattle.cert_text.specs.declared.answers.Form.TheVariants.{Second}
use Rattle.fux_port.specs.Counts.{Rose}
use Rattle.fux_port.specs.Promises.{ServesWhole}
use Rattle.cert_file.proofs.NearLemmas.{each_verdict}
use Rattle.floor_tables.specs.Tables.{AreNarrow}
use Rattle.cert_check.proofs.checking.check_second.Goals as goal

pub returns-in-Err-clause-judged : goal.returns-in-Err-clause-judged
returns-in-Err-clause-judged g c =
    let files = g.F.Shelf.files c.args.shelf.now in
    let name = c.args.name.now in
    let told = shelved files (g.F.Shelf.faults c.args.shelf.now) (g.F.Shelf.given c.args.shelf.now) in
    let promised = ServesWhole (g.F.Shelf.serves c.args.shelf.now) name 1073741824 in
    let asked : Asked = record { exercise = c.args.ex.now; sheet = c.args.sheet.now } in
    let offset = c.args.pieces.offset in
    let fault = c.in-Err.fault in
    subst
    (λ (r : Result Verdict CheckFault). IsFileJudged asked name promised told (shelved told.files told.faults (told.given + offset)) r)
    (sym c.not_opened.ensures)
    (unread asked name promised told offset (unopened fault) c.requires.limit
    (opening_answer asked.exercise asked.sheet files name (Rose told.faults told.faults) Second c.args.head c.args.pieces fault
    tt c.requires.started c.in-Err.ensures.fault) (unopened_served fault))

pub enter-requires-clause-entered : goal.enter-requires-clause-entered
enter-requires-clause-entered g c =
    let files = g.F.Shelf.files c.args.shelf.now in
    let name = c.args.name.now in
    let opened = c.in-Ok.ensures.opened in
    let all : c.owed.result ≡ entry_count c.args.ex.now = omega (
      arith,
      c.owed.ensures,
      ap (λ (s : Stating). length s.entries) opened,
      ap (λ (s : Stating). entry_count s.exercise) opened,
    ) in
    subst (λ (s : Stating). IsEntered s.exercise files name s.head s.entries c.behind-reader.result) (sym opened)
    (subst (λ (r : StatedReading). IsEntered c.args.ex.now files name c.args.head _ r) (sym c.behind-reader.ensures)
    (first_entered c.args.ex.now files name c.args.head c.args.pieces c.owed.result c.requires.started all))

pub returns-in-Err-enter-clause-judged : goal.returns-in-Err-enter-clause-judged
returns-in-Err-enter-clause-judged g c =
    let files = g.F.Shelf.files c.args.shelf.now in
    let name = c.args.name.now in
    let told = shelved files (g.F.Shelf.faults c.args.shelf.now) (g.F.Shelf.given c.args.shelf.now) in
    let promised = ServesWhole (g.F.Shelf.serves c.args.shelf.now) name 1073741824 in
    let asked : Asked = record { exercise = c.args.ex.now; sheet = c.args.sheet.now } in
    let then = shelved (g.F.Shelf.files c.enter.new.shelf) (g.F.Shelf.faults c.enter.new.shelf)
    (g.F.Shelf.given c.enter.new.shelf + c.args.pieces.offset) in
    let fault = c.in-Err-enter.fault in
    let enter = c.enter.ensures in
    let from = ap (λ (r : StatedReading). r.offset) c.behind-reader.ensures in
    subst (λ (r : Result Verdict CheckFault). IsFileJudged asked name promised told then r) (sym c.not_started.ensures) record {
      answers =
          subst (λ (s : Stating). Answers s.exercise s.sheet files name (Rose told.faults then.faults) (unstarted fault))
          c.in-Ok.ensures.opened
          (entered_answer files name (Rose told.faults then.faults) c.in-Ok.stated c.enter.new.stated c.enter.new.reader fault
          c.in-Err-enter.ensures.enters);
      served = λ all. unstarted_served fault (c.in-Err-enter.ensures.served all);
      little = omega (arith, enter.little, enter.limit, from);
      near =
          entered_near asked files name told.given then.given (record { head = c.args.head; stated = Numbers None })
          (Rose told.faults then.faults) c.in-Ok.stated c.enter.new.stated c.enter.new.reader fault c.enter.new.reader.offset
          (omega (arith, enter.little, from)) c.in-Err-enter.ensures.enters
          (λ place is. let word = enter.word place (c.in-Err-enter.is ∙ ap Err is) in (omega (arith, word.0, from), word.1));
      files = enter.files;
      faults = enter.faults;
    }

pub judge_claims-requires-clause-opened : goal.judge_claims-requires-clause-opened
judge_claims-requires-clause-opened g c =
    let files = g.F.Shelf.files c.args.shelf.now in
    let name = c.args.name.now in
    let s = c.in-Ok.stated in
    let entries = c.enter.new.stated.entries in
    let enters = c.in_default.ensures.enters in
    let claims = c.claims.result in
    subst
    (λ (k : Checking Asked Opening (List (List Cell))).
    IsOpened (IsOpeningText k.asked.exercise) (g.F.Shelf.files c.enter.new.shelf) name k.head claims)
    (sym c.in-Ok-close.ensures.opened)
    (subst
    (λ (t : Stating). IsOpened (IsOpeningText t.exercise) (g.F.Shelf.files c.enter.new.shelf) name
    (record { head = t.head; stated = Numbers (Some entries) }) claims)
    (sym enters.0)
    (subst (λ (fs : Files). IsOpened (IsOpeningText s.exercise) fs name (record { head = s.head; stated = Numbers (Some entries) }) claims) (sym c.enter.ensures.files)
    (subst (λ (r : Reading). IsOpened (IsOpeningText s.exercise) files name (record { head = s.head; stated = Numbers (Some entries) }) r) (sym c.claims.ensures)
    (claims_opened s.exercise files name s.head entries c.enter.new.reader enters.1))))

pub returns-in-Ok-close-clause-judged : goal.returns-in-Ok-close-clause-judged
returns-in-Ok-close-clause-judged g c =
    let files = g.F.Shelf.files c.args.shelf.now in
    let name = c.args.name.now in
    let told = shelved files (g.F.Shelf.faults c.args.shelf.now) (g.F.Shelf.given c.args.shelf.now) in
    let promised = ServesWhole (g.F.Shelf.serves c.args.shelf.now) name 1073741824 in
    let asked : Asked = record { exercise = c.args.ex.now; sheet = c.args.sheet.now } in
    let entries = c.enter.new.stated.entries in
    let opening : Opening = record { head = c.args.head; stated = Numbers (Some entries) } in
    let mid = shelved (g.F.Shelf.files c.enter.new.shelf) (g.F.Shelf.faults c.enter.new.shelf)
    (g.F.Shelf.given c.enter.new.shelf) in
    let later = ServesWhole (g.F.Shelf.serves c.enter.new.shelf) name 1073741824 in
    let past = g.F.Shelf.given c.judge_claims.new.shelf in
    let after = shelved (g.F.Shelf.files c.judge_claims.new.shelf) (g.F.Shelf.faults c.judge_claims.new.shelf)
    (past + c.claims.result.offset) in
    let result = c.judge_claims.result in
    judged_since asked name promised told mid after (past + c.args.pieces.offset) later result c.enter.ensures.files
    c.enter.ensures.faults
    (λ read few. omega (
      arith,
      few,
      c.in_default.ensures.told,
      ap (λ (r : StatedReading). r.offset) c.behind-reader.ensures,
      ap (λ (r : Reading). r.offset) c.claims.ensures,
    ))
    (λ all offset within. c.enter.ensures.serving name offset (all offset within))
    (behind_front asked name later opening mid after result
    (subst
    (λ (s : Stating). AreClaimsJudged (record { exercise = s.exercise; sheet = s.sheet })
    (record { head = s.head; stated = Numbers (Some entries) }) name later mid after result)
    c.in-Ok.ensures.opened
    (subst
    (λ (t : Stating). AreClaimsJudged (record { exercise = t.exercise; sheet = t.sheet })
    (record { head = t.head; stated = Numbers (Some entries) }) name later mid after result)
    c.in_default.ensures.enters.0
    (subst (λ (k : Checking Asked Opening (List (List Cell))). AreClaimsJudged k.asked k.head name later mid after result)
    c.in-Ok-close.ensures.opened c.judge_claims.ensures))))

pub returns-in-Err-close-clause-judged : goal.returns-in-Err-close-clause-judged
returns-in-Err-close-clause-judged g c =
    let files = g.F.Shelf.files c.args.shelf.now in
    let name = c.args.name.now in
    let told = shelved files (g.F.Shelf.faults c.args.shelf.now) (g.F.Shelf.given c.args.shelf.now) in
    let promised = ServesWhole (g.F.Shelf.serves c.args.shelf.now) name 1073741824 in
    let asked : Asked = record { exercise = c.args.ex.now; sheet = c.args.sheet.now } in
    let then = shelved (g.F.Shelf.files c.enter.new.shelf) (g.F.Shelf.faults c.enter.new.shelf)
    (g.F.Shelf.given c.enter.new.shelf + c.args.pieces.offset) in
    let t = c.enter.new.stated in
    let fault = c.in-Err-close.fault in
    let enter = c.enter.ensures in
    let enters = c.in_default.ensures.enters in
    let opened = c.in-Ok.ensures.opened in
    let same : t ≡ stating_for asked.exercise asked.sheet c.args.head t.entries = enters.0
    ∙ ap (λ (s : Stating). record s { entries = t.entries }) opened in
    let whole = subst (λ (s : Stating). IsStatedWhole s.exercise files name s.head t.entries c.enter.new.reader) opened
    enters.1 in
    let untrue = subst (λ (s : Stating). TellsFalse s fault) same c.in-Err-close.ensures.refused in
    let from = ap (λ (r : StatedReading). r.offset) c.behind-reader.ensures in
    subst (λ (r : Result Verdict CheckFault). IsFileJudged asked name promised told then r) (sym c.not_closed.ensures) record {
      answers =
          closed_answer asked.exercise files name c.args.head asked.sheet (Rose told.faults then.faults) t.entries c.enter.new.reader
          fault c.in-Ok.ensures.sound whole enter.limit untrue;
      served = λ all. unclosed_served fault;
      little = omega (arith, c.in_default.ensures.told, enter.limit, from);
      near =
          closed_near asked files name told.given then.given c.args.head t.entries c.enter.new.reader fault whole enter.short
          (omega (arith, c.in_default.ensures.told, from)) untrue;
      files = enter.files;
      faults = enter.faults;
    }

pub judge_claims-requires-clause-fresh : goal.judge_claims-requires-clause-fresh
judge_claims-requires-clause-fresh g c =
    subst (λ (k : Checking Asked Opening (List (List Cell))). k ≡ opened_at k.asked k.head []) (sym c.in-Ok-close.ensures.opened) refl

-- ---- where there is a verdict, no menu is too wide

pub returns-in-Err-clause-narrow : goal.returns-in-Err-clause-narrow
returns-in-Err-clause-narrow g c =
    rw c.not_opened.ensures (unopened_narrow c.args.ex.now c.args.sheet.now c.args.head c.in-Err.fault
    c.in-Err.ensures.fault)

pub returns-in-Err-enter-clause-narrow : goal.returns-in-Err-enter-clause-narrow
returns-in-Err-enter-clause-narrow g c =
    each_verdict (λ it. AreNarrow c.args.ex.now) c.not_started.result (λ it. c.in-Ok.ensures.narrow)

pub returns-in-Ok-close-clause-narrow : goal.returns-in-Ok-close-clause-narrow
returns-in-Ok-close-clause-narrow g c =
    each_verdict (λ it. AreNarrow c.args.ex.now) c.judge_claims.result (λ it. c.in-Ok.ensures.narrow)

pub returns-in-Err-close-clause-narrow : goal.returns-in-Err-close-clause-narrow
returns-in-Err-close-clause-narrow g c =
    each_verdict (λ it. AreNarrow c.args.ex.now) c.not_closed.result (λ it. c.in-Ok.ensures.narrow)
