use Rattle.std.proofs.Common.{◌≡◌, ◌+◌, ℕ, List, [], None, Result, refl, sym, ap, subst}
use Rattle.cert_file.specs.Checking.{Checking, opened_at}
use Rattle.cert_file.specs.Subjects.{IsOpened}
use Rattle.cert_check.specs.Judged.{AreClaimsJudged, IsFileJudged, shelved}
use Rattle.cert_check.specs.Settings.{Asked, IsOpeningText, Numbers, Opening}
use Rattle.fux_grid.specs.declared.cell.Cell.{Cell}
use Rattle.cert_check.specs.Answers.{unfilled, unopened}
use Rattle.cert_check.specs.declared.checking.CheckFault.{CheckFault}
use Rattle.cert_check.proofs.AnswerLemmas.{first_opened, opening_answer, unfilled_answer, unfilled_narrow, unfilled_served, unopened_narrow, unopened_served}
use Rattle.cert_check.proofs.JudgedLemmas.{behind_front, unread}
use Rattle.cert_file.specs.Readings.{Reading}
use Rattle.cert_file.specs.declared.verdict.Verdict.{Verdict}
use Rattle.cert_text.specs.declared.answers.Form.TheVariants.{First}
use Rattle.fux_port.specs.Counts.{Rose}
use Rattle.fux_port.specs.Promises.{ServesWhole}
use Rattle.cert_file.proofs.NearLemmas.{each_verdict}
use Rattle.floor_tables.specs.Tables.{AreNarrow}
use Rattle.cert_check.proofs.checking.check_first.Goals as goal

pub returns-in-Err-clause-judged : goal.returns-in-Err-clause-judged
returns-in-Err-clause-judged g c =
    let files = g.F.Shelf.files c.args.shelf.now in
    let name = c.args.name.now in
    let told = shelved files (g.F.Shelf.faults c.args.shelf.now) (g.F.Shelf.given c.args.shelf.now) in
    let promised = ServesWhole (g.F.Shelf.serves c.args.shelf.now) name 1073741824 in
    let asked : Asked = record { exercise = c.args.ex.now; sheet = c.args.sheet.now } in
    let offset = c.args.pieces.offset in
    let fault = c.in-Err.fault in
    subst
    (λ (r : Result Verdict CheckFault). IsFileJudged asked name promised told (shelved told.files told.faults (told.given + offset)) r)
    (sym c.not_filled.ensures)
    (unread asked name promised told offset (unfilled fault) c.requires.limit
    (unfilled_answer asked.exercise asked.sheet files name (Rose told.faults told.faults) fault c.in-Err.ensures.wide)
    (unfilled_served fault))

pub returns-in-Err-clause-narrow : goal.returns-in-Err-clause-narrow
returns-in-Err-clause-narrow g c = rw c.not_filled.ensures (unfilled_narrow c.args.ex.now c.in-Err.fault)

pub returns-in-Err-open-clause-judged : goal.returns-in-Err-open-clause-judged
returns-in-Err-open-clause-judged g c =
    let files = g.F.Shelf.files c.args.shelf.now in
    let name = c.args.name.now in
    let told = shelved files (g.F.Shelf.faults c.args.shelf.now) (g.F.Shelf.given c.args.shelf.now) in
    let promised = ServesWhole (g.F.Shelf.serves c.args.shelf.now) name 1073741824 in
    let asked : Asked = record { exercise = c.args.ex.now; sheet = c.args.sheet.now } in
    let offset = c.args.pieces.offset in
    let fault = c.in-Err-open.fault in
    subst
    (λ (r : Result Verdict CheckFault). IsFileJudged asked name promised told (shelved told.files told.faults (told.given + offset)) r)
    (sym c.not_opened.ensures)
    (unread asked name promised told offset (unopened fault) c.requires.limit
    (opening_answer asked.exercise asked.sheet files name (Rose told.faults told.faults) First c.args.head c.args.pieces fault
    tt c.requires.started c.in-Err-open.ensures.fault) (unopened_served fault))

pub returns-in-Err-open-clause-narrow : goal.returns-in-Err-open-clause-narrow
returns-in-Err-open-clause-narrow g c =
    rw c.not_opened.ensures (unopened_narrow c.args.ex.now c.args.sheet.now c.args.head c.in-Err-open.fault
    c.in-Err-open.ensures.fault)

pub judge_claims-requires-clause-opened : goal.judge_claims-requires-clause-opened
judge_claims-requires-clause-opened g c =
    let files = g.F.Shelf.files c.args.shelf.now in
    subst (λ (k : Checking Asked Opening (List (List Cell))). IsOpened (IsOpeningText k.asked.exercise) files c.args.name.now k.head c.behind.result)
    (sym c.in-Ok-open.ensures.opened)
    (subst (λ (r : Reading). IsOpened (IsOpeningText c.args.ex.now) files c.args.name.now (record { head = c.args.head; stated = Numbers None }) r)
    (sym c.behind.ensures)
    (first_opened c.args.ex.now files c.args.name.now c.args.head c.args.pieces c.requires.started))

pub judge_claims-requires-clause-fresh : goal.judge_claims-requires-clause-fresh
judge_claims-requires-clause-fresh g c =
    subst (λ (k : Checking Asked Opening (List (List Cell))). k ≡ opened_at k.asked k.head []) (sym c.in-Ok-open.ensures.opened) refl

pub returns-clause-judged : goal.returns-clause-judged
returns-clause-judged g c =
    let files = g.F.Shelf.files c.args.shelf.now in
    let name = c.args.name.now in
    let told = shelved files (g.F.Shelf.faults c.args.shelf.now) (g.F.Shelf.given c.args.shelf.now) in
    let promised = ServesWhole (g.F.Shelf.serves c.args.shelf.now) name 1073741824 in
    let asked : Asked = record { exercise = c.args.ex.now; sheet = c.args.sheet.now } in
    let opening : Opening = record { head = c.args.head; stated = Numbers None } in
    let after = c.judge_claims.new.shelf in
    let result = c.judge_claims.result in
    let since = λ (n : ℕ). shelved (g.F.Shelf.files after) (g.F.Shelf.faults after) (g.F.Shelf.given after + n) in
    behind_front asked name promised opening told (since c.args.pieces.offset) result
    (subst (λ (n : ℕ). AreClaimsJudged asked opening name promised told (since n) result)
    (ap (λ (r : Reading). r.offset) c.behind.ensures)
    (subst
    (λ (k : Checking Asked Opening (List (List Cell))).
    AreClaimsJudged k.asked k.head name promised told (since c.behind.result.offset) result)
    c.in-Ok-open.ensures.opened c.judge_claims.ensures))

pub returns-clause-narrow : goal.returns-clause-narrow
returns-clause-narrow g c =
    each_verdict (λ it. AreNarrow c.args.ex.now) c.judge_claims.result (λ it. c.in-Ok.ensures.narrow)
