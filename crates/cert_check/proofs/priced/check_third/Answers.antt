use Rattle.std.proofs.Common.{◌+◌, ◌∙◌, ℕ, ap, map, List, Result, sym, subst}
use Rattle.cert_check.specs.Answers.{unstarted}
use Rattle.cert_check.specs.Judged.{IsFileJudged, shelved}
use Rattle.cert_check.specs.Settings.{Asked, IsOpeningText, Lists}
use Rattle.cert_check.specs.Listed.{AreTaken}
use Rattle.cert_check.specs.declared.checking.CheckFault.{CheckFault}
use Rattle.cert_check.proofs.AnswerLemmas.{narrow_headless, unstarted_served}
use Rattle.cert_check.proofs.JudgedLemmas.{unread}
use Rattle.cert_check.proofs.PricedLemmas.{lists_opened, stop_answer, stop_headless}
use Rattle.cert_file.specs.Readings.{Reading}
use Rattle.cert_file.specs.Subjects.{IsOpened}
use Rattle.cert_file.specs.declared.fault.ReadFault.TheVariants.{Text}
use Rattle.cert_file.specs.declared.verdict.Verdict.{Verdict}
use Rattle.fux_port.specs.Counts.{Rose}
use Rattle.fux_port.specs.Promises.{ServesWhole}
use Rattle.price_check.specs.declared.line.PriceLine.{PriceLine}
use Rattle.price_check.specs.PriceLines.{line_of}
use Rattle.cert_check.proofs.priced.check_third.Goals as goal

pub returns-in-Err-clause-judged : goal.returns-in-Err-clause-judged
returns-in-Err-clause-judged g c =
    let files = g.F.Shelf.files c.args.shelf.now in
    let name = c.args.name.now in
    let told = shelved files (g.F.Shelf.faults c.args.shelf.now) (g.F.Shelf.given c.args.shelf.now) in
    let promised = ServesWhole (g.F.Shelf.serves c.args.shelf.now) name 1073741824 in
    let asked : Asked = record { exercise = c.args.ex.now; sheet = c.args.sheet.now } in
    let offset = c.args.pieces.offset in
    let fault = c.in-Err.fault in
    subst
    (λ (r : Result Verdict CheckFault). IsFileJudged asked name promised told (shelved told.files told.faults (told.given + offset)) r)
    (sym c.not_started.ensures)
    (unread asked name promised told offset (unstarted (Text fault)) c.requires.limit
    (stop_answer asked.exercise asked.sheet files name (Rose told.faults told.faults) c.args.head c.args.pieces fault
    c.requires.started c.in-Err.ensures.fault) (unstarted_served (Text fault) (λ e. cc)))

pub returns-in-Err-clause-wide : goal.returns-in-Err-clause-wide
returns-in-Err-clause-wide g c = λ wide.
    rw c.not_started.ensures (stop_headless c.args.ex.now c.args.pieces c.in-Err.fault c.in-Err.ensures.fault)

pub judge_priced-requires-clause-opened : goal.judge_priced-requires-clause-opened
judge_priced-requires-clause-opened g c = λ κs within.
    let files = g.F.Shelf.files c.args.shelf.now in
    let ex = c.args.ex.now in
    let lines = map line_of c.deref.result.now in
    let after = c.take_lists.new.pieces in
    let taken = subst (λ (ls : List PriceLine). AreTaken ex (map line_of ls) c.args.pieces after)
    (sym c.deref.ensures.value) c.in-Ok.ensures.taken in
    subst (λ (r : Reading). IsOpened (IsOpeningText ex) files c.args.name.now (record { head = c.args.head; stated = Lists lines }) r)
    (sym c.behind.ensures)
    (lists_opened ex files c.args.name.now c.args.head lines c.args.pieces after c.requires.started taken c.requires.limit)

pub returns-clause-judged : goal.returns-clause-judged
returns-clause-judged g c =
    let files = g.F.Shelf.files c.args.shelf.now in
    let name = c.args.name.now in
    let told = shelved files (g.F.Shelf.faults c.args.shelf.now) (g.F.Shelf.given c.args.shelf.now) in
    let promised = ServesWhole (g.F.Shelf.serves c.args.shelf.now) name 1073741824 in
    let asked : Asked = record { exercise = c.args.ex.now; sheet = c.args.sheet.now } in
    let after = c.judge_priced.new.shelf in
    let since = λ (n : ℕ). shelved (g.F.Shelf.files after) (g.F.Shelf.faults after) (g.F.Shelf.given after + n) in
    subst (λ (n : ℕ). IsFileJudged asked name promised told (since n) c.judge_priced.result)
    (ap (λ (r : Reading). r.offset) c.behind.ensures ∙ c.in-Ok.ensures.taken.offset) c.judge_priced.ensures.judged

pub returns-clause-wide : goal.returns-clause-wide
returns-clause-wide g c = narrow_headless c.args.ex.now c.judge_priced.result c.judge_priced.ensures.narrow
