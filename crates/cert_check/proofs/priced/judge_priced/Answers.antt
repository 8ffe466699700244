use Rattle.std.proofs.Common.{◌+◌, Ok, Result, map, sym, subst}
use Rattle.cert_check.specs.Answers.{unfilled}
use Rattle.cert_check.specs.Judged.{AreClaimsJudged, IsFileJudged, shelved}
use Rattle.cert_check.specs.Settings.{Asked, Lists, Opening}
use Rattle.cert_check.specs.declared.checking.CheckFault.{CheckFault}
use Rattle.cert_check.proofs.AnswerLemmas.{unfilled_answer, unfilled_narrow, unfilled_served}
use Rattle.cert_check.proofs.JudgedLemmas.{behind_front, unread}
use Rattle.cert_check.proofs.PricedLemmas.{front_answer}
use Rattle.cert_file.specs.declared.verdict.Verdict.{Verdict}
use Rattle.cert_file.specs.declared.verdict.Verdict.TheVariants as verdict
use Rattle.fux_port.specs.Counts.{Rose}
use Rattle.fux_port.specs.Promises.{ServesWhole}
use Rattle.price_check.specs.PriceLines.{line_of}
use Rattle.cert_file.proofs.NearLemmas.{each_verdict}
use Rattle.floor_tables.specs.Tables.{AreNarrow, Task}
use Rattle.cert_check.proofs.priced.judge_priced.Goals as goal

pub returns-in-Err-clause-judged : goal.returns-in-Err-clause-judged
returns-in-Err-clause-judged g c =
    let files = g.F.Shelf.files c.args.shelf.now in
    let name = c.args.name.now in
    let told = shelved files (g.F.Shelf.faults c.args.shelf.now) (g.F.Shelf.given c.args.shelf.now) in
    let promised = ServesWhole (g.F.Shelf.serves c.args.shelf.now) name 1073741824 in
    let asked : Asked = record { exercise = c.args.ex.now; sheet = c.args.sheet.now } in
    let offset = c.args.reader.offset in
    let fault = c.in-Err.fault in
    subst
    (λ (r : Result Verdict CheckFault). IsFileJudged asked name promised told (shelved told.files told.faults (told.given + offset)) r)
    (sym c.not_filled.ensures)
    (unread asked name promised told offset (unfilled fault) c.requires.limit
    (unfilled_answer asked.exercise asked.sheet files name (Rose told.faults told.faults) fault c.in-Err.ensures.wide)
    (unfilled_served fault))

pub returns-in-Err-clause-narrow : goal.returns-in-Err-clause-narrow
returns-in-Err-clause-narrow g c = rw c.not_filled.ensures (unfilled_narrow c.args.ex.now c.in-Err.fault)

pub returns-in-Some-clause-judged : goal.returns-in-Some-clause-judged
returns-in-Some-clause-judged g c =
    let files = g.F.Shelf.files c.args.shelf.now in
    let name = c.args.name.now in
    let told = shelved files (g.F.Shelf.faults c.args.shelf.now) (g.F.Shelf.given c.args.shelf.now) in
    let promised = ServesWhole (g.F.Shelf.serves c.args.shelf.now) name 1073741824 in
    let asked : Asked = record { exercise = c.args.ex.now; sheet = c.args.sheet.now } in
    let refused = c.in-Some.refused in
    unread asked name promised told c.args.reader.offset (Ok (verdict.Claim refused)) c.requires.limit
    (front_answer asked.exercise asked.sheet files name (Rose told.faults told.faults) c.args.head.now
    (map line_of c.args.lines.now) c.args.reader c.requires.opened refused c.in-Some.ensures) tt

pub returns-clause-judged : goal.returns-clause-judged
returns-clause-judged g c =
    let files = g.F.Shelf.files c.args.shelf.now in
    let name = c.args.name.now in
    let told = shelved files (g.F.Shelf.faults c.args.shelf.now) (g.F.Shelf.given c.args.shelf.now) in
    let promised = ServesWhole (g.F.Shelf.serves c.args.shelf.now) name 1073741824 in
    let asked : Asked = record { exercise = c.args.ex.now; sheet = c.args.sheet.now } in
    let opening : Opening = record { head = c.args.head.now; stated = Lists (map line_of c.args.lines.now) } in
    let lists = c.judge_lists.new.shelf in
    let after = shelved (g.F.Shelf.files lists) (g.F.Shelf.faults lists) (g.F.Shelf.given lists + c.args.reader.offset) in
    let result = c.judge_lists.result in
    behind_front asked name promised opening told after result
    (subst
    (λ (t : Task).
    AreClaimsJudged (record { exercise = t.exercise; sheet = t.sheet }) opening name promised told after result)
    c.in-Ok.ensures.made c.judge_lists.ensures)

pub returns-in-Some-clause-narrow : goal.returns-in-Some-clause-narrow
returns-in-Some-clause-narrow g c = c.in-Ok.ensures.narrow

pub returns-clause-narrow : goal.returns-clause-narrow
returns-clause-narrow g c =
    each_verdict (λ it. AreNarrow c.args.ex.now) c.judge_lists.result (λ it. c.in-Ok.ensures.narrow)
