use Rattle.std.proofs.Common.{◌≡◌, ◌+◌, [], Err, List, Result, length, map, refl, sym, ap, subst, ◌∙◌, arith}
use Rattle.std.specs.List.{AllByRecursion}
use Rattle.std.proofs.lemmas.List.{length-map}
use Rattle.std.proofs.lemmas.Result.{err_from_is_err_and}
use Rattle.cert_check.specs.Judged.{AreClaimsJudged, shelved}
use Rattle.cert_check.specs.Listed.{unwoven}
use Rattle.cert_check.specs.Settings.{Asked, IsOpeningText, Lists, Opening, setting_subject}
use Rattle.cert_check.specs.declared.checking.CheckFault.{CheckFault}
use Rattle.cert_check.proofs.AnswerLemmas.{unwoven_served}
use Rattle.cert_check.proofs.JudgedLemmas.{few_read, unread_fault, unread_memory}
use Rattle.cert_check.proofs.PricedLemmas.{are_for, few_stated, floors_stated, has_tails, is_case, unwoven_answer}
use Rattle.cert_file.specs.Checking.{Checking, opened_at}
use Rattle.cert_file.specs.Nearness.{ReadsNear}
use Rattle.cert_file.specs.Subjects.{IsOpened}
use Rattle.cert_file.specs.declared.verdict.Verdict.{Verdict}
use Rattle.cert_law.specs.Rests.{HasSmallWeights}
use Rattle.fux_grid.specs.declared.cell.Cell.{Cell}
use Rattle.floor_tables.specs.Tables.{AreNarrow, Task}
use Rattle.fux_grid.specs.declared.exercise.Exercise.{Exercise}
use Rattle.fux_grid.specs.Exercises.{IsValid}
use Rattle.fux_port.specs.Counts.{Rose}
use Rattle.fux_port.specs.Promises.{ServesWhole}
use Rattle.penalty_sheet.specs.declared.sheet.Sheet.{Sheet}
use Rattle.price_check.proofs.LargeLists.{told_large}
use Rattle.price_check.specs.declared.floors.ListFloor.{ListFloor}
use Rattle.price_check.specs.Floors.{AreFor, list_of}
use Rattle.price_check.specs.Sharps.{Sharp}
use Rattle.price_check.specs.Woven.{AreOf, list_priced}
use Rattle.price_check.specs.declared.stated.OwnList.{OwnList}
use Rattle.price_check.specs.Owned.{AreKeys, IsFit, list_owned}
use Rattle.price_check.specs.Stated.{AreDue, AreStated}
use Rattle.price_check.specs.Statements.{HasLargeStated}
use Rattle.priced_paths.specs.declared.states.WebFault.TheVariants.{TooLarge}
use Rattle.price_check.proofs.Fit.{lists_fit}
use Rattle.price_check.proofs.Keys.{lists_have_keys}
use Rattle.price_check.specs.PriceLines.{line_of}
use Rattle.cert_check.proofs.priced.judge_lists.Goals as goal

pub lists_stated-requires : goal.lists_stated-requires
lists_stated-requires g c =
    lists_have_keys c.args.space.now.exercise (map line_of c.args.lines.now) c.requires.lists

pub priced_lists-requires : goal.priced_lists-requires
priced_lists-requires g c =
    let lines = map line_of c.args.lines.now in
    let sheet = c.args.space.now.sheet in
    let small = subst HasSmallWeights c.sheet-sheet.ensures c.weights_are_small.ensures in
    let stated = subst (λ (s : Sheet). AreStated s lines (map list_owned c.in_ok-own.own.items)) c.sheet-sheet.ensures
    c.in_ok-own.ensures in
    subst (λ (os : List OwnList). AllByRecursion (IsFit sheet) (map list_owned os)) (sym c.deref.ensures.value)
    (lists_fit sheet lines (map list_owned c.in_ok-own.own.items) small
    (lists_have_keys c.args.space.now.exercise lines c.requires.lists) c.requires.front.due stated)

pub webs_of-requires : goal.webs_of-requires
webs_of-requires g c = record {
  task = c.args.space.now;
  all = subst (AreOf c.args.space.now) (sym c.deref-2.ensures.value) c.in_ok-lists.ensures.space;
}

pub returns-in_err-own : goal.returns-in_err-own
returns-in_err-own g c =
    unread_memory _ _ _ _ (shelved _ _ _) c.args.reader.offset (few_read _ _ c.reader.view_is c.reader.invariant.limit) c.from_residual.result c.from_residual.ensures.1

pub returns-in_err-lists : goal.returns-in_err-lists
returns-in_err-lists g c =
    unread_memory _ _ _ _ (shelved _ _ _) c.args.reader.offset (few_read _ _ c.reader.view_is c.reader.invariant.limit) c.from_residual-in_err-lists.result c.from_residual-in_err-lists.ensures.1

pub returns-in_err-webs : goal.returns-in_err-webs
returns-in_err-webs g c =
    let files = g.F.Shelf.files c.args.shelf.now in
    let name = c.args.name.now in
    let told = shelved files (g.F.Shelf.faults c.args.shelf.now) (g.F.Shelf.given c.args.shelf.now) in
    let promised = ServesWhole (g.F.Shelf.serves c.args.shelf.now) name 1073741824 in
    let ex = c.args.space.now.exercise in
    let sheet = c.args.space.now.sheet in
    let asked : Asked = record { exercise = ex; sheet = sheet } in
    let lines = map line_of c.args.lines.now in
    let opening : Opening = record { head = c.args.head.now; stated = Lists lines } in
    let offset = c.args.reader.offset in
    let rose = Rose told.faults told.faults in
    let fault = c.in_err-webs.field-0.0 in
    let wants = err_from_is_err_and c.from_residual-in_err-webs.result c.from_residual-in_err-webs.ensures.1 in
    let large : fault ≡ TooLarge → HasLargeStated ex sheet lines = λ is.
    told_large c.args.space.now lines c.in_ok-own.own.items c.in_ok-lists.lists.items c.deref-2.result.now
    c.deref-2.ensures.value
    (subst (λ (s : Sheet). AreStated s lines (map list_owned c.in_ok-own.own.items)) c.sheet-sheet.ensures
    c.in_ok-own.ensures)
    (c.in_ok-lists.ensures.lists ∙ ap (map list_owned) c.deref.ensures.value) c.in_ok-lists.ensures.space
    (c.webs_of.ensures.large (c.in_err-webs.was ∙ ap Err is)) in
    subst
    (λ (r : Result Verdict CheckFault).
    AreClaimsJudged asked opening name promised told (shelved told.files told.faults (told.given + offset)) r)
    (sym (wants.1 ∙ ap Err wants.2))
    (unread_fault asked name promised (ReadsNear (setting_subject asked) opening files name) told offset
    (few_read _ _ c.reader.view_is c.reader.invariant.limit) (unwoven fault)
    (unwoven_answer ex sheet files name rose c.args.head.now lines c.args.reader c.requires.opened fault c.requires.front
    large)
    (unwoven_served fault))

pub returns-in_err-numbers : goal.returns-in_err-numbers
returns-in_err-numbers g c =
    unread_memory _ _ _ _ (shelved _ _ _) c.args.reader.offset (few_read _ _ c.reader.view_is c.reader.invariant.limit) c.from_residual-in_err-numbers.result c.from_residual-in_err-numbers.ensures.1

pub returns-in_err-floors : goal.returns-in_err-floors
returns-in_err-floors g c =
    unread_memory _ _ _ _ (shelved _ _ _) c.args.reader.offset (few_read _ _ c.reader.view_is c.reader.invariant.limit) c.from_residual-in_err-floors.result c.from_residual-in_err-floors.ensures.1

pub returns-in_err-tables : goal.returns-in_err-tables
returns-in_err-tables g c =
    unread_memory _ _ _ _ (shelved _ _ _) c.args.reader.offset (few_read _ _ c.reader.view_is c.reader.invariant.limit) c.from_residual-in_err-tables.result c.from_residual-in_err-tables.ensures.1

pub returns-in_err-checker : goal.returns-in_err-checker
returns-in_err-checker g c =
    unread_memory _ _ _ _ (shelved _ _ _) c.args.reader.offset (few_read _ _ c.reader.view_is c.reader.invariant.limit) c.from_residual-in_err-checker.result c.from_residual-in_err-checker.ensures.1

pub list_numbers-requires : goal.list_numbers-requires
list_numbers-requires g c = (
  c.type_bounds.sync-R,
  rw (c.deref-3.ensures.value, c.deref-4.ensures.value) (rw c.deref-2.ensures.value at c.in_ok-webs.ensures.webs),
)

pub list_floors-requires-clause-webs : goal.list_floors-requires-clause-webs
list_floors-requires-clause-webs g c =
    rw (c.deref-5.ensures.value, c.deref-6.ensures.value) (rw c.deref-2.ensures.value at c.in_ok-webs.ensures.webs)

pub new-it-requires-clause-case : goal.new-it-requires-clause-case
new-it-requires-clause-case g c =
    is_case c.args.space.now c.exercise-exercise.result.now c.sheet-sheet.result.now c.args.head.now
    c.exercise-exercise.ensures.value c.sheet-sheet.ensures c.exercise-exercise.ensures.valid c.requires.front.sound

pub new-requires : goal.new-requires
new-requires g c =
    let there = c.exercise-exercise.ensures.value in
    record {
      valid = subst IsValid (sym there) c.exercise-exercise.ensures.valid;
      narrow = subst AreNarrow (sym there) c.tables.ensures.narrow;
      same = ap (λ (t : Task). t.exercise) c.tables.ensures.value ∙ sym there;
    }

pub new-it-requires-clause-tables : goal.new-it-requires-clause-tables
new-it-requires-clause-tables g c =
    has_tails c.args.space.now c.exercise-exercise.result.now c.sheet-sheet.result.now c.args.head.now
    c.exercise-exercise.ensures.value c.sheet-sheet.ensures c.in_ok-tables.tables
    (c.in_ok-tables.ensures ∙ c.tables.ensures.value) c.tables.ensures.narrow

pub new-it-requires-clause-few : goal.new-it-requires-clause-few
new-it-requires-clause-few g c =
    let lines = map line_of c.args.lines.now in
    let floors = c.in_ok-floors.floors.items in
    let stated = floors_stated c.sheet-sheet.result.now lines c.in_ok-own.own.items c.in_ok-lists.lists.items floors
    c.in_ok-own.ensures (c.in_ok-lists.ensures.lists ∙ ap (map list_owned) c.deref.ensures.value)
    (c.in_ok-floors.ensures.lists ∙ ap (map list_priced) c.deref-5.ensures.value) in
    omega (
      arith,
      few_stated c.args.space.now.exercise c.sheet-sheet.result.now lines (map list_of floors) c.requires.lists stated,
      length-map floors list_of,
      ap length c.deref-8.ensures.value,
    )

pub new-it-requires-clause-own : goal.new-it-requires-clause-own
new-it-requires-clause-own g c =
    let task = c.args.space.now in
    let ex = c.exercise-exercise.result.now in
    let sheet = c.sheet-sheet.result.now in
    let all = subst (AreOf task) (sym c.deref-5.ensures.value) c.in_ok-lists.ensures.space in
    subst (AreFor ex sheet) (sym c.deref-8.ensures.value)
    (are_for task ex sheet c.args.head.now c.exercise-exercise.ensures.value c.sheet-sheet.ensures
    c.in_ok-floors.floors.items (c.in_ok-floors.ensures.space task all))

pub new-it-requires-clause-stated : goal.new-it-requires-clause-stated
new-it-requires-clause-stated g c =
    let lines = map line_of c.args.lines.now in
    subst (λ (fs : List ListFloor). AreStated c.sheet-sheet.result.now lines (map list_of fs))
    (sym c.deref-8.ensures.value)
    (floors_stated c.sheet-sheet.result.now lines c.in_ok-own.own.items c.in_ok-lists.lists.items
    c.in_ok-floors.floors.items c.in_ok-own.ensures
    (c.in_ok-lists.ensures.lists ∙ ap (map list_owned) c.deref.ensures.value)
    (c.in_ok-floors.ensures.lists ∙ ap (map list_priced) c.deref-5.ensures.value))

pub open-requires-clause-keys : goal.open-requires-clause-keys
open-requires-clause-keys g c =
    subst (λ (s : Sharp). AllByRecursion AreKeys s.lines) (sym c.new-it.ensures)
    (lists_have_keys c.args.space.now.exercise (map line_of c.args.lines.now) c.requires.lists)

pub open-requires-clause-due : goal.open-requires-clause-due
open-requires-clause-due g c =
    subst (λ (s : Sharp). AreDue s.case.sheet s.lines) (sym c.new-it.ensures)
    (subst (λ (s : Sheet). AreDue s (map line_of c.args.lines.now)) (sym c.sheet-sheet.ensures) c.requires.front.due)

pub open-requires-clause-small : goal.open-requires-clause-small
open-requires-clause-small g c =
    subst (λ (s : Sharp). HasSmallWeights s.case.sheet) (sym c.new-it.ensures) c.weights_are_small.ensures

pub judge_claims-requires-clause-fresh : goal.judge_claims-requires-clause-fresh
judge_claims-requires-clause-fresh g c =
    subst (λ (k : Checking Asked Opening (List (List Cell))). k ≡ opened_at k.asked k.head [])
    (sym c.in_ok-checker.ensures) refl

pub judge_claims-requires-clause-opened : goal.judge_claims-requires-clause-opened
judge_claims-requires-clause-opened g c =
    let files = g.F.Shelf.files c.args.shelf.now in
    let name = c.args.name.now in
    let reader = c.args.reader in
    let lines = map line_of c.args.lines.now in
    subst (λ (k : Checking Asked Opening (List (List Cell))). IsOpened (IsOpeningText k.asked.exercise) files name k.head reader)
    (sym c.in_ok-checker.ensures)
    (subst (λ (s : Sharp). IsOpened (IsOpeningText s.case.exercise) files name (record { head = s.case.head; stated = Lists s.lines }) reader)
    (sym c.new-it.ensures)
    (subst (λ (e : Exercise). IsOpened (IsOpeningText e) files name (record { head = c.args.head.now; stated = Lists lines }) reader)
    (sym c.exercise-exercise.ensures.value) c.requires.opened))

pub returns : goal.returns
returns g c =
    let files = g.F.Shelf.files c.args.shelf.now in
    let name = c.args.name.now in
    let told = shelved files (g.F.Shelf.faults c.args.shelf.now) (g.F.Shelf.given c.args.shelf.now) in
    let promised = ServesWhole (g.F.Shelf.serves c.args.shelf.now) name 1073741824 in
    let ex = c.args.space.now.exercise in
    let sheet = c.args.space.now.sheet in
    let asked : Asked = record { exercise = ex; sheet = sheet } in
    let lines = map line_of c.args.lines.now in
    let opening : Opening = record { head = c.args.head.now; stated = Lists lines } in
    let offset = c.args.reader.offset in
    let after = shelved (g.F.Shelf.files c.judge_claims.new.shelf) (g.F.Shelf.faults c.judge_claims.new.shelf)
    (g.F.Shelf.given c.judge_claims.new.shelf + offset) in
    let result = c.judge_claims.result in
    subst
    (λ (e : Exercise). AreClaimsJudged (record { exercise = e; sheet = sheet }) opening name promised told after result)
    c.exercise-exercise.ensures.value
    (subst
    (λ (s : Sheet). AreClaimsJudged (record { exercise = c.exercise-exercise.result.now; sheet = s }) opening name promised told
    after result)
    c.sheet-sheet.ensures
    (subst
    (λ (s : Sharp). AreClaimsJudged (record { exercise = s.case.exercise; sheet = s.case.sheet })
    (record { head = s.case.head; stated = Lists s.lines }) name promised told after result)
    c.new-it.ensures
    (subst (λ (k : Checking Asked Opening (List (List Cell))). AreClaimsJudged k.asked k.head name promised told after result)
    c.in_ok-checker.ensures c.judge_claims.ensures)))
