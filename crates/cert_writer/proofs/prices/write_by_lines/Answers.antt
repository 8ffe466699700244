use Rattle.std.proofs.Common.{◌≡◌, ◌++◌, ℕ, List, Err, length, map, ap, sym, ◌∙◌, subst, arith}
use Rattle.std.specs.List.{AllByRecursion}
use Rattle.std.proofs.lemmas.List.{length-map}
use Rattle.std.proofs.lemmas.Result.{err_from_is_err_and}
use Rattle.cert_law.proofs.PrefixTruths.{sound}
use Rattle.floor_tables.specs.Tables.{AreNarrow, Task}
use Rattle.fux_grid.specs.declared.exercise.Exercise.{Exercise}
use Rattle.fux_grid.specs.Exercises.{IsValid}
use Rattle.cert_writer.specs.Stating.{FitBehind}
use Rattle.penalty_sheet.specs.declared.sheet.Sheet.{Sheet}
use Rattle.price_check.proofs.LargeLists.{none_large, told_large}
use Rattle.price_check.specs.declared.floors.ListFloor.{ListFloor}
use Rattle.price_check.specs.declared.priced_list.PricedList.{PricedList}
use Rattle.price_check.specs.Floors.{AreFor, list_of}
use Rattle.price_check.specs.Woven.{AreOf, list_priced}
use Rattle.price_check.specs.declared.stated.OwnList.{OwnList}
use Rattle.price_check.specs.Owned.{IsFit, list_owned}
use Rattle.price_check.specs.Lists.{lists_text}
use Rattle.price_check.specs.PriceLines.{line_of}
use Rattle.cert_writer.proofs.Lent.{floors_stated, large_web, same_numbers, same_webs}
use Rattle.cert_writer.proofs.WrittenLines.{eight_lists}
use Rattle.cert_writer.proofs.prices.write_by_lines.Goals as goal

pub lists_stated-requires : goal.lists_stated-requires
lists_stated-requires g c =
    c.lists_are_fit.ensures.keys c.args.space.now.exercise (map line_of c.args.lines.now) c.requires.fit.stated.lists

pub priced_lists-requires : goal.priced_lists-requires
priced_lists-requires g c =
    let sheet = c.args.space.now.sheet in
    let lines = map line_of c.args.lines.now in
    let lists = map list_owned c.in_ok-own.own.items in
    subst (λ (os : List OwnList). AllByRecursion (IsFit sheet) (map list_owned os)) (sym c.deref.ensures.value)
    (c.lists_are_fit.ensures.fit sheet lines lists (rw c.sheet-sheet.ensures at c.weights_are_small.ensures)
    (c.lists_are_fit.ensures.keys c.args.space.now.exercise lines c.requires.fit.stated.lists) c.requires.fit.stated.due
    (rw c.sheet-sheet.ensures at c.in_ok-own.ensures))

pub webs_of-requires : goal.webs_of-requires
webs_of-requires g c = record {
  task = c.args.space.now;
  all = subst (λ (ls : List PricedList). AreOf c.args.space.now ls) (sym c.deref-2.ensures.value)
      c.in_ok-priced.ensures.space;
}

pub returns-in_err-webs-clause-large : goal.returns-in_err-webs-clause-large
returns-in_err-webs-clause-large g c = λ is.
    let space = c.args.space.now in
    let told = err_from_is_err_and c.from_residual-in_err-webs.result c.from_residual-in_err-webs.ensures.1 in
    told_large space (map line_of c.args.lines.now) c.in_ok-own.own.items c.in_ok-priced.priced.items c.deref-2.result.now
    c.deref-2.ensures.value (rw c.sheet-sheet.ensures at c.in_ok-own.ensures)
    (c.in_ok-priced.ensures.lists ∙ ap (map list_owned) c.deref.ensures.value) c.in_ok-priced.ensures.space
    (c.webs_of.ensures.large (large_web c.webs_of.result c.in_err-webs.field-0.0 c.from_residual-in_err-webs.result c.in_err-webs.was is
    (told.1 ∙ ap Err told.2)))

pub list_numbers-requires : goal.list_numbers-requires
list_numbers-requires g c = (
  c.type_bounds.sync-R,
  same_webs c.deref-2.result.now c.deref-3.result.now c.in_ok-webs.webs.items c.deref-4.result.now
      (c.deref-2.ensures.value ∙ sym c.deref-3.ensures.value) (sym c.deref-4.ensures.value) c.in_ok-webs.ensures.webs,
)

pub list_floors-requires-clause-webs : goal.list_floors-requires-clause-webs
list_floors-requires-clause-webs g c =
    same_webs c.deref-2.result.now c.deref-5.result.now c.in_ok-webs.webs.items c.deref-6.result.now
    (c.deref-2.ensures.value ∙ sym c.deref-5.ensures.value) (sym c.deref-6.ensures.value) c.in_ok-webs.ensures.webs

pub list_floors-requires-clause-numbers : goal.list_floors-requires-clause-numbers
list_floors-requires-clause-numbers g c =
    same_numbers c.deref-3.result.now c.deref-5.result.now c.deref-4.result.now c.deref-6.result.now
    c.in_ok-numbers.numbers.items c.deref-7.result.now (c.deref-3.ensures.value ∙ sym c.deref-5.ensures.value)
    (c.deref-4.ensures.value ∙ sym c.deref-6.ensures.value) (sym c.deref-7.ensures.value) c.in_ok-numbers.ensures

pub new-case-requires-clause-case : goal.new-case-requires-clause-case
new-case-requires-clause-case g c =
    rw (c.exercise-exercise.ensures.value, c.sheet-sheet.ensures) record {
      valid = c.exercise-exercise.ensures.valid;
      sound = sound c.args.space.now.exercise c.args.space.now.sheet c.args.head.now c.requires.holds;
    }

pub new-requires : goal.new-requires
new-requires g c =
    let there = c.exercise-exercise.ensures.value in
    record {
      valid = subst IsValid (sym there) c.exercise-exercise.ensures.valid;
      narrow = subst AreNarrow (sym there) c.tables.ensures.narrow;
      same = ap (λ (t : Task). t.exercise) c.tables.ensures.value ∙ sym there;
    }

pub new-case-requires-clause-tables : goal.new-case-requires-clause-tables
new-case-requires-clause-tables g c =
    let are = c.in_ok-tables.ensures ∙ c.tables.ensures.value in
    record {
      exercise = ap (λ (t : Task). t.exercise) are ∙ sym c.exercise-exercise.ensures.value;
      sheet = ap (λ (t : Task). t.sheet) are ∙ sym c.sheet-sheet.ensures;
      narrow = subst AreNarrow (sym c.exercise-exercise.ensures.value) c.tables.ensures.narrow;
    }

pub new-case-requires-clause-few : goal.new-case-requires-clause-few
new-case-requires-clause-few g c =
    let floors = c.deref-8.result.now in
    let stated = floors_stated c.sheet-sheet.result.now (map line_of c.args.lines.now) c.in_ok-own.own.items
    c.in_ok-priced.priced.items c.in_ok-floors.floors.items floors c.in_ok-own.ensures
    (c.in_ok-priced.ensures.lists ∙ ap (map list_owned) c.deref.ensures.value)
    (c.in_ok-floors.ensures.lists ∙ ap (map list_priced) c.deref-5.ensures.value) c.deref-8.ensures.value in
    let eight = eight_lists c.args.space.now.exercise c.sheet-sheet.result.now (map line_of c.args.lines.now)
    (map list_of floors) c.requires.fit.stated.lists stated in
    let size : length (map list_of floors) ≡ length floors = length-map floors list_of in
    omega (arith, eight, size)

pub new-case-requires-clause-own : goal.new-case-requires-clause-own
new-case-requires-clause-own g c =
    let space = c.args.space.now in
    let floors = c.in_ok-floors.floors.items in
    let all = subst (λ (ls : List PricedList). AreOf space ls) (sym c.deref-5.ensures.value)
    c.in_ok-priced.ensures.space in
    subst (λ (fs : List ListFloor). AreFor c.exercise-exercise.result.now c.sheet-sheet.result.now fs)
    (sym c.deref-8.ensures.value)
    (subst (λ (e : Exercise). AreFor e c.sheet-sheet.result.now floors) (sym c.exercise-exercise.ensures.value)
    (subst (λ (s : Sheet). AreFor space.exercise s floors) (sym c.sheet-sheet.ensures)
    (c.in_ok-floors.ensures.space space all)))

pub new-case-requires-clause-stated : goal.new-case-requires-clause-stated
new-case-requires-clause-stated g c =
    floors_stated c.sheet-sheet.result.now (map line_of c.args.lines.now) c.in_ok-own.own.items
    c.in_ok-priced.priced.items c.in_ok-floors.floors.items c.deref-8.result.now c.in_ok-own.ensures
    (c.in_ok-priced.ensures.lists ∙ ap (map list_owned) c.deref.ensures.value)
    (c.in_ok-floors.ensures.lists ∙ ap (map list_priced) c.deref-5.ensures.value) c.deref-8.ensures.value

pub write_priced-requires-clause-unmixed : goal.write_priced-requires-clause-unmixed
write_priced-requires-clause-unmixed g c =
    rw (c.new-case.ensures, c.exercise-exercise.ensures.value) c.requires.unmixed

pub write_priced-requires-clause-holds : goal.write_priced-requires-clause-holds
write_priced-requires-clause-holds g c =
    rw (c.new-case.ensures, c.exercise-exercise.ensures.value, c.sheet-sheet.ensures) c.requires.holds

pub write_priced-requires-clause-fit : goal.write_priced-requires-clause-fit
write_priced-requires-clause-fit g c =
    let space = c.args.space.now in
    rw (c.new-case.ensures, c.exercise-exercise.ensures.value, c.sheet-sheet.ensures)
    (subst (λ (bs : List ℕ). FitBehind space.exercise space.sheet bs (map line_of c.args.lines.now)) c.requires.front
    c.requires.fit)

pub write_priced-requires-clause-small : goal.write_priced-requires-clause-small
write_priced-requires-clause-small g c =
    rw (c.new-case.ensures, c.exercise-exercise.ensures.value, c.sheet-sheet.ensures)
    (none_large c.args.space.now (map line_of c.args.lines.now) c.in_ok-own.own.items c.in_ok-priced.priced.items
    c.deref-2.result.now c.deref-2.ensures.value (rw c.sheet-sheet.ensures at c.in_ok-own.ensures)
    (c.in_ok-priced.ensures.lists ∙ ap (map list_owned) c.deref.ensures.value) c.in_ok-priced.ensures.space
    c.in_ok-webs.ensures.fits)

pub write_priced-requires-clause-text : goal.write_priced-requires-clause-text
write_priced-requires-clause-text g c =
    rw (c.new-case.ensures, c.exercise-exercise.ensures.value)
    (c.as_str.ensures.value ∙ c.in_ok-text.ensures
    ∙ ap (λ bs. bs ++ lists_text (map line_of c.args.lines.now)) c.requires.front)

pub returns-clause-ok : goal.returns-clause-ok
returns-clause-ok g c =
    rw (c.new-case.ensures, c.exercise-exercise.ensures.value, c.sheet-sheet.ensures) at c.write_priced.ensures.ok

pub returns-clause-cut : goal.returns-clause-cut
returns-clause-cut g c =
    rw (c.new-case.ensures, c.exercise-exercise.ensures.value, c.sheet-sheet.ensures) at c.write_priced.ensures.cut

pub returns-clause-too_long : goal.returns-clause-too_long
returns-clause-too_long g c =
    rw (c.new-case.ensures, c.exercise-exercise.ensures.value, c.sheet-sheet.ensures) at c.write_priced.ensures.too_long

pub returns-clause-large : goal.returns-clause-large
returns-clause-large g c = λ is. absurd (c.write_priced.ensures.woven is)

pub returns-clause-untouched : goal.returns-clause-untouched
returns-clause-untouched g c = λ is. absurd (c.write_priced.ensures.woven is)
