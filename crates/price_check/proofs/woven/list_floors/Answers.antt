use Rattle.std.proofs.Common.{◌≡◌, ◌++◌, ◌∷◌, [], List, arith, length, map, take, refl, ap, ap₂, subst, sym, ◌∙◌}
use Rattle.std.proofs.Common.{length-append}
use Rattle.std.proofs.lemmas.List.{map-append, take_all, take_more}
use Rattle.std.proofs.lemmas.Option.{slice_get_read}
use Rattle.floor_tables.specs.Tables.{Task}
use Rattle.price_check.specs.declared.floors.ListFloor.{ListFloor}
use Rattle.price_check.specs.declared.priced_list.PricedList.{PricedList}
use Rattle.price_check.specs.Floors.{AreFor, exercise_of, list_of, sheet_of}
use Rattle.price_check.specs.Woven.{list_priced}
use Rattle.price_check.proofs.Pushed.{each_pushed}
use Rattle.price_check.specs.PriceLists.{PriceList}
use Rattle.price_check.proofs.woven.list_floors.Goals as goal

pub bounds-numbers-j : goal.bounds-numbers-j
bounds-numbers-j c = omega (arith, c.requires.numbers.whole, c.loop-j-test.true)

pub floor_of-requires-clause-web : goal.floor_of-requires-clause-web
floor_of-requires-clause-web c =
    c.requires.webs c.loop-j.j c.index-lists-j.result
    (slice_get_read c.args.lists.now (length c.args.lists.now) c.loop-j.j c.index-lists-j.result refl (omega arith)
    c.index-lists-j.is)

pub floor_of-requires-clause-numbers : goal.floor_of-requires-clause-numbers
floor_of-requires-clause-numbers c =
    let lists = c.args.lists.now in
    let all = c.args.numbers.now in
    let j = c.loop-j.j in
    let there = slice_get_read lists (length lists) j c.index-lists-j.result refl (omega arith) c.index-lists-j.is in
    let here = slice_get_read all (length all) j c.index-numbers-j.result refl
    (omega (arith, c.requires.numbers.whole, c.loop-j-test.true)) c.index-numbers-j.is in
    rw c.as_slice-own.ensures.value (c.requires.numbers.each j c.index-lists-j.result c.index-numbers-j.result there here)

pub loop-j-preserved : goal.loop-j-preserved
loop-j-preserved c =
    let before = c.loop-j.invariant in
    let lists = c.args.lists.now in
    let own = c.index-lists-j.result in
    let its = c.floor_of.result in
    let old = c.loop-j.floors.items in
    let items = c.push_reserved.ensures.items in
    let there = slice_get_read lists (length lists) c.loop-j.j own refl (omega arith) c.index-lists-j.is in
    record {
      lists = ap (map list_of) items ∙ map-append list_of old (its ∷ [])
          ∙ ap₂ (λ (ls : List PriceList) (l : PriceList). ls ++ l ∷ []) before.lists c.floor_of.ensures.list
          ∙ sym (map-append list_priced (take c.loop-j.j lists) (own ∷ []))
          ∙ ap (λ (o : PricedList). map list_priced (take c.loop-j.j lists ++ o ∷ [])) c.index-lists-j.is
          ∙ ap (map list_priced) (sym (take_more lists c.loop-j.j own (omega arith)));
      space = λ task all.
          subst (AreFor task.exercise task.sheet) (sym items)
          (λ j it e. each_pushed
          (λ n (f : ListFloor). (exercise_of f ≡ task.exercise) × (sheet_of f ≡ task.sheet)) old its (before.space task all)
          (let same = c.floor_of.ensures.space ∙ all c.loop-j.j own there in
          (ap (λ (t : Task). t.exercise) same, ap (λ (t : Task). t.sheet) same)) j it e);
      count = omega (arith, ap length items, length-append old (its ∷ []), before.count);
      room = omega (arith, before.room, c.push_reserved.ensures.capacity);
    }

pub returns-clause-lists : goal.returns-clause-lists
returns-clause-lists c =
    c.loop-j.invariant.lists ∙ ap (map list_priced) (take_all c.loop-j.j c.args.lists.now (omega arith))
