use Rattle.std.proofs.Common.{◌≡◌, ◌++◌, ◌∷◌, [], List, arith, length, map, take, ap, ap₂, subst, sym, ◌∙◌}
use Rattle.std.proofs.Common.{length-append}
use Rattle.std.proofs.lemmas.List.{map-append, take_all, take_more}
use Rattle.price_check.specs.declared.priced_list.PricedList.{PricedList}
use Rattle.price_check.specs.Woven.{AreOf, list_priced}
use Rattle.price_check.proofs.Pushed.{each_at, each_pushed}
use Rattle.price_check.specs.PriceLists.{PriceList}
use Rattle.price_check.specs.declared.stated.OwnList.{OwnList}
use Rattle.price_check.specs.Owned.{IsFit, list_owned}
use Rattle.price_check.proofs.woven.priced_lists.Goals as goal

pub priced_list-requires : goal.priced_list-requires
priced_list-requires c =
    each_at (IsFit c.args.space.now.sheet) list_owned c.args.own.now c.loop-k.k c.index-own-k.result c.requires (omega arith)
    c.index-own-k.is

pub loop-k-preserved : goal.loop-k-preserved
loop-k-preserved c =
    let before = c.loop-k.invariant in
    let its = c.in_ok-list.list in
    let own = c.index-own-k.result in
    let items = c.push_reserved.ensures.items in
    let task = c.args.space.now in
    record {
      lists = ap (map list_priced) items ∙ map-append list_priced c.loop-k.lists.items (its ∷ [])
          ∙ ap₂ (λ (ls : List PriceList) (l : PriceList). ls ++ l ∷ []) before.lists c.in_ok-list.ensures.list
          ∙ sym (map-append list_owned (take c.loop-k.k c.args.own.now) (own ∷ []))
          ∙ ap (λ (o : OwnList). map list_owned (take c.loop-k.k c.args.own.now ++ o ∷ [])) c.index-own-k.is
          ∙ ap (map list_owned) (sym (take_more c.args.own.now c.loop-k.k own (omega arith)));
      space =
          subst (AreOf task) (sym items)
          (λ j it e. each_pushed (λ n (l : PricedList). l.space.space.now ≡ task) c.loop-k.lists.items its before.space
          c.in_ok-list.ensures.space j it e);
      room = omega (arith, before.room, c.push_reserved.ensures.capacity);
      count = omega (arith, ap length items, length-append c.loop-k.lists.items (its ∷ []), before.count);
    }

pub returns-clause-lists : goal.returns-clause-lists
returns-clause-lists c =
    c.loop-k.invariant.lists ∙ ap (map list_owned) (take_all c.loop-k.k c.args.own.now (omega arith))
