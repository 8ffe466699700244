use Rattle.std.proofs.Common.{◌≡◌, ◌+◌, ◌++◌, ◌∷◌, [], List, arith, append_assoc, append-nil, map, ap, subst, sym, ◌∙◌}
use Rattle.std.proofs.lemmas.List.{map-append}
use Rattle.price_check.specs.declared.stated.OwnList.{OwnList}
use Rattle.price_check.specs.PriceLines.{line_of}
use Rattle.price_check.specs.PriceLists.{PriceList}
use Rattle.price_check.specs.Owned.{list_owned}
use Rattle.price_check.specs.Stated.{AreEachStated, lists_of}
use Rattle.price_check.proofs.Told.{keys_from, list_later, list_next, none_left}
use Rattle.price_check.proofs.stated.lists_stated.Goals as goal

pub list_of-requires : goal.list_of-requires
list_of-requires c = keys_from c.args.lines.now (c.loop-k.k + 1) c.requires

pub loop-k-init : goal.loop-k-init
loop-k-init c = λ more are.
    subst (λ (ls : List OwnList). AreEachStated c.args.sheet.now (lists_of (map line_of c.args.lines.now))
    (map list_owned ls ++ more)) (sym c.new-lists.ensures.items) are

pub loop-k-preserved : goal.loop-k-preserved
loop-k-preserved c = λ more are.
    let its = c.in_ok-list.list in
    let old = c.loop-k.lists.items in
    let all : map list_owned old ++ list_owned its ∷ more ≡ map list_owned c.push.new.self.items ++ more =
    sym (ap (λ (ls : List OwnList). map list_owned ls ++ more) c.in_ok-push.ensures.items
    ∙ ap (λ (ls : List PriceList). ls ++ more) (map-append list_owned old (its ∷ []))
    ∙ append_assoc (map list_owned old) (list_owned its ∷ []) more) in
    subst (λ (ls : List PriceList). AreEachStated c.args.sheet.now (lists_of (map line_of c.args.lines.now)) ls) all
    (c.loop-k.invariant (list_owned its ∷ more)
    (list_next c.args.sheet.now c.args.lines.now c.loop-k.k c.index-lines-k.result c.in-Keeps.turns c.in-Keeps.runs
    (list_owned its) more (omega arith) c.index-lines-k.is c.in-Keeps.is c.in_ok-list.ensures are))

pub loop-k-preserved-in_default : goal.loop-k-preserved-in_default
loop-k-preserved-in_default c = λ more are.
    c.loop-k.invariant more
    (list_later c.args.sheet.now c.args.lines.now c.loop-k.k c.index-lines-k.result more (omega arith) c.index-lines-k.is
    c.in_default.not-Keeps are)

pub returns : goal.returns
returns c =
    subst (λ (ls : List PriceList). AreEachStated c.args.sheet.now (lists_of (map line_of c.args.lines.now)) ls)
    (append-nil (map list_owned c.loop-k.lists.items))
    (c.loop-k.invariant [] (none_left c.args.sheet.now c.args.lines.now c.loop-k.k (omega arith)))
