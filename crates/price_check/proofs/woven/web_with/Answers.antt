use Rattle.std.proofs.Common.{length, refl, subst, sym, ◌∙◌}
use Rattle.std.proofs.lemmas.Option.{slice_get_read}
use Rattle.price_check.specs.declared.priced_list.PricedList.{PricedList}
use Rattle.price_check.specs.Woven.{IsLargeList, IsWebOf}
use Rattle.price_check.proofs.Webs.{large_list, large_moved, same_fault, web_moved}
use Rattle.price_check.proofs.woven.web_with.Goals as goal

pub returns-in_default-clause-web : goal.returns-in_default-clause-web
returns-in_default-clause-web c = c.first_with.ensures.none c.in_default.is

pub returns-in_default-clause-fits : goal.returns-in_default-clause-fits
returns-in_default-clause-fits c = λ j it there same large. c.first_with.ensures.none c.in_default.is j it there same

pub returns-in-Err-clause-large : goal.returns-in-Err-clause-large
returns-in-Err-clause-large c = λ same task of.
    let lists = c.args.lists.now in
    let own = c.index-lists-k.result in
    let here = slice_get_read lists (length lists) c.in-Some.k own refl c.in-Some.ensures.some c.index-lists-k.is in
    large_list task lists c.in-Some.k own of here
    (subst (λ (l : PricedList). IsLargeList l) (sym c.index-lists-k.is)
    (c.in-Err.ensures.large (same_fault c.in-Err.fault _ same)))

pub returns-in-Ok-clause-web : goal.returns-in-Ok-clause-web
returns-in-Ok-clause-web c = λ j it there same.
    let lists = c.args.lists.now in
    let own = c.index-lists-k.result in
    let here = slice_get_read lists (length lists) c.in-Some.k own refl c.in-Some.ensures.some c.index-lists-k.is in
    web_moved own it c.in-Ok.web
    (c.requires.all c.in-Some.k own here ∙ sym (c.requires.all j it there))
    (c.in-Some.ensures.there own here ∙ sym same)
    (subst (λ (l : PricedList). IsWebOf l.space c.in-Ok.web) (sym c.index-lists-k.is) c.in-Ok.ensures.web)

pub returns-in-Ok-clause-fits : goal.returns-in-Ok-clause-fits
returns-in-Ok-clause-fits c = λ j it there same large.
    let lists = c.args.lists.now in
    let own = c.index-lists-k.result in
    let here = slice_get_read lists (length lists) c.in-Some.k own refl c.in-Some.ensures.some c.index-lists-k.is in
    c.in-Ok.ensures.fits (subst (λ (l : PricedList). IsLargeList l) c.index-lists-k.is
    (large_moved it own (c.requires.all j it there ∙ sym (c.requires.all c.in-Some.k own here))
    (same ∙ sym (c.in-Some.ensures.there own here)) large))
