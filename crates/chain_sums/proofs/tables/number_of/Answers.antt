use Rattle.std.proofs.Common.{List, ap, length, get_or, subst, arith, ◌∙◌}
use Rattle.chain_sums.specs.declared.menu.Menu.{Menu}
use Rattle.chain_sums.specs.Menus.{HaveSameColumns}
use Rattle.chain_sums.proofs.TableLemmas.{number_of_last, number_of_other}
use Rattle.chain_sums.proofs.tables.number_of.Goals as goal

pub returns-in-Some : goal.returns-in-Some
returns-in-Some c =
    let menus = c.args.menus.now.items in
    let menu = c.args.menu in
    number_of_other menus menu c.in-Some.number
    (omega (arith, c.in-Some.ensures.within, ap length c.deref.ensures.value))
    (subst (λ (kept : List Menu). HaveSameColumns (get_or kept c.in-Some.number menu) menu) c.deref.ensures.value
    c.in-Some.ensures.same)

pub returns : goal.returns
returns c =
    rw c.in_ok-push.ensures.items
    (number_of_last c.args.menus.now.items c.args.menu c.len-number.result
    (c.len-number.ensures ∙ c.args.menus.now.ok.0))
