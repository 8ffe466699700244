use Rattle.std.proofs.Common.{◌≡◌, ◌∙◌, ℕ, List, [], Option, Some, None, true, false, get_or, sym, ap, subst}
use Rattle.fux_grid.specs.declared.cell.Cell.{Cell}
use Rattle.fux_grid.specs.Columns.{ColumnFollows}
use Rattle.chain_sums.specs.Moves.{moves_sum}
use Rattle.chain_sums.specs.Sums as sums
use Rattle.chain_sums.proofs.ChoiceLemmas.{barred, found, passed_over, strays}
use Rattle.chain_sums.proofs.choices.Choices.lesser_with.Goals as goal

pub returns-in_default-clause-value : goal.returns-in_default-clause-value
returns-in_default-clause-value g c =
    let chains = g.L.Links.chains c.args.links.now in
    let moves = g.L.Links.moves c.args.links.now c.args.i in
    let d : List Cell = get_or (chains.menu c.args.i) c.args.candidate.now.number [] in
    let same : c.column-next.result.now.items ≡ d = c.column-next.ensures
    ∙ ap (λ xs. get_or xs c.args.candidate.now.number []) c.requires.choices.menu in
    barred chains c.args.i (g.L.Links.own c.args.links.now c.args.i) moves
    (g.L.Links.least_moves c.args.links.now c.args.i) c.args.prev.now.items d
    (get_or c.args.self.now.sums.now c.args.candidate.now.number None) c.args.least c.args.candidate.now.own
    c.requires.known
    (subst (λ (e : List Cell). moves_sum moves c.args.prev.now.items e ≡ None) same
    (sym c.sum.ensures.value ∙ c.in_default.is))

pub returns-then-is_no_less-clause-value : goal.returns-then-is_no_less-clause-value
returns-then-is_no_less-clause-value g c =
    let chains = g.L.Links.chains c.args.links.now in
    let moves = g.L.Links.moves c.args.links.now c.args.i in
    let d : List Cell = get_or (chains.menu c.args.i) c.args.candidate.now.number [] in
    let same : c.column-next.result.now.items ≡ d = c.column-next.ensures
    ∙ ap (λ xs. get_or xs c.args.candidate.now.number []) c.requires.choices.menu in
    passed_over chains c.args.i (g.L.Links.own c.args.links.now c.args.i) moves
    (g.L.Links.least_moves c.args.links.now c.args.i) c.args.prev.now.items d
    (get_or c.args.self.now.sums.now c.args.candidate.now.number None) c.args.least c.args.candidate.now.own
    c.requires.known c.in-Some.moved
    (subst (λ (e : List Cell). moves_sum moves c.args.prev.now.items e ≡ Some c.in-Some.moved) same
    (sym c.sum.ensures.value ∙ c.in-Some.is)) c.if-is_no_less.ensures

pub returns-then-not-may_follow-clause-value : goal.returns-then-not-may_follow-clause-value
returns-then-not-may_follow-clause-value g c =
    let chains = g.L.Links.chains c.args.links.now in
    let d : List Cell = get_or (chains.menu c.args.i) c.args.candidate.now.number [] in
    let same : c.column-next.result.now.items ≡ d = c.column-next.ensures
    ∙ ap (λ xs. get_or xs c.args.candidate.now.number []) c.requires.choices.menu in
    strays chains c.args.i (Some c.args.prev.now.items) d
    (get_or c.args.self.now.sums.now c.args.candidate.now.number None) c.args.least
    (λ follows. let both : c.may_follow.result ≡ true = c.may_follow.ensures.1
    (subst (λ (e : List Cell). ColumnFollows c.args.prev.now.items e) (sym same) follows) in
    let never : true ≡ false = sym both ∙ c.if-not-may_follow.true in cc)

pub returns-clause-value : goal.returns-clause-value
returns-clause-value g c =
    let chains = g.L.Links.chains c.args.links.now in
    let d : List Cell = get_or (chains.menu c.args.i) c.args.candidate.now.number [] in
    let same : c.column-next.result.now.items ≡ d = c.column-next.ensures
    ∙ ap (λ xs. get_or xs c.args.candidate.now.number []) c.requires.choices.menu in
    let rest : Option ℕ = get_or c.args.self.now.sums.now c.args.candidate.now.number None in
    let follows : ColumnFollows c.args.prev.now.items d =
    subst (λ (e : List Cell). ColumnFollows c.args.prev.now.items e) same (c.may_follow.ensures.0
    c.if-not-may_follow.false) in
    c.lesser.ensures.value ∙ ap (sums.lesser c.args.least) (c.plus.ensures.value
    ∙ found chains c.args.i (Some c.args.prev.now.items) d rest c.cost_from-cost.result follows
    (c.cost_from-cost.ensures.value ∙ ap (chains.cost c.args.i (Some c.args.prev.now.items)) same))
