use Rattle.std.proofs.Common.{◌≡◌, false, get_or, sym, ap, ◌∙◌, arith}
use Rattle.std.proofs.lemmas.List.{get_or_read}
use Rattle.fux_grid.specs.declared.given.Given.TheVariants.{Blank}
use Rattle.fux_text.specs.GivenItems.{given_goes_on}
use Rattle.fux_text.proofs.ItemLemmas.{items-broken}
use Rattle.fux_text.proofs.items.first_length.Goals as goal

pub returns-else-goes_on-clause-items : goal.returns-else-goes_on-clause-items
returns-else-goes_on-clause-items c =
    let cells = c.args.cells.now in
    let count = c.loop-count.count in
    let first : c.index-cells-0.result ≡ get_or cells 0 Blank = get_or_read cells 0 c.index-cells-0.result (omega arith)
    c.index-cells-0.is Blank in
    let next : c.index-cells-count.result ≡ get_or cells count Blank = get_or_read cells count c.index-cells-count.result
    (omega arith) c.index-cells-count.is Blank in
    let broken : given_goes_on (get_or cells 0 Blank) (get_or cells count Blank) ≡ false =
    ap (λ x. given_goes_on x (get_or cells count Blank)) (sym first) ∙ ap (given_goes_on c.index-cells-0.result) (sym next)
    ∙ sym c.goes_on.ensures ∙ c.if-goes_on.false in
    c.loop-count.invariant.2 ∙ items-broken given_goes_on cells count (get_or cells 0 Blank) Blank (omega arith) broken
