use Rattle.std.proofs.Common.{◌∙◌, sym}
use Rattle.std.proofs.lemmas.List.{get_or_default}
use Rattle.fux_grid.specs.declared.cell.Cell.TheVariants.{Rest}
use Rattle.chain_sums.proofs.CellTests.{cells-Decides}
use Rattle.chain_sums.proofs.moves.number_in.Goals as goal

pub returns-then-eq-clause-number : goal.returns-then-eq-clause-number
returns-then-eq-clause-number c = λ within.
    get_or_default c.args.cells.now c.loop-k.k Rest c.index-cells-k.result within ∙ sym c.index-cells-k.is
    ∙ (cells-Decides c.index-cells-k.result c.args.cell).0 (sym c.eq.ensures ∙ c.if-eq.true)
