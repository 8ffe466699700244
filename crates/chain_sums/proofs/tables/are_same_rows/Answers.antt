use Rattle.std.proofs.Common.{sym, ◌∙◌}
use Rattle.std.proofs.lemmas.Bool.{OnTrue_from}
use Rattle.std.proofs.lemmas.Slice.Eq.{slice_eq-Decides}
use Rattle.chain_sums.specs.Tables.{AreSameRows}
use Rattle.chain_sums.proofs.TableLemmas.{sums-Decides}
use Rattle.chain_sums.proofs.tables.are_same_rows.Goals as goal

pub returns-then-row-other : goal.returns-then-row-other
returns-then-row-other c =
    let test = slice_eq-Decides sums-Decides c.as_slice.result.now c.as_slice-then-row-other.result.now c.eq.result
    c.eq.ensures in
    OnTrue_from c.eq.result (AreSameRows c.args.row.now c.args.other.now)
    (λ h. (c.if-row-other.true, sym c.as_slice.ensures.value ∙ test.0 h ∙ c.as_slice-then-row-other.ensures.value))
