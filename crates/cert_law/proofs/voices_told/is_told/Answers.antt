use Rattle.std.proofs.Common.{◌≡◌, Option, sym, ap, ◌∙◌, subst}
use Rattle.std.specs.Prelude.{IsSomeAnd, Some}
use Rattle.std.proofs.lemmas.Bool.{OnTrue_at, OnTrue_from}
use Rattle.cert_law.specs.declared.voices_told.VoiceTold.{VoiceTold}
use Rattle.chain_sums.proofs.CellTests.{cells-Decides}
use Rattle.fux_grid.specs.Cells.{cell_in}
use Rattle.cert_law.proofs.voices_told.is_told.Goals as goal

pub returns-then-eq : goal.returns-then-eq
returns-then-eq c =
    let v = c.args.v in
    let cell = c.cell_of-cell.result in
    let same : c.in-Some.voice.cell ≡ cell = (cells-Decides c.in-Some.voice.cell cell).0 (sym c.eq.ensures ∙ c.if-eq.true) in
    OnTrue_from c.is_rule.result
    (IsSomeAnd c.args.told.now (λ it. (it.cell ≡ cell_in c.args.col.now.items v) × (it.least ≡ Some c.args.rule)))
    (λ h. subst (λ (o : Option VoiceTold). IsSomeAnd o (λ it. (it.cell ≡ cell_in c.args.col.now.items v)
    × (it.least ≡ Some c.args.rule))) (sym c.in-Some.is)
    (same ∙ c.cell_of-cell.ensures ∙ ap (λ col. cell_in col v) c.as_slice.ensures.value, OnTrue_at h c.is_rule.ensures))
