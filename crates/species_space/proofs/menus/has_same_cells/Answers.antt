use Rattle.std.proofs.Common.{◌≡◌, sym, ◌∙◌}
use Rattle.std.proofs.lemmas.Bool.{OnTrue_from}
use Rattle.std.proofs.lemmas.Slice.Eq.{slice_eq-Decides}
use Rattle.fux_grid.specs.Menus.{cells_at}
use Rattle.chain_sums.proofs.CellTests.{cells-Decides}
use Rattle.species_space.proofs.menus.has_same_cells.Goals as goal

pub returns : goal.returns
returns c =
    let ex = c.args.ex.now in
    let test = slice_eq-Decides cells-Decides c.as_slice.result.now c.as_slice-2.result.now c.eq.result c.eq.ensures in
    OnTrue_from c.eq.result (cells_at ex c.args.i c.args.v ≡ cells_at ex c.args.j c.args.v)
    (λ h. sym (c.as_slice.ensures.value ∙ c.voice_cells.ensures) ∙ test.0 h
    ∙ c.as_slice-2.ensures.value ∙ c.voice_cells-2.ensures)
