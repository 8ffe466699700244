use Rattle.std.proofs.Common.{◌≡◌, ◌↔◌, IsTrue, ap, sym, ◌∙◌}
use Rattle.fux_grid.specs.declared.cell.Cell.TheVariants.{Hold, Start}
use Rattle.fux_grid.specs.Exercises.{cantus_cell}
use Rattle.fux_grid.proofs.PitchTests.{equal_by_test}
use Rattle.fux_grid.proofs.CantusCells.{cantus_cell-hold, cantus_cell-start}
use Rattle.fux_grid.proofs.exercise.is_cantus_cell.Goals as goal

pub returns-then-i-ne0 : goal.returns-then-i-ne0
returns-then-i-ne0 c =
    let same : IsTrue c.eq.result ↔ (c.in-Hold.p ≡ c.args.pitch) = equal_by_test _ _ _ c.eq.ensures in
    let held : cantus_cell c.args.i c.args.pitch
    ≡ Hold c.args.pitch = cantus_cell-hold c.args.i c.args.pitch c.if-i-ne0.true in (
      λ h. c.in-Hold.is ∙ ap Hold (same.0 h)
          ∙ sym held,
      λ e. same.1 (let f : Hold c.in-Hold.p ≡ Hold c.args.pitch = sym c.in-Hold.is ∙ e ∙ held in cc),
    )

pub returns-then-i-eq0 : goal.returns-then-i-eq0
returns-then-i-eq0 c =
    let same : IsTrue c.eq-then-i-eq0.result
    ↔ (c.in-Start.p ≡ c.args.pitch) = equal_by_test _ _ _ c.eq-then-i-eq0.ensures in
    let starts : cantus_cell c.args.i c.args.pitch
    ≡ Start c.args.pitch = cantus_cell-start c.args.i c.args.pitch c.if-i-eq0.true in (
      λ h. c.in-Start.is ∙ ap Start (same.0 h)
          ∙ sym starts,
      λ e. same.1 (let f : Start c.in-Start.p ≡ Start c.args.pitch = sym c.in-Start.is ∙ e ∙ starts in
          cc),
    )
