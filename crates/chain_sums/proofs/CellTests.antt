-- A test tells whether two cells are the same (`cells-Decides`).
use Rattle.std.proofs.Common.{◌≡◌, Decides, refl, ap}
use Rattle.fux_grid.specs.declared.cell.Cell.{Cell}
use Rattle.fux_grid.specs.declared.cell.Cell.TheVariants.{Rest, Hold, Start}
use Rattle.fux_grid.specs.contracts.cell.CellPartialEq.TheImpl.{ghosts}
use Rattle.fux_grid.proofs.PitchTests.{same_pitch-from_equal}
use Rattle.fux_pitch.proofs.PitchLemmas.{equal_from_test}

pub cells-Decides : (c d : Cell) → Decides (ghosts.eq c d) (c ≡ d)
cells-Decides Rest Rest = (λ h. refl, λ e. refl)
cells-Decides (Hold p) (Hold q) = (λ h. ap Hold (equal_from_test p q h), λ e. same_pitch-from_equal p q cc)
cells-Decides (Start p) (Start q) = (λ h. ap Start (equal_from_test p q h), λ e. same_pitch-from_equal p q cc)
cells-Decides Rest (Hold q) = (λ h. cc, λ e. cc)
cells-Decides Rest (Start q) = (λ h. cc, λ e. cc)
cells-Decides (Hold p) Rest = (λ h. cc, λ e. cc)
cells-Decides (Hold p) (Start q) = (λ h. cc, λ e. cc)
cells-Decides (Start p) Rest = (λ h. cc, λ e. cc)
cells-Decides (Start p) (Hold q) = (λ h. cc, λ e. cc)
