-- The cells of the cantus.
use Rattle.std.proofs.Common.{◌≡◌, ℕ, ◌%◌, refl, eq-eqb}
use Rattle.std.proofs.lemmas.Bool.{ne_eqb}
use Rattle.fux_pitch.specs.declared.pitch.Pitch.{Pitch}
use Rattle.fux_grid.specs.declared.cell.Cell.TheVariants.{Hold, Start}
use Rattle.fux_grid.specs.Exercises.{cantus_cell}

-- the cantus is held where no bar begins
pub cantus_cell-hold : (i : ℕ) (p : Pitch) → (i % 8 ≡ 0 → ⊥) → cantus_cell i p ≡ Hold p
cantus_cell-hold i p h = rw (ne_eqb (i % 8) 0 h) refl

-- it starts where a bar begins
pub cantus_cell-start : (i : ℕ) (p : Pitch) → i % 8 ≡ 0 → cantus_cell i p ≡ Start p
cantus_cell-start i p h = rw (eq-eqb (i % 8) 0 h) refl
