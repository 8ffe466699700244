use Rattle.std.proofs.Common.{◌≡◌, ◌<◌, ◌≤◌, ◌∷◌, ◌++◌, [], ℕ, List, length}
use Rattle.std.specs.Prelude.{slice_index}
use Rattle.fux_grid.specs.declared.cell.Cell.{Cell}
use Rattle.fux_grid.specs.Exercises.{IsFree}
use Rattle.rhythm_cadence.specs.Parts.{IsShapesOf, shapes_begun}
use Rattle.rhythm_cadence.proofs.part.note.Given as goal

-- the voices below this one have their sets, and the others the old ones
abbrev pub invariant-loop-v : goal.invariant-loop-v
invariant-loop-v l = record {
  long : length l.part.possible ≡ 4;
  done :
      (p : List (List Cell)) → length p ≡ l.i → IsShapesOf l.ex p l.initial.part → (w : ℕ) → w < l.v
      → IsFree l.ex w → slice_index l.part.possible w ≡ shapes_begun l.ex w (p ++ l.col ∷ []);
  left : (w : ℕ) → l.v ≤ w → slice_index l.part.possible w ≡ slice_index l.initial.part.possible w;
}
