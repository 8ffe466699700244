use Rattle.std.proofs.Common.{◌≡◌, ℕ, ◌<◌, true}
use Rattle.fux_grid.specs.Exercises.{bar_of, slot_of}
use Rattle.fux_grid.specs.Orderly.{voice_shapes}
use Rattle.rhythm_cadence.specs.Parts.{are_alike}
use Rattle.fux_judge.proofs.idle.are_shapes_alike.Given as goal

-- the shapes of the voices so far
abbrev pub invariant-loop-v : goal.invariant-loop-v
invariant-loop-v l =
    (w : ℕ) → w < l.v → are_alike (slot_of l.fn.i) (voice_shapes l.ex w (bar_of l.fn.i)) ≡ true
