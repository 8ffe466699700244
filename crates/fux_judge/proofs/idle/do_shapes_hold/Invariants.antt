use Rattle.std.proofs.Common.{◌≡◌, ℕ, ◌<◌, true}
use Rattle.fux_grid.specs.Exercises.{bar_of, slot_of}
use Rattle.fux_grid.specs.Orderly.{voice_shapes}
use Rattle.rhythm_cadence.specs.Parts.{all_have}
use Rattle.fux_judge.proofs.idle.do_shapes_hold.Given as goal

-- the shapes of the voices so far
abbrev pub invariant-loop-v : goal.invariant-loop-v
invariant-loop-v l =
    (w : ℕ) → w < l.v → all_have (slot_of l.fn.i) 72 (voice_shapes l.ex w (bar_of l.fn.i)) ≡ true
