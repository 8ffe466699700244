-- Places at which a column settles nothing of S3, or nothing of S25, whatever it is.
use Rattle.std.specs.Prelude.{◌≡◌, ℕ, ◌+◌, ◌-◌, ◌<◌, ◌⊎◌, true, false}
use Rattle.fux_grid.specs.declared.exercise.Exercise.{Exercise}
use Rattle.fux_grid.specs.Exercises.{bar_of, columns_in, slot_of}
use Rattle.fux_grid.specs.Orderly.{voice_shapes}
use Rattle.rule_law.specs.Gauges.{menu_starts}
use Rattle.rhythm_cadence.specs.Parts.{all_have, are_alike}

-- all shapes of each voice have one letter at the place
abbrev pub AreShapesAlike : Exercise → ℕ → Type 0
AreShapesAlike ex i = (v : ℕ) → v < ex.voices → are_alike (slot_of i) (voice_shapes ex v (bar_of i)) ≡ true

-- each shape of each voice holds a note there
abbrev pub DoShapesHold : Exercise → ℕ → Type 0
DoShapesHold ex i = (v : ℕ) → v < ex.voices → all_have (slot_of i) 72 (voice_shapes ex v (bar_of i)) ≡ true

-- a voice holds a note there in each of its shapes, or it starts none in the column before, and
-- columns are to come
abbrev pub EndsNoQuaver : Exercise → ℕ → ℕ → Type 0
EndsNoQuaver ex i v =
    (all_have (slot_of i) 72 (voice_shapes ex v (bar_of i)) ≡ true)
    ⊎ ((0 < i) × (i + 1 < columns_in ex) × (menu_starts ex v (i - 1) ≡ false))

-- so does each voice
abbrev pub EndNoQuaver : Exercise → ℕ → Type 0
EndNoQuaver ex i = (v : ℕ) → v < ex.voices → EndsNoQuaver ex i v
