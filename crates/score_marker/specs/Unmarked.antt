-- What a lawful cantus is, by its marks.
use Rattle.std.specs.Prelude.{◌≡◌, ℕ, ◌+◌, ◌↔◌, true, List, [], Some, length, slice_get}
use Rattle.fux_pitch.specs.declared.pitch.Pitch.{Pitch}
use Rattle.fux_grid.specs.declared.exercise.Exercise.{Exercise}
use Rattle.score_marker.specs.Cantus.{AreCantusMarks}
use Rattle.cantus_space.specs.declared.plan.CantusPlan.{CantusPlan}
use Rattle.cantus_space.specs.Cantus.{is_in_pool}
use Rattle.cantus_space.specs.Lawful.{IsLawful}

-- the exercise has this cantus, in the mode that is asked
pub record HasCantus (plan : CantusPlan) (cantus : List Pitch) (ex : Exercise) : Type 0 where
  pub mode : ex.mode ≡ plan.mode
  pub bars : ex.bars ≡ plan.bars
  pub pitches : ex.cantus ≡ cantus

-- each pitch is one of its bar's pool
abbrev pub AreOfPools : CantusPlan → List Pitch → Type 0
AreOfPools plan cantus = (i : ℕ) (p : Pitch) → slice_get cantus i ≡ Some p → is_in_pool plan (i + 1) p ≡ true

-- the cantus has a pitch of each bar's pool, and no marks in any exercise that has it
pub record IsUnmarked (plan : CantusPlan) (cantus : List Pitch) : Type 0 where
  pub whole : length cantus ≡ plan.bars
  pub of_pools : AreOfPools plan cantus
  pub unmarked : (ex : Exercise) → HasCantus plan cantus ex → AreCantusMarks ex []

-- exactly such a cantus is lawful
abbrev pub LawfulIsUnmarked : CantusPlan → Type 0
LawfulIsUnmarked plan = (cantus : List Pitch) → IsLawful plan cantus ↔ IsUnmarked plan cantus
