-- An answer that answers its lesson, and that nothing is told of it then.
use Rattle.std.specs.Prelude.{◌≡◌, ◌↔◌, ℕ, ◌≤◌, List, []}
use Rattle.fux_grid.specs.declared.cell.Cell.{Cell}
use Rattle.fux_grid.specs.declared.exercise.Exercise.{Exercise}
use Rattle.fux_grid.specs.Exercises.{FitsGiven, IsComplete, IsFree, IsValid}
use Rattle.fux_grid.specs.Grid.{Grid}
use Rattle.fux_grid.specs.Menus.{range_of}
use Rattle.class_marker.specs.Differences.{differences}

-- the answer has all that the lesson sets, and its setting the notes that the lesson gives
pub record AnswersLesson (lesson answer : Exercise) (s : List (List Cell)) : Type 0 where
  pub mode : lesson.mode ≡ answer.mode
  pub voices : lesson.voices ≡ answer.voices
  pub bars : lesson.bars ≡ answer.bars
  pub species : lesson.species ≡ answer.species
  pub species_voice : lesson.species_voice ≡ answer.species_voice
  pub cantus_voice : lesson.cantus_voice ≡ answer.cantus_voice
  pub cantus : lesson.cantus ≡ answer.cantus
  pub ranges : (v bar : ℕ) → IsFree lesson v → 1 ≤ bar → bar ≤ lesson.bars
      → range_of lesson v bar ≡ range_of answer v bar
  pub relax : lesson.relax ≡ answer.relax
  pub given : FitsGiven lesson s

-- nothing differs just where the answer answers the lesson
abbrev pub NoneDiffer : Type 0
NoneDiffer =
    (lesson answer : Exercise) (score : Grid) → IsValid lesson → IsValid answer → IsComplete answer score
    → (differences lesson answer score.columns ≡ []) ↔ AnswersLesson lesson answer score.columns
