pub mod ExerciseLemmas
pub mod WalkLemmas
