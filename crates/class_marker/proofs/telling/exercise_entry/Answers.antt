use Rattle.std.proofs.Common.{refl}
use Rattle.class_marker.proofs.telling.exercise_entry.Goals as goal

pub lesson_entry-requires-clause-lesson : goal.lesson_entry-requires-clause-lesson
lesson_entry-requires-clause-lesson c = (rw c.in-Some.is at c.requires.lesson) c.in-Some.lesson refl
