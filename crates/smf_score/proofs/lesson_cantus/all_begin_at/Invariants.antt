use Rattle.std.proofs.Common.{◌≡◌, ◌==◌, take, true}
use Rattle.std.specs.List.{list_all}
use Rattle.smf_score.specs.LessonCantus.{begins_at}
use Rattle.smf_score.proofs.lesson_cantus.all_begin_at.Given as goal

-- the notes so far begin there
abbrev pub invariant-loop-note : goal.invariant-loop-note
invariant-loop-note l = list_all (λ note. begins_at note == l.slot) (take l.note-index l.notes) ≡ true
