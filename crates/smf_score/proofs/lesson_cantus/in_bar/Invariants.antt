use Rattle.std.proofs.Common.{◌≡◌, take}
use Rattle.smf_score.specs.LessonCantus.{in_bar}
use Rattle.smf_score.proofs.lesson_cantus.in_bar.Given as goal

-- those of the notes so far
abbrev pub invariant-loop-note : goal.invariant-loop-note
invariant-loop-note l = l.own.items ≡ in_bar l.bar (take l.note-index l.notes)
