use Rattle.std.proofs.Common.{refl}
use Rattle.command_words.proofs.values.files_of.Goals as goal

pub returns-in_err-kind : goal.returns-in_err-kind
returns-in_err-kind c =
    rw (
      c.from_residual.ensures,
      ← c.value-lesson.ensures,
      ← c.is_set-is_midi.ensures,
      ← c.manner_of-manner.ensures,
      ← c.in_err-kind.ensures,
    ) refl

pub returns : goal.returns
returns c =
    rw (
      ← c.value-lesson.ensures,
      ← c.is_set-is_midi.ensures,
      ← c.manner_of-manner.ensures,
      ← c.in_ok-kind.ensures,
      ← c.is_set.ensures,
    ) c.paged_of.ensures
