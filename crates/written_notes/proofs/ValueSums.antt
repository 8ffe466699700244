-- The values of so many slots add up to them.
use Rattle.std.proofs.Common.{refl}
use Rattle.written_notes.specs.Values.{ValuesAddUp}

pub values-add-up : ValuesAddUp
values-add-up = refl
