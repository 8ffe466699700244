use Rattle.std.proofs.Common.{◌≡◌, ◌-◌, ◌++◌}
use Rattle.std.specs.List.{flat_map, range_with_len}
use Rattle.sheet_layout.specs.Spacing.{all_notes, voice_notes}
use Rattle.sheet_layout.proofs.spacing.all_notes.Given as goal

-- the notes so far, and those of the voices that are left, are the notes of all
abbrev pub invariant-loop-v : goal.invariant-loop-v
invariant-loop-v l =
    l.all.items ++ flat_map (voice_notes l.ex l.lines l.bar) (range_with_len l.v (l.ex.voices - l.v))
    ≡ all_notes l.ex l.lines l.bar
