use Rattle.std.proofs.Common.{◌≡◌, ◌-◌, ◌≤◌, ◌++◌, length, filter}
use Rattle.std.specs.List.{range_with_len}
use Rattle.fux_text.specs.Lines.{has_voice}
use Rattle.fux_text.proofs.exercise_lines.voices_in.Given as goal

abbrev pub invariant-loop-v : goal.invariant-loop-v
invariant-loop-v l =
    (length l.voices.items ≤ l.v)
    × (l.voices.items ++ filter (has_voice l.set.bits) (range_with_len l.v (4 - l.v))
    ≡ filter (has_voice l.set.bits) (range_with_len 0 4))
