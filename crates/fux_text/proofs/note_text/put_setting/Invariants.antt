use Rattle.std.proofs.Common.{◌≡◌, ◌-◌, ◌++◌, string_bytes}
use Rattle.std.specs.List.{range_with_len}
use Rattle.fux_text.specs.Lines.{free_among, free_voices, sing_texts}
use Rattle.fux_text.proofs.note_text.put_setting.Given as goal

-- what is written so far, and the lines that are left, are what is to be written
abbrev pub invariant-loop-v : goal.invariant-loop-v
invariant-loop-v l =
    string_bytes l.out ++ sing_texts l.score.columns (free_among l.ex (range_with_len l.v (l.ex.voices - l.v)))
    ≡ string_bytes l.fn.out ++ sing_texts l.score.columns (free_voices l.ex)
