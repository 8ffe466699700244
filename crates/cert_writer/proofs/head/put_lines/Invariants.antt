use Rattle.std.proofs.Common.{◌≡◌, ◌-◌, ◌==◌, ◌++◌, not, string_bytes, filter}
use Rattle.std.specs.List.{flat_map, range_with_len}
use Rattle.fux_text.specs.Lines.{sing_text}
use Rattle.fux_text.specs.ReadBack.{sing_lines}
use Rattle.cert_writer.proofs.head.put_lines.Given as goal

-- what is written so far, and the lines that are left, are what is to be written
abbrev pub invariant-loop-v : goal.invariant-loop-v
invariant-loop-v l =
    string_bytes l.out ++ flat_map (λ v. sing_text v l.score.columns)
    (filter (λ v. not (v == l.ex.cantus_voice)) (range_with_len l.v (l.ex.voices - l.v)))
    ≡ string_bytes l.fn.out ++ sing_lines l.ex l.score.columns
