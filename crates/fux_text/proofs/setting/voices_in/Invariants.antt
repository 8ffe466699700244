use Rattle.std.proofs.Common.{◌≡◌, ◌-◌, []}
use Rattle.std.specs.List.{range_with_len}
use Rattle.text_lines.specs.Lines.{lines_of}
use Rattle.text_lines.specs.Tables.{table_in}
use Rattle.fux_text.specs.Fitting.{asks}
use Rattle.fux_text.specs.Sing.{voices_table}
use Rattle.fux_text.proofs.setting.voices_in.Given as goal

-- reading goes on from here as it does from the beginning
abbrev pub invariant-loop-v : goal.invariant-loop-v
invariant-loop-v l =
    table_in (voices_table (asks l.asked l.ex) l.ex (range_with_len l.v (l.ex.voices - l.v)) l.lines.items) (lines_of l.rest)
    ≡ table_in (voices_table (asks l.asked l.ex) l.ex (range_with_len 0 l.ex.voices) []) (lines_of l.text)
