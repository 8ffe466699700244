-- A `sing` line, judged by itself.
use Rattle.std.specs.Prelude.{ℕ, List, [], Option, Some, None, Ok}
use Rattle.fux_grid.specs.declared.cell.Cell.{Cell}
use Rattle.fux_text.specs.declared.fault.TextKind.{TextKind}
use Rattle.fux_text.specs.declared.fault.TextKind.TheVariants as kinds
use Rattle.fux_text.specs.Sing.{sung_run}
use Rattle.text_lines.specs.Faults.{◌>>=◌}
use Rattle.text_lines.specs.Rows.{Row, named_place, row_in}
use Rattle.text_lines.specs.Words.{LineWords}
use Rattle.text_faults.specs.declared.known.Known.{Known}
use Rattle.text_faults.specs.HeadLines.{Judged}
use Rattle.text_faults.specs.Known.{voice_but}

-- `sing V ITEMS`, where V is any voice but that of the cantus, and the items run through so many
-- bars
abbrev pub lone_sing : Known → ℕ → Row TextKind (List Cell)
lone_sing known bars =
    Row.place (named_place kinds.Sing kinds.Sing (voice_but known.cantus_voice known.voices)) (λ v.
    Row.runs (sung_run bars) (0, []))

abbrev pub sing_behind : Known → Option ℕ → LineWords → Judged
sing_behind known None at = Ok known
sing_behind known (Some bars) at = row_in (lone_sing known bars) at >>= λ cells. Ok known

-- it is judged where the number of bars is known
unfoldable pub sing_judged : Known → LineWords → Judged
sing_judged known at = sing_behind known known.bars at
