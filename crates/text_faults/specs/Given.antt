-- A `given` line, judged by itself.
use Rattle.std.specs.Prelude.{ℕ, [], Option, Some, None, Ok}
use Rattle.fux_grid.specs.declared.given.GivenBar.{GivenBar}
use Rattle.fux_text.specs.declared.fault.TextKind.{TextKind}
use Rattle.fux_text.specs.declared.fault.TextKind.TheVariants as kinds
use Rattle.fux_text.specs.GivenLines.{given_run}
use Rattle.text_lines.specs.Faults.{◌>>=◌}
use Rattle.text_lines.specs.Rows.{Row, named_place, number_place, row_in}
use Rattle.text_lines.specs.Words.{LineWords}
use Rattle.text_faults.specs.declared.known.Known.{Known}
use Rattle.text_faults.specs.HeadLines.{Judged}
use Rattle.text_faults.specs.Known.{voice_but}

-- `given V BAR ITEMS`, where V is any voice but that of the cantus, and BAR one of so many
abbrev pub lone_given : Known → ℕ → Row TextKind GivenBar
lone_given known bars =
    Row.place (named_place kinds.Word kinds.Word (voice_but known.cantus_voice known.voices)) (λ v.
    Row.place (number_place kinds.Word 1 bars) (λ bar. Row.runs (given_run v bar) []))

abbrev pub given_behind : Known → Option ℕ → LineWords → Judged
given_behind known None at = Ok known
given_behind known (Some bars) at = row_in (lone_given known bars) at >>= λ line. Ok known

-- it is judged where the number of bars is known
unfoldable pub given_judged : Known → LineWords → Judged
given_judged known at = given_behind known known.bars at
