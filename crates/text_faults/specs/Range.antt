-- A range line, judged by itself.
use Rattle.std.specs.Prelude.{ℕ, Bool, Option, Some, None, Ok, is_some}
use Rattle.fux_grid.specs.declared.exercise.RangeLine.{RangeLine}
use Rattle.fux_text.specs.declared.fault.TextKind.{TextKind}
use Rattle.fux_text.specs.declared.fault.TextKind.TheVariants as kinds
use Rattle.fux_text.specs.Head.{pitch_place}
use Rattle.fux_text.specs.Ranges.{bars_row, high_place}
use Rattle.text_lines.specs.Faults.{◌>>=◌}
use Rattle.text_lines.specs.Rows.{Place, Row, named_place, row_in}
use Rattle.text_lines.specs.Words.{LineWords, PlacedWord, first_word}
use Rattle.text_faults.specs.declared.known.Known.{Known}
use Rattle.text_faults.specs.HeadLines.{Judged}
use Rattle.text_faults.specs.Known.{voice_but}

-- what stands behind a word
abbrev pub next_word : Option (PlacedWord × LineWords) → Option (PlacedWord × LineWords)
next_word None = None
next_word (Some found) = first_word found.1

-- more than three words are left: behind V, LOW and HIGH a line has bars
unfoldable pub has_bars : LineWords → Bool
has_bars at = is_some (next_word (next_word (next_word (first_word at))))

-- `range V LOW HIGH`, or `range V LOW HIGH FROM TO`, where V is any voice but that of the cantus
abbrev pub free_place : Known → Place TextKind ℕ
free_place known = named_place kinds.Range kinds.Range (voice_but known.cantus_voice known.voices)

abbrev pub range_behind : ℕ → Bool → ℕ → Row TextKind RangeLine
range_behind bars later v =
    Row.place (pitch_place kinds.Range) (λ low.
    Row.place (high_place low) (λ high.
    bars_row later bars (record { voice = v; low = low; high = high; bars = None })))

abbrev pub lone_range : Known → ℕ → Bool → Row TextKind RangeLine
lone_range known bars later = Row.place (free_place known) (λ v. range_behind bars later v)

-- as many bars as there may be where no line tells it
abbrev pub bars_of : Option ℕ → ℕ
bars_of None = 24
bars_of (Some bars) = bars

unfoldable pub range_judged : Known → LineWords → Judged
range_judged known at =
    row_in (lone_range known (bars_of known.bars) (has_bars at)) at >>= λ line. Ok known
