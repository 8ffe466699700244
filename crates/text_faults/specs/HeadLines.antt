-- The lines before the ranges, each judged by itself: what is known behind a right one, or what is
-- wrong.
use Rattle.std.specs.Prelude.{ℕ, List, Option, Some, None, [], Result, Ok}
use Rattle.fux_pitch.specs.declared.pitch.Pitch.{Pitch}
use Rattle.fux_text.specs.declared.fault.TextKind.{TextKind}
use Rattle.fux_text.specs.declared.fault.TextKind.TheVariants as kinds
use Rattle.fux_text.specs.Head.{mode_row, number_row, pitches_row, species_row}
use Rattle.fux_text.specs.Limits.{most_voices, newest_version}
use Rattle.text_lines.specs.Faults.{Fault, ◌>>=◌}
use Rattle.text_lines.specs.Rows.{Row, named_place, row_in}
use Rattle.text_lines.specs.Words.{LineWords}
use Rattle.text_faults.specs.declared.known.Known.{Known}
use Rattle.text_faults.specs.Known.{voice_but}

-- what is known behind a line, or its fault
abbrev pub Judged : Type 0
Judged = Result Known (Fault TextKind)

unfoldable pub version_judged : Known → LineWords → Judged
version_judged known at = row_in (number_row kinds.Word 1 newest_version) at >>= λ n. Ok known

unfoldable pub mode_judged : Known → LineWords → Judged
mode_judged known at = row_in mode_row at >>= λ mode. Ok known

unfoldable pub voices_judged : Known → LineWords → Judged
voices_judged known at =
    row_in (number_row kinds.Word 2 most_voices) at >>= λ n. Ok (record known { voices = n })

unfoldable pub bars_judged : Known → LineWords → Judged
bars_judged known at =
    row_in (number_row kinds.Bars 3 24) at >>= λ n. Ok (record known { bars = Some n })

unfoldable pub species_judged : Known → LineWords → Judged
species_judged known at =
    row_in (species_row known.voices) at
    >>= λ species. Ok (record known { species_voice = Some species.1 })

-- `cantus C PITCHES`, where there are so many bars
abbrev pub lone_cantus : Known → ℕ → Row TextKind (ℕ × List Pitch)
lone_cantus known bars =
    Row.place (named_place kinds.Cantus kinds.Cantus (voice_but known.species_voice known.voices))
    (λ v. pitches_row v bars [])

abbrev pub cantus_behind : Known → Option ℕ → LineWords → Judged
cantus_behind known None at = Ok known
cantus_behind known (Some bars) at =
    row_in (lone_cantus known bars) at
    >>= λ cantus. Ok (record known { cantus_voice = Some cantus.0 })

-- a cantus is judged where the number of bars is known
unfoldable pub cantus_judged : Known → LineWords → Judged
cantus_judged known at = cantus_behind known known.bars at
