-- The range lines, as rows.
use Rattle.std.specs.Prelude.{ℕ, ◌==◌, ◌||◌, not, Bool, true, false, List, Option, Some, None, Result, Ok, Err, codes, int_lt, if◌then◌else◌}
use Rattle.std.specs.List.{list_all, list_any, range_with_len}
use Rattle.fux_pitch.specs.declared.pitch.Pitch.{Pitch}
use Rattle.fux_pitch.specs.Pitch.{key_of}
use Rattle.fux_grid.specs.declared.exercise.Exercise.{Exercise}
use Rattle.fux_grid.specs.declared.exercise.RangeLine.{RangeLine}
use Rattle.fux_text.specs.declared.fault.TextKind.{TextKind}
use Rattle.fux_text.specs.declared.fault.TextKind.TheVariants as kinds
use Rattle.text_lines.specs.Rows.{Place, Row, number_place}
use Rattle.text_lines.specs.Tables.{Many, Table}
use Rattle.text_lines.specs.Words.{PlacedWord, LineWords, first_word}
use Rattle.fux_text.specs.Head.{other_voice, pitch_place}
use Rattle.fux_text.specs.Names.{pitch_named}

-- the voice has a range line among these
abbrev pub has_line : List RangeLine → ℕ → Bool
has_line lines v = list_any (λ line. line.voice == v) lines

-- whether a line can't go on so behind LOW and HIGH: a voice's first line ends there, and each
-- later one has bars
abbrev pub misfits_behind : Bool → Option (PlacedWord × LineWords) → Bool
misfits_behind later None = later
misfits_behind later (Some from) = not later

abbrev pub misfits_from_high : Bool → Option (PlacedWord × LineWords) → Bool
misfits_from_high later None = false
misfits_from_high later (Some high) = misfits_behind later (first_word high.1)

abbrev pub misfits_from_low : Bool → Option (PlacedWord × LineWords) → Bool
misfits_from_low later None = false
misfits_from_low later (Some low) = misfits_from_high later (first_word low.1)

unfoldable pub misfits : Bool → LineWords → Bool
misfits later at = misfits_from_low later (first_word at)

-- a free voice, behind which the line can go on so
abbrev pub fitting : List RangeLine → LineWords → Option ℕ → Result ℕ TextKind
fitting before behind None = Err kinds.Range
fitting before behind (Some v) = if misfits (has_line before v) behind then Err kinds.Range else Ok v

abbrev pub voice_place : Exercise → List RangeLine → Place TextKind ℕ
voice_place ex before = record {
  missing = kinds.Range;
  says = λ behind text. fitting before behind (other_voice ex.cantus_voice ex.voices text);
}

-- a pitch whose key isn't below that of LOW
abbrev pub high_said : Pitch → Option Pitch → Result Pitch TextKind
high_said low None = Err kinds.Pitch
high_said low (Some high) = if int_lt (key_of high) (key_of low) then Err kinds.Range else Ok high

abbrev pub high_place : Pitch → Place TextKind Pitch
high_place low = record { missing = kinds.Range; says = λ behind text. high_said low (pitch_named text) }

-- FROM and TO, which stand in a voice's later lines alone
abbrev pub bars_row : Bool → ℕ → RangeLine → Row TextKind RangeLine
bars_row false bars line = Row.ends kinds.Word line
bars_row true bars line =
    Row.place (number_place kinds.Range 1 bars) (λ from.
    Row.place (number_place kinds.Range from bars) (λ to. Row.ends kinds.Word (record line { bars = Some (from, to) })))

-- `range V LOW HIGH`, or `range V LOW HIGH FROM TO`, where these range lines stand before
abbrev pub range_row : Exercise → List RangeLine → Row TextKind RangeLine
range_row ex before =
    Row.place (voice_place ex before) (λ v.
    Row.place (pitch_place kinds.Range) (λ low.
    Row.place (high_place low) (λ high.
    bars_row (has_line before v) ex.bars (record { voice = v; low = low; high = high; bars = None }))))

-- each voice has its range line, but for the cantus
unfoldable pub all_ranged : Exercise → List RangeLine → Bool
all_ranged ex lines = list_all (λ v. (v == ex.cantus_voice) || has_line lines v) (range_with_len 0 ex.voices)

abbrev pub range_lines_of : Exercise → Many TextKind RangeLine
range_lines_of ex = record { other = kinds.Head; name = codes "range"; goes = λ before. true; row = range_row ex }

-- the range lines, where each free voice has its own: else the fault is at the line behind them
abbrev pub ranges_table : Exercise → Table TextKind (List RangeLine)
ranges_table ex =
    Table.behind (Table.many (range_lines_of ex)) (λ lines.
    Table.behind (Table.needs (all_ranged ex lines) kinds.Range) (λ _. Table.says lines))
