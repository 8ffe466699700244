-- The lines before the ranges, as rows.
use Rattle.std.specs.Prelude.{ℕ, zero, suc, ◌-◌, ◌==◌, List, [], ◌∷◌, ◌++◌, Option, Some, None, codes, if◌then◌else◌}
use Rattle.std.specs.Option.{option_and_then}
use Rattle.fux_pitch.specs.declared.mode.Mode.{Mode}
use Rattle.fux_pitch.specs.declared.pitch.Pitch.{Pitch}
use Rattle.fux_grid.specs.declared.exercise.Exercise.{Exercise}
use Rattle.fux_text.specs.declared.fault.TextKind.{TextKind}
use Rattle.fux_text.specs.declared.fault.TextKind.TheVariants as kinds
use Rattle.text_lines.specs.Numbers.{number_within}
use Rattle.text_lines.specs.Rows.{Place, Row, named_place, number_place, word_place}
use Rattle.text_lines.specs.Tables.{Table}
use Rattle.fux_text.specs.Names.{mode_named, pitch_named}
use Rattle.fux_text.specs.Limits.{most_species, most_voices, newest_version}

-- `mode M`: M is the name of a mode
abbrev pub mode_row : Row TextKind Mode
mode_row = Row.place (named_place kinds.Word kinds.Word mode_named) (λ mode. Row.ends kinds.Word mode)

-- a name, and a number within bounds
abbrev pub number_row : TextKind → ℕ → ℕ → Row TextKind ℕ
number_row kind least most = Row.place (number_place kind least most) (λ n. Row.ends kinds.Word n)

-- `species N voice V`: N is 1 to 5, and V one of the voices
abbrev pub species_row : ℕ → Row TextKind (ℕ × ℕ)
species_row voices =
    Row.place (number_place kinds.Word 1 most_species) (λ n.
    Row.place (word_place kinds.Word (codes "voice")) (λ _.
    Row.place (number_place kinds.Word 0 (voices - 1)) (λ v. Row.ends kinds.Word (n, v))))

-- a voice of so many, but not this one
abbrev pub unless : ℕ → ℕ → Option ℕ
unless other v = if v == other then None else Some v

abbrev pub other_voice : ℕ → ℕ → List ℕ → Option ℕ
other_voice other voices text = option_and_then (unless other) (number_within 0 (voices - 1) text)

-- a pitch; the kind is of the fault where its word is missing
abbrev pub pitch_place : TextKind → Place TextKind Pitch
pitch_place kind = named_place kind kinds.Pitch pitch_named

-- so many pitches behind this voice and those before
abbrev pub pitches_row : ℕ → ℕ → List Pitch → Row TextKind (ℕ × List Pitch)
pitches_row v zero before = Row.ends kinds.Cantus (v, before)
pitches_row v (suc n) before = Row.place (pitch_place kinds.Cantus) (λ p. pitches_row v n (before ++ p ∷ []))

-- `cantus C PITCHES`: C is another voice than the species voice, and there is a pitch for each bar;
-- a missing one is `cantus`, as one too many
abbrev pub cantus_row : ℕ → ℕ → ℕ → Row TextKind (ℕ × List Pitch)
cantus_row voices species_voice bars =
    Row.place (named_place kinds.Cantus kinds.Cantus (other_voice species_voice voices)) (λ v. pitches_row v bars [])

-- an exercise whose species aren't mixed, without ranges, relax lines, given notes and setting
abbrev pub bare : Mode → ℕ → ℕ → ℕ × ℕ → ℕ × List Pitch → Exercise
bare mode voices bars species cantus = record {
  mode = mode;
  voices = voices;
  bars = bars;
  species = species.0;
  species_voice = species.1;
  mixed = None;
  cantus_voice = cantus.0;
  cantus = cantus.1;
  ranges = [];
  relax = [];
  given = [];
  setting = None;
}

-- the lines behind the number of bars, in an exercise of this mode, with so many voices and bars
abbrev pub parts_table : Mode → ℕ → ℕ → Table TextKind Exercise
parts_table mode voices bars =
    Table.behind (Table.line kinds.Head kinds.Head (codes "species") (species_row voices)) (λ species.
    Table.behind (Table.line kinds.Head kinds.Head (codes "cantus") (cantus_row voices species.1 bars)) (λ cantus.
    Table.says (bare mode voices bars species cantus)))

-- the lines behind the version and before the ranges
abbrev pub head_table : Table TextKind Exercise
head_table =
    Table.behind (Table.line kinds.Head kinds.Head (codes "mode") mode_row) (λ mode.
    Table.behind (Table.line kinds.Head kinds.Head (codes "voices") (number_row kinds.Word 2 most_voices)) (λ voices.
    Table.behind (Table.line kinds.Head kinds.Head (codes "bars") (number_row kinds.Bars 3 24)) (λ bars.
    parts_table mode voices bars)))

-- `fux V`: V is 1 or 2
abbrev pub version_table : Table TextKind ℕ
version_table = Table.line kinds.Head kinds.Head (codes "fux") (number_row kinds.Word 1 newest_version)
