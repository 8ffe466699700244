-- The lines of the canonical note text.
use Rattle.std.specs.Prelude.{ℕ, ◌-◌, ◌/◌, ◌%◌, ◌^◌, ◌==◌, List, [], ◌∷◌, ◌++◌, Bool, not, Option, Some, None, codes, filter, map, length}
use Rattle.std.specs.List.{flat_map, join_with_byte, range_with_len}
use Rattle.std.specs.Fmt.{decimal}
use Rattle.fux_pitch.specs.Modes.{mode_name}
use Rattle.fux_pitch.specs.Names.{name_of}
use Rattle.fux_grid.specs.declared.cell.Cell.{Cell}
use Rattle.fux_grid.specs.declared.exercise.Exercise.{Exercise}
use Rattle.fux_grid.specs.declared.exercise.RangeLine.{RangeLine}
use Rattle.fux_grid.specs.declared.exercise.Relax.{Relax}
use Rattle.fux_grid.specs.declared.exercise.VoiceSet.{VoiceSet}
use Rattle.fux_grid.specs.declared.given.GivenBar.{GivenBar}
use Rattle.fux_grid.specs.Columns.{line}
use Rattle.fux_grid.specs.Grid.{Grid}
use Rattle.fux_grid.specs.Letters.{bar_columns}
use Rattle.fux_text.specs.GivenItems.{given_items, given_word}
use Rattle.fux_text.specs.Items.{items_of_cells, item_word}
use Rattle.fux_text.specs.Words.{spaced, text_line, text_of}

-- the words of a version
abbrev pub version_words : ℕ → List (List ℕ)
version_words version = codes "fux" ∷ decimal version ∷ []

-- the version of what is written: the first, unless notes are given
abbrev pub version_of : List GivenBar → ℕ
version_of [] = 1
version_of (line ∷ lines) = 2

-- the lines between the version and the cantus
abbrev pub head_lines : Exercise → List (List (List ℕ))
head_lines ex =
    (codes "mode" ∷ mode_name ex.mode ∷ [])
    ∷ (codes "voices" ∷ decimal ex.voices ∷ [])
    ∷ (codes "bars" ∷ decimal ex.bars ∷ [])
    ∷ (codes "species" ∷ decimal ex.species ∷ codes "voice" ∷ decimal ex.species_voice ∷ [])
    ∷ []

-- the words of the cantus: its voice, and a pitch for each bar
abbrev pub cantus_words : Exercise → List (List ℕ)
cantus_words ex = codes "cantus" ∷ decimal ex.cantus_voice ∷ map name_of ex.cantus

-- the bars of a line, where it is of some bars alone
abbrev pub bars_words : Option (ℕ × ℕ) → List (List ℕ)
bars_words None = []
bars_words (Some bars) = decimal bars.0 ∷ decimal bars.1 ∷ []

-- the words of a range line
abbrev pub range_words : RangeLine → List (List ℕ)
range_words line = codes "range" ∷ decimal line.voice ∷ name_of line.low ∷ name_of line.high ∷ bars_words line.bars

-- a voice is in the set of these bits
abbrev pub has_voice : ℕ → ℕ → Bool
has_voice bits v = (bits / 2 ^ v) % 2 == 1

-- the voices of a relax line: all, or their numbers with commas between them
abbrev pub voices_word : Option VoiceSet → List ℕ
voices_word None = codes "all"
voices_word (Some set) = join_with_byte 44 (map decimal (filter (has_voice set.bits) (range_with_len 0 4)))

-- the words of a relax line
abbrev pub relax_words : Relax → List (List ℕ)
relax_words line = codes "relax" ∷ (codes "S" ++ decimal line.rule) ∷ voices_word line.voices ∷ decimal line.from
    ∷ decimal line.to ∷ decimal line.price ∷ []

-- the words of a bar that is given: its voice, its bar and its items
abbrev pub given_words : GivenBar → List (List ℕ)
given_words line = codes "given" ∷ decimal line.voice ∷ decimal line.bar ∷ map given_word (given_items line.cells)

-- the lines of an exercise in a version, up to those of the notes that it gives
abbrev pub lines_before_given : ℕ → Exercise → List (List (List ℕ))
lines_before_given version ex =
    (version_words version ∷ head_lines ex) ++ cantus_words ex ∷ map range_words ex.ranges ++ map relax_words ex.relax

-- the lines of an exercise, without a setting
abbrev pub exercise_lines : Exercise → List (List (List ℕ))
exercise_lines ex = lines_before_given (version_of ex.given) ex ++ map given_words ex.given

-- the bars of a list of columns
abbrev pub bars_of : List (List Cell) → List (List (List Cell))
bars_of columns = map (bar_columns columns) (range_with_len 1 (length columns / 8))

-- the words of a voice in a bar
abbrev pub bar_words : ℕ → List (List Cell) → List (List ℕ)
bar_words v bar = map item_word (items_of_cells (line v bar))

-- the words of bars, with the word `|` between each two
abbrev pub between_bar_lines : List (List (List ℕ)) → List (List ℕ)
between_bar_lines [] = []
between_bar_lines (bar ∷ bars) = bar ++ flat_map (λ other. codes "|" ∷ other) bars

-- the words of a voice in a setting
abbrev pub sing_words : ℕ → List (List Cell) → List (List ℕ)
sing_words v columns = codes "sing" ∷ decimal v ∷ between_bar_lines (map (bar_words v) (bars_of columns))

-- those of these voices that are free
abbrev pub free_among : Exercise → List ℕ → List ℕ
free_among ex voices = filter (λ v. not (v == ex.cantus_voice)) voices

-- the free voices, from the lowest
abbrev pub free_voices : Exercise → List ℕ
free_voices ex = free_among ex (range_with_len 0 ex.voices)

-- a bar line and the words of a voice for each bar but the first, with a space before each
abbrev pub later_bars_text : ℕ → List (List Cell) → List ℕ
later_bars_text v columns =
    flat_map (λ bar. spaced (codes "|" ∷ bar_words v (bar_columns columns bar)))
    (range_with_len 2 (length columns / 8 - 1))

-- the `sing` line of a voice
unfoldable pub sing_text : ℕ → List (List Cell) → List ℕ
sing_text v columns = text_line (sing_words v columns)

-- the `sing` lines of these voices
abbrev pub sing_texts : List (List Cell) → List ℕ → List ℕ
sing_texts columns voices = flat_map (λ v. sing_text v columns) voices

-- the text of an exercise up to the notes that it gives
unfoldable pub text_before_given : Exercise → List ℕ
text_before_given ex = text_of (lines_before_given (version_of ex.given) ex)

-- the text of an exercise, without a setting
unfoldable pub exercise_text : Exercise → List ℕ
exercise_text ex = text_of (exercise_lines ex)

-- the text of an exercise with a setting
unfoldable pub setting_text : Exercise → List (List Cell) → List ℕ
setting_text ex columns = exercise_text ex ++ sing_texts columns (free_voices ex)

-- the text of an exercise, with a setting or without
abbrev pub note_text : Exercise → Option Grid → List ℕ
note_text ex None = exercise_text ex
note_text ex (Some score) = setting_text ex score.columns
