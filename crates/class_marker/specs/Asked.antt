-- The sentences that tell what an exercise asks.
use Rattle.std.specs.Prelude.{ℕ, ◌+◌, ◌/◌, Bool, true, false, not, List, [], ◌∷◌, ◌++◌, Option, Some, None, codes, filter, if◌then◌else◌}
use Rattle.std.specs.Fmt.{decimal}
use Rattle.std.specs.List.{flat_map, range_with_len}
use Rattle.fux_pitch.specs.declared.mode.Mode.{Mode}
use Rattle.fux_pitch.specs.Modes.{mode_name}
use Rattle.fux_pitch.specs.declared.pitch.Pitch.{Pitch}
use Rattle.fux_pitch.specs.Names.{name_of}
use Rattle.fux_grid.specs.declared.exercise.Exercise.{Exercise}
use Rattle.fux_grid.specs.declared.exercise.RangeLine.{RangeLine}
use Rattle.fux_grid.specs.declared.exercise.Relax.{Relax}
use Rattle.fux_grid.specs.declared.exercise.VoiceSet.{VoiceSet}
use Rattle.fux_grid.specs.declared.given.Given.{Given}
use Rattle.fux_grid.specs.declared.given.Given.TheVariants.{Blank, Rest, Tied, Hold, Start}
use Rattle.fux_grid.specs.declared.given.GivenBar.{GivenBar}
use Rattle.fux_grid.specs.Exercises.{species_in}
use Rattle.rule_law.specs.Voices.{is_free}
use Rattle.score_marker.specs.Marks.{voices_in}
use Rattle.class_marker.specs.Words.{half_beat, part_name}

-- the mode
unfoldable pub mode_told : Mode → List ℕ
mode_told mode = codes "The exercise is in the " ++ mode_name mode ++ codes " mode.\n"

-- how many bars and voices there are
unfoldable pub extent_told : Exercise → List ℕ
extent_told ex =
    codes "It has " ++ decimal ex.bars ++ codes " bars and " ++ decimal ex.voices
    ++ codes " voices.\n"

-- pitches, each behind a space
abbrev pub pitches_text : List Pitch → List ℕ
pitches_text pitches = flat_map (λ p. codes " " ++ name_of p) pitches

-- the cantus firmus
unfoldable pub cantus_told : Exercise → List ℕ
cantus_told ex =
    codes "The cantus firmus is the " ++ part_name ex.voices ex.cantus_voice ++ codes " voice:"
    ++ pitches_text ex.cantus ++ 10 ∷ []

-- the species of a voice
unfoldable pub species_sentence : Exercise → ℕ → List ℕ
species_sentence ex v =
    codes "The " ++ part_name ex.voices v ++ codes " voice is to be written in species "
    ++ decimal (species_in ex v) ++ codes ".\n"

-- those of the free voices, from the lowest
abbrev pub species_sentences : Exercise → List ℕ
species_sentences ex =
    flat_map (species_sentence ex) (filter (is_free ex) (range_with_len 0 ex.voices))

-- the bars of a range, where it isn't that of all bars, and the end of its line
abbrev pub bars_words : Option (ℕ × ℕ) → List ℕ
bars_words None = codes ".\n"
bars_words (Some bars) =
    codes " in bars " ++ decimal bars.0 ++ codes " to " ++ decimal bars.1 ++ codes ".\n"

-- the two ends of a range
unfoldable pub ends_words : Pitch → Pitch → List ℕ
ends_words low high = name_of low ++ codes " to " ++ name_of high

-- a range
unfoldable pub range_sentence : ℕ → RangeLine → List ℕ
range_sentence voices line =
    codes "The range of the " ++ part_name voices line.voice ++ codes " voice is "
    ++ ends_words line.low line.high ++ bars_words line.bars

-- all ranges
abbrev pub range_sentences : Exercise → List ℕ
range_sentences ex = flat_map (range_sentence ex.voices) ex.ranges

-- what is given of a cell
abbrev pub is_rest : Given → Bool
is_rest Rest = true
is_rest Blank = false
is_rest Tied = false
is_rest (Hold p) = false
is_rest (Start p) = false

abbrev pub is_tie : Given → Bool
is_tie Tied = true
is_tie Blank = false
is_tie Rest = false
is_tie (Hold p) = false
is_tie (Start p) = false

-- a cell that is given behind another is told of: a note where it starts, rests and a tie where
-- they begin
abbrev pub is_told : Given → Given → Bool
is_told before Blank = false
is_told before (Hold p) = false
is_told before (Start p) = true
is_told before Rest = not (is_rest before)
is_told before Tied = not (is_tie before)

-- what is told of it
abbrev pub given_words : Given → List ℕ
given_words (Start p) = codes "has " ++ name_of p
given_words Rest = codes "rests"
given_words Tied = codes "goes on with its note"
given_words Blank = []
given_words (Hold p) = []

-- the sentence of a cell of a bar that is given
unfoldable pub given_sentence : ℕ → GivenBar → ℕ → Given → List ℕ
given_sentence voices line slot given =
    codes "In bar " ++ decimal line.bar ++ codes " on beat " ++ decimal (slot / 2 + 1)
    ++ half_beat slot ++ codes " the " ++ part_name voices line.voice ++ codes " voice "
    ++ given_words given ++ codes ".\n"

-- where it is told of
abbrev pub given_told : ℕ → GivenBar → Given → ℕ → Given → List ℕ
given_told voices line before slot given =
    if is_told before given then given_sentence voices line slot given else []

-- those of the cells from a slot on, behind another cell
abbrev pub given_from : ℕ → GivenBar → Given → ℕ → List Given → List ℕ
given_from voices line before slot [] = []
given_from voices line before slot (given ∷ later) =
    given_told voices line before slot given ++ given_from voices line given (slot + 1) later

-- those of all bars that are given
abbrev pub given_sentences : Exercise → List ℕ
given_sentences ex = flat_map (λ line. given_from ex.voices line Blank 0 line.cells) ex.given

-- the names of voices, each behind a space
abbrev pub names_text : ℕ → List ℕ → List ℕ
names_text voices set = flat_map (λ v. codes " " ++ part_name voices v) set

-- the voices of a relax line
abbrev pub relaxed_voices : ℕ → Option VoiceSet → List ℕ
relaxed_voices voices None = codes " for any voices"
relaxed_voices voices (Some set) =
    codes " for these voices:" ++ names_text voices (voices_in set.bits)

-- words, and a number behind them
abbrev pub told : List ℕ → ℕ → List ℕ
told words n = words ++ decimal n

-- the rule, the bars and the price of a relax line
unfoldable pub relax_words : Relax → List ℕ
relax_words line =
    told (codes "S") line.rule ++ told (codes " may be broken in bars ") line.from
    ++ told (codes " to ") line.to ++ told (codes " at a price of ") line.price

-- a rule that is relaxed
unfoldable pub relax_sentence : ℕ → Relax → List ℕ
relax_sentence voices line =
    relax_words line ++ relaxed_voices voices line.voices ++ codes ".\n"

-- all of them
abbrev pub relax_sentences : Exercise → List ℕ
relax_sentences ex = flat_map (relax_sentence ex.voices) ex.relax

-- what an exercise asks
abbrev pub asked_text : Exercise → List ℕ
asked_text ex =
    mode_told ex.mode ++ extent_told ex ++ cantus_told ex ++ species_sentences ex
    ++ range_sentences ex ++ given_sentences ex ++ relax_sentences ex
