-- What an answer has otherwise than the lesson that it is to answer.
use Rattle.std.specs.Prelude.{ℕ, ◌+◌, ◌-◌, ◌*◌, ◌==◌, ◌&&◌, Bool, not, List, [], ◌∷◌, ◌++◌, min, filter, map, slice_get, slice_index_or}
use Rattle.std.specs.Cmp.Lexicographic.{pointwise}
use Rattle.std.specs.List.{flat_map, list_all, range_with_len}
use Rattle.std.specs.Option.{option_eq}
use Rattle.fux_pitch.specs.declared.pitch.Pitch.{Pitch}
use Rattle.fux_pitch.specs.Modes.{final_of}
use Rattle.fux_pitch.specs.Pitch.{same_pitch}
use Rattle.fux_grid.specs.declared.cell.Cell.{Cell}
use Rattle.fux_grid.specs.declared.exercise.Exercise.{Exercise}
use Rattle.fux_grid.specs.declared.exercise.Relax.{Relax}
use Rattle.fux_grid.specs.declared.exercise.VoiceSet.{VoiceSet}
use Rattle.fux_grid.specs.Cells.{cell_in}
use Rattle.fux_grid.specs.Exercises.{given_at}
use Rattle.fux_grid.specs.Givens.{fits}
use Rattle.fux_grid.specs.Menus.{range_of}
use Rattle.class_marker.specs.declared.difference.Difference.{Difference}
use Rattle.class_marker.specs.declared.difference.Difference.TheVariants.{Mode, Voices, Bars, Species, CantusVoice, Cantus, Range, Relax as RelaxLines, Given}

-- ---- what is compared

-- the mode, by its final
abbrev pub same_mode : Exercise → Exercise → Bool
same_mode lesson answer = final_of lesson.mode == final_of answer.mode

-- the species, and the voice that has it
abbrev pub same_species : Exercise → Exercise → Bool
same_species lesson answer =
    (lesson.species == answer.species) && (lesson.species_voice == answer.species_voice)

-- the pitch of the cantus in a bar
abbrev pub same_cantus : Exercise → Exercise → ℕ → Bool
same_cantus lesson answer bar =
    option_eq same_pitch (slice_get lesson.cantus (bar - 1)) (slice_get answer.cantus (bar - 1))

-- the low and the high end of a range
abbrev pub same_ends : Pitch × Pitch → Pitch × Pitch → Bool
same_ends ends others = same_pitch ends.0 others.0 && same_pitch ends.1 others.1

-- the range of a voice in a bar
abbrev pub same_range : Exercise → Exercise → ℕ → ℕ → Bool
same_range lesson answer v bar = option_eq same_ends (range_of lesson v bar) (range_of answer v bar)

-- a voice is the cantus in neither
abbrev pub is_free_in_both : Exercise → Exercise → ℕ → Bool
is_free_in_both lesson answer v = not (v == lesson.cantus_voice) && not (v == answer.cantus_voice)

abbrev pub same_set : VoiceSet → VoiceSet → Bool
same_set set other = set.bits == other.bits

-- a relax line: its rule, its voices, its bars and its price
abbrev pub same_relax : Relax → Relax → Bool
same_relax line other =
    (line.rule == other.rule) && option_eq same_set line.voices other.voices && (line.from == other.from)
    && (line.to == other.to) && (line.price == other.price)

abbrev pub same_relax_lines : Exercise → Exercise → Bool
same_relax_lines lesson answer = pointwise same_relax lesson.relax answer.relax

-- the column of a slot of a bar
abbrev pub column_of : ℕ → ℕ → ℕ
column_of bar slot = 8 * (bar - 1) + slot

-- what is sung at a slot of a voice's bar fits what the lesson gives there
abbrev pub fits_at : Exercise → List (List Cell) → ℕ → ℕ → ℕ → Bool
fits_at lesson s v bar slot =
    fits (given_at lesson (column_of bar slot) v) (cell_in (slice_index_or s (column_of bar slot) []) v)

-- and so at each of its eight slots
unfoldable pub fits_in_bar : Exercise → List (List Cell) → ℕ → ℕ → Bool
fits_in_bar lesson s v bar = list_all (fits_at lesson s v bar) (range_with_len 0 8)

-- ---- what differs

-- an answer with these columns of its setting has this otherwise than the lesson
abbrev pub differs : Exercise → Exercise → List (List Cell) → Difference → Bool
differs lesson answer s Mode = not (same_mode lesson answer)
differs lesson answer s Voices = not (lesson.voices == answer.voices)
differs lesson answer s Bars = not (lesson.bars == answer.bars)
differs lesson answer s Species = not (same_species lesson answer)
differs lesson answer s CantusVoice = not (lesson.cantus_voice == answer.cantus_voice)
differs lesson answer s (Cantus bar) = not (same_cantus lesson answer bar)
differs lesson answer s (Range v bar) = is_free_in_both lesson answer v && not (same_range lesson answer v bar)
differs lesson answer s RelaxLines = not (same_relax_lines lesson answer)
differs lesson answer s (Given v bar) = not (fits_in_bar lesson s v bar)

-- the bars that both have, from 1 on, and the voices that both have, from 0 on
abbrev pub common_bars : Exercise → Exercise → List ℕ
common_bars lesson answer = range_with_len 1 (min lesson.bars answer.bars)

abbrev pub common_voices : Exercise → Exercise → List ℕ
common_voices lesson answer = range_with_len 0 (min lesson.voices answer.voices)

-- a difference for each of these bars of each of these voices, by voice and then by bar
abbrev pub in_each_bar : (ℕ → ℕ → Difference) → List ℕ → List ℕ → List Difference
in_each_bar told voices bars = flat_map (λ v. map (told v) bars) voices

-- all that can differ, in the order of telling
abbrev pub all_differences : List ℕ → List ℕ → List Difference
all_differences voices bars =
    (Mode ∷ Voices ∷ Bars ∷ Species ∷ CantusVoice ∷ []) ++ map (λ bar. Cantus bar) bars
    ++ in_each_bar (λ v bar. Range v bar) voices bars ++ (RelaxLines ∷ [])
    ++ in_each_bar (λ v bar. Given v bar) voices bars

-- what does differ
abbrev pub differences : Exercise → Exercise → List (List Cell) → List Difference
differences lesson answer s =
    filter (differs lesson answer s) (all_differences (common_voices lesson answer) (common_bars lesson answer))
