-- The marks of a cantus firmus, read as a voice of species 1 by itself.
use Rattle.std.specs.Prelude.{◌≡◌, ◌↔◌, ℕ, zero, suc, ◌/◌, ◌<◌, ◌^◌, ◌==◌, Bool, not, ◌&&◌, List, [], ◌∷◌, IsTrue, AllPairs, Contains, Option, slice_get, if◌then◌else◌}
use Rattle.std.specs.Option.{option_map_or}
use Rattle.fux_pitch.specs.declared.pitch.Pitch.{Pitch}
use Rattle.fux_grid.specs.declared.cell.Cell.{Cell}
use Rattle.fux_grid.specs.declared.cell.Cell.TheVariants.{Rest}
use Rattle.fux_grid.specs.declared.exercise.Exercise.{Exercise}
use Rattle.fux_grid.specs.Cells.{pitch_of}
use Rattle.fux_grid.specs.Exercises.{bar_of, slot_of, columns_in, cantus_cell}
use Rattle.rule_law.specs.Terms.{holds_of, move_from, previous_pitch, is_step, falls}
use Rattle.melody_rules.specs.declared.notes.VoiceNotes.{VoiceNotes}
use Rattle.melody_rules.specs.Notes.{IsNotesOf}
use Rattle.melody_rules.specs.Rows.{moves_unmelodically, window_rule, pitches}
use Rattle.rhythm_cadence.specs.Rows.{holds_of_pitch, begins_last_bar, is_final, leaves_gamut}
use Rattle.score_marker.specs.declared.mark.Mark.{Mark}
use Rattle.score_marker.specs.Lists.{marks_of_place}
use Rattle.score_marker.specs.Marks.{IsBefore}

-- the cell of the cantus at a column: its pitch of the bar starts at slot 0 and is held elsewhere
abbrev pub cantus_at : Exercise → ℕ → Cell
cantus_at ex i = option_map_or (cantus_cell i) (slice_get ex.cantus (i / 8)) Rest

-- the line of the cantus before a column, from the newest cell to the oldest
abbrev pub cantus_before : Exercise → ℕ → List Cell
cantus_before ex zero = []
cantus_before ex (suc i) = cantus_at ex i ∷ cantus_before ex i

-- the cell isn't the mode's final
abbrev pub is_not_final : Exercise → Cell → Bool
is_not_final ex now = not (holds_of_pitch (is_final ex) (pitch_of now))

-- K1: at the first column the cantus isn't on the final
abbrev pub begins_elsewhere : Exercise → ℕ → Cell → Bool
begins_elsewhere ex i now = (i == 0) && is_not_final ex now

-- K2: at the beginning of the last bar it isn't
abbrev pub ends_elsewhere : Exercise → ℕ → Cell → Bool
ends_elsewhere ex i now = begins_last_bar ex i && is_not_final ex now

-- K3: it doesn't come there by a step that falls
abbrev pub ends_without_step : Exercise → ℕ → Option Pitch → Cell → Bool
ends_without_step ex i previous now =
    begins_last_bar ex i && not (holds_of (λ move. is_step move && falls move) (move_from previous now))

-- the rules of a cantus: of those of single voices S2, S4 and S6 to S9, and its own forms K1 to K3
-- by the numbers 31 to 33
unfoldable pub cantus_rules : List ℕ
cantus_rules = 2 ∷ 4 ∷ 6 ∷ 7 ∷ 8 ∷ 9 ∷ 31 ∷ 32 ∷ 33 ∷ []

-- such a rule, at a column with the line before it and its cell
abbrev pub cantus_rule : ℕ → Exercise → ℕ → List Cell → Cell → Bool
cantus_rule rule ex i before now =
    if rule == 2 then leaves_gamut ex i now
    else (if rule == 4 then moves_unmelodically (previous_pitch before) now
    else (if rule == 31 then begins_elsewhere ex i now
    else (if rule == 32 then ends_elsewhere ex i now
    else (if rule == 33 then ends_without_step ex i (previous_pitch before) now
    else window_rule rule (pitches before) now))))

-- the marks of the cantus at a column with the line before it and its cell
abbrev pub cantus_marks_at : Exercise → ℕ → List Cell → Cell → List Mark
cantus_marks_at ex i before now =
    marks_of_place (λ j rule voices. cantus_rule rule ex j before now) (2 ^ ex.cantus_voice ∷ []) cantus_rules i

-- this holds of each line of which these are the notes
abbrev pub OfEachLine : VoiceNotes → (List Cell → Type 0) → Type 0
OfEachLine notes Holds = (cells : List Cell) → IsNotesOf cells notes → Holds cells

-- the cantus breaks the rule at a column
abbrev pub is_cantus_broken : ℕ → Exercise → ℕ → Bool
is_cantus_broken rule ex i = cantus_rule rule ex i (cantus_before ex i) (cantus_at ex i)

-- the mark of a break of the cantus, at any of its columns
pub record IsCantusBreak (ex : Exercise) (mark : Mark) : Type 0 where
  pub place : ℕ
  pub there : place < columns_in ex
  pub bar : mark.bar ≡ bar_of place
  pub slot : mark.slot ≡ slot_of place
  pub rule : Contains cantus_rules mark.rule
  pub voices : mark.voices.bits ≡ 2 ^ ex.cantus_voice
  pub broken : IsTrue (is_cantus_broken mark.rule ex place)

-- the marks of the cantus: exactly its breaks, each before all later ones
pub record AreCantusMarks (ex : Exercise) (marks : List Mark) : Type 0 where
  pub each : (mark : Mark) → Contains marks mark ↔ IsCantusBreak ex mark
  pub ascend : AllPairs IsBefore marks

-- no two lists are the marks of one cantus
abbrev pub CantusMarksAreOne : Type 0
CantusMarksAreOne = (ex : Exercise) (a b : List Mark) → AreCantusMarks ex a → AreCantusMarks ex b → a ≡ b
