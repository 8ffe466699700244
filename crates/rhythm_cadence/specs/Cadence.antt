-- S22: the cadence at the beginning of the last bar.
use Rattle.std.specs.Prelude.{ℕ, ◌+◌, ◌-◌, ◌%◌, ◌==◌, Bool, true, false, not, ◌&&◌, ◌||◌, nat_lt, List, [], ◌∷◌, Option, Some, None, if◌then◌else◌, slice_index_or, take}
use Rattle.std.specs.List.{list_all, list_any}
use Rattle.fux_pitch.specs.declared.pitch.Pitch.{Pitch}
use Rattle.fux_grid.specs.declared.cell.Cell.{Cell}
use Rattle.fux_grid.specs.declared.cell.Cell.TheVariants.{Rest}
use Rattle.fux_grid.specs.declared.cell.Note.{Note}
use Rattle.fux_grid.specs.declared.exercise.Exercise.{Exercise}
use Rattle.fux_grid.specs.Cells.{cell_in, is_hold, pitch_of}
use Rattle.fux_grid.specs.Exercises.{species_in}
use Rattle.rule_law.specs.Degrees.{lies_above}
use Rattle.rule_law.specs.Forms.{set_of_all}
use Rattle.rule_law.specs.Leading.{is_leading}
use Rattle.rule_law.specs.Places.{Row, at_once}
use Rattle.rule_law.specs.Bars.{bar_line_before}
use Rattle.rule_law.specs.Sounding.{sounding_note}
use Rattle.rule_law.specs.Terms.{degrees_without_sign, holds_of, interval_in, note_pitch, started_pitch, starts}
use Rattle.rhythm_cadence.specs.Rows.{begins_last_bar, holds_of_pitch, is_final}

-- the slot of the last bar but one on which the leading note starts, by the voice's species: the
-- cantus has species 1
abbrev pub leading_slot : ℕ → ℕ
leading_slot species = if species == 1 then 0 else (if species == 3 then 6 else 4)

-- a final, with the mode's letter and no alteration, starts in the cell
abbrev pub starts_final : Exercise → Cell → Bool
starts_final ex c = starts c && holds_of_pitch (is_final ex) (pitch_of c)

-- the note is the leading note one degree below the final, and it started on its slot of the bar
-- that begins at column `bar`
abbrev pub leads_to : Exercise → ℕ → ℕ → Option Pitch → Option Note → Bool
leads_to ex bar species final None = false
leads_to ex bar species final (Some note) =
    is_leading ex.mode note.pitch
    && lies_above 1 final (Some note.pitch)
    && (note.start == bar + leading_slot species)

-- leaving octaves out, a voice lies a seventh above the cantus, or a second below it
abbrev pub is_suspended : Exercise → List Cell → ℕ → Bool
is_suspended ex col v =
    holds_of (λ k. degrees_without_sign k % 7 == (if nat_lt ex.cantus_voice v then 6 else 1))
    (interval_in col v ex.cantus_voice)

-- at the beginning of a bar the voice holds a pitch one degree above the leading note, suspended so
abbrev pub holds_suspension : Exercise → List Cell → Option Pitch → ℕ → Bool
holds_suspension ex col lead v =
    is_hold (cell_in col v) && lies_above 1 (pitch_of (cell_in col v)) lead && is_suspended ex col v

-- species 4 and 5 prepare the leading note by a suspension
abbrev pub has_suspension : ℕ → Bool
has_suspension species = (species == 4) || (species == 5)

-- a voice shows its cadence at column i, the beginning of the last bar, after the bar that begins
-- at column `bar`: it starts the final there, its leading note leads to it from that bar, and in
-- species 4 and 5 that bar began with a suspension
abbrev pub shows_cadence : Exercise → ℕ → List (List Cell) → List Cell → ℕ → Bool
shows_cadence ex i behind now v =
    let bar = i - 8 in
    let species = species_in ex v in
    let final = pitch_of (cell_in now v) in
    let note = sounding_note v behind in
    starts_final ex (cell_in now v)
    && leads_to ex bar species final note
    && (if has_suspension species then holds_suspension ex (bar_line_before behind) (note_pitch note) v else true)

-- at the beginning of the last bar no voice, the cantus among them, shows its cadence
abbrev pub lacks_cadence : Exercise → ℕ → List (List Cell) → List Cell → Bool
lacks_cadence ex i behind now =
    begins_last_bar ex i
    && not (list_any (λ v. nat_lt v ex.voices && shows_cadence ex i behind now v) (0 ∷ 1 ∷ 2 ∷ 3 ∷ []))

-- S22, which is broken for the set of all voices
abbrev pub cadence_row : Exercise → ℕ → Row Bool
cadence_row ex voices i behind now ahead = (voices == set_of_all ex.voices) && lacks_cadence ex i behind now

-- it is settled at once
abbrev pub cadence_enough : Exercise → ℕ → Row Bool
cadence_enough ex voices = at_once

-- ---- the same from the cells of the bar before

-- the pitch of the note that is held in exactly so many of the newest cells, and started before
-- them
abbrev pub held_pitch : ℕ → List Cell → Option Pitch
held_pitch held cells =
    if list_all is_hold (take held cells) then started_pitch (slice_index_or cells held Rest) else None

-- the leading note one degree below the final
abbrev pub is_lead : Exercise → Option Pitch → Option Pitch → Bool
is_lead ex final lead =
    holds_of_pitch (λ p. is_leading ex.mode p && lies_above 1 final (Some p)) lead

-- a voice shows its cadence in the column now, by its cells in the bar before and by the column
-- that began that bar
abbrev pub ends_well : Exercise → List Cell → List Cell → List Cell → ℕ → Bool
ends_well ex start bar now v =
    let lead = held_pitch (7 - leading_slot (species_in ex v)) bar in
    starts_final ex (cell_in now v)
    && is_lead ex (pitch_of (cell_in now v)) lead
    && (if has_suspension (species_in ex v) then holds_suspension ex start lead v else true)
