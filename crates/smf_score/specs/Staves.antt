-- The voices of a file: its tracks, or its channels in format 0; or where several voices share one,
-- the notes of that told apart, the higher ones being of the upper voice.
use Rattle.std.specs.Prelude.{ℕ, zero, suc, ◌*◌, ◌==◌, ◌&&◌, Bool, false, not, List, [], ◌∷◌, ◌++◌, filter, length, map, nat_le, nat_lt, reverse, Result, Ok, if◌then◌else◌}
use Rattle.std.specs.List.{list_any}
use Rattle.std.specs.Option.{option_map_or}
use Rattle.fux_grid.specs.declared.exercise.Exercise.{Exercise}
use Rattle.smf_score.specs.declared.fault.SmfFault.{SmfFault}
use Rattle.smf_score.specs.declared.placed.Placed.{Placed}
use Rattle.smf_score.specs.declared.played.Played.{Played}
use Rattle.smf_score.specs.Faults.{◌>>=◌}
use Rattle.smf_score.specs.Placing.{slot_of, voices_of, voices_placed}
use Rattle.smf_score.specs.Legato.{held_out}
use Rattle.smf_score.specs.Orders.{only, sounding}

-- ---- voices that share a track

-- two notes sound together on the grid
abbrev pub sound_together : ℕ → Played → Played → Bool
sound_together division a b =
    nat_lt (slot_of division a.start) (slot_of division b.end)
    && nat_lt (slot_of division b.start) (slot_of division a.end)

-- a lower one of some notes sounds together with a note
abbrev pub is_upper : ℕ → List Played → Played → Bool
is_upper division notes note =
    list_any (λ other. nat_lt other.key note.key && sound_together division other note) notes

-- the notes together with which no lower one sounds, and the others
abbrev pub lowest : ℕ → List Played → List Played
lowest division notes = filter (λ note. not (is_upper division notes note)) notes

abbrev pub above : ℕ → List Played → List Played
above division notes = filter (λ note. is_upper division notes note) notes

-- the voices of the notes of a track, from the lowest on: the notes together with which no lower
-- one sounds, and the voices of the others; behind so many voices the others are one more
abbrev pub told_apart : ℕ → ℕ → List Played → List (List Played)
told_apart most division [] = []
told_apart zero division (note ∷ notes) = (note ∷ notes) ∷ []
told_apart (suc most) division (note ∷ notes) =
    lowest division (note ∷ notes) ∷ told_apart most division (above division (note ∷ notes))

-- those of one track after the other
abbrev pub all_apart : ℕ → ℕ → List (List Played) → List (List Played)
all_apart most division [] = []
all_apart most division (track ∷ tracks) = told_apart most division track ++ all_apart most division tracks

-- voices of the lesson share tracks: there are fewer tracks than voices, so many notes in all, no
-- more than the lesson has slots, and told apart they are as many voices as the lesson has
abbrev pub are_shared : Exercise → ℕ → ℕ → List (List Played) → Bool
are_shared lesson division notes tracks =
    nat_lt (length tracks) lesson.voices
    && nat_le notes (8 * lesson.bars * lesson.voices)
    && (length (all_apart lesson.voices division tracks) == lesson.voices)

-- ---- the voices on the grid

-- the notes of voices on the grid, held to the end of their places or as they are
abbrev pub placed_held : Exercise → Bool → ℕ → List (List Played) → Result (List (List Placed)) SmfFault
placed_held lesson legato division voices =
    voices_placed division (if legato then map (held_out (4 * division * lesson.bars)) voices else voices)

-- the cantus sounds in one voice alone, the one of its number
abbrev pub is_in_place : Exercise → List (List Placed) → Bool
is_in_place lesson voices =
    option_map_or (λ v. v == lesson.cantus_voice) (only (sounding lesson.cantus voices)) false

-- the voices of tracks in their order; or the other way round, if the cantus has its place in that
-- alone
abbrev pub upright : Exercise → List (List Placed) → List (List Placed) → List (List Placed)
upright lesson voices turned =
    if is_in_place lesson turned && not (is_in_place lesson voices) then turned else voices

-- the voices that share tracks
abbrev pub placed_apart : Exercise → Bool → ℕ → List (List Played) → Result (List (List Placed)) SmfFault
placed_apart lesson legato division tracks = do
  voices ← placed_held lesson legato division (all_apart lesson.voices division tracks)
  turned ← placed_held lesson legato division (all_apart lesson.voices division (reverse tracks))
  Ok (upright lesson voices turned)

-- the voices of tracks with so many notes: those that share them, or else the tracks themselves
abbrev pub placed_tracks : Exercise → Bool → ℕ → ℕ → List (List Played) → Result (List (List Placed)) SmfFault
placed_tracks lesson legato division notes tracks =
    if are_shared lesson division notes tracks then placed_apart lesson legato division tracks
    else placed_held lesson legato division tracks

-- the voices of notes in order
abbrev pub voices_heard : Exercise → Bool → ℕ → List Played → Result (List (List Placed)) SmfFault
voices_heard lesson legato division notes = placed_tracks lesson legato division (length notes) (voices_of notes)
