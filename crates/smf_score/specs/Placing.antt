-- The notes of a file by voices on the grid, or the first one that is at fault.
use Rattle.std.specs.Prelude.{ℕ, ◌+◌, ◌*◌, ◌/◌, ◌==◌, Bool, List, [], ◌∷◌, Option, Some, None, Result, Ok, Err, max, nat_le, nat_lt, if◌then◌else◌}
use Rattle.std.specs.List.{list_any}
use Rattle.fux_pitch.specs.declared.pitch.Pitch.{Pitch}
use Rattle.fux_pitch.specs.Spelling.{spelled}
use Rattle.smf_score.specs.declared.fault.SmfFault.{SmfFault}
use Rattle.smf_score.specs.declared.fault.SmfFault.TheVariants.{Key, ZeroNote, Overlap}
use Rattle.smf_score.specs.declared.placed.Placed.{Placed}
use Rattle.smf_score.specs.declared.played.Played.{Played}
use Rattle.smf_score.specs.Faults.{each}

-- a note joins the first voice of those behind it if that has its rank, or else is a voice of its
-- own
abbrev pub joined : Played → List (List Played) → List (List Played)
joined note [] = (note ∷ []) ∷ []
joined note ([] ∷ voices) = (note ∷ []) ∷ voices
joined note ((next ∷ voice) ∷ voices) =
    if next.rank == note.rank then (note ∷ next ∷ voice) ∷ voices else (note ∷ []) ∷ (next ∷ voice) ∷ voices

-- the voices of notes in order
abbrev pub voices_of : List Played → List (List Played)
voices_of [] = []
voices_of (note ∷ notes) = joined note (voices_of notes)

-- the slot of a tick: the nearest one, the later of two; a slot is half a quarter note
abbrev pub slot_of : ℕ → ℕ → ℕ
slot_of division tick = (4 * tick + division) / (2 * division)

-- a note starts before the end of an earlier one of its voice
abbrev pub is_overlap : ℕ → List Played → Played → Bool
is_overlap division notes note =
    list_any (λ earlier. nat_lt (slot_of division note.start) (slot_of division earlier.end)) notes

-- where the last of some notes has ended
abbrev pub latest : ℕ → List Played → ℕ
latest division [] = 0
latest division (note ∷ notes) = max (latest division notes) (slot_of division note.end)

-- a note with the pitch that its key is spelled as, which overlaps an earlier one or doesn't
abbrev pub place_spelled : ℕ → Bool → Played → Option Pitch → Result Placed SmfFault
place_spelled division overlaps note None = Err (Key note.track note.start)
place_spelled division overlaps note (Some pitch) =
    if nat_le (slot_of division note.end) (slot_of division note.start) then Err (ZeroNote note.track note.start)
    else (if overlaps then Err (Overlap note.track note.start)
    else Ok (record { start = slot_of division note.start; end = slot_of division note.end; pitch = pitch }))

-- a note behind earlier ones of its voice
abbrev pub note_placed : ℕ → List Played × Played → Result Placed SmfFault
note_placed division (earlier, note) =
    place_spelled division (is_overlap division earlier note) note (spelled note.key)

-- notes, each with the earlier ones, the newest first
abbrev pub with_earlier : List Played → List Played → List (List Played × Played)
with_earlier earlier [] = []
with_earlier earlier (note ∷ notes) = (earlier, note) ∷ with_earlier (note ∷ earlier) notes

-- the notes of a voice on the grid, or the first one that is at fault
abbrev pub voice_placed : ℕ → List Played → Result (List Placed) SmfFault
voice_placed division notes = each (note_placed division) (with_earlier [] notes)

-- the notes of one voice after the other
abbrev pub voices_placed : ℕ → List (List Played) → Result (List (List Placed)) SmfFault
voices_placed division voices = each (voice_placed division) voices
