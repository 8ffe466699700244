-- Whether a voice is the lesson's cantus: a whole note of its key in each bar, counted from 0.
use Rattle.std.specs.Prelude.{ℕ, ◌+◌, ◌*◌, ◌/◌, ◌%◌, ◌==◌, ◌&&◌, Bool, false, not, List, [], ◌∷◌, filter, nat_lt, Option, Some, None, if◌then◌else◌}
use Rattle.std.specs.List.{list_all}
use Rattle.fux_pitch.specs.declared.pitch.Pitch.{Pitch}
use Rattle.smf_score.specs.declared.fault.SmfFault.TheVariants.{NotWhole}
use Rattle.smf_score.specs.declared.placed.Placed.{Placed}
use Rattle.smf_score.specs.Written.{midi_key}
use Rattle.smf_score.specs.declared.join_fault.JoinFault.{JoinFault}
use Rattle.smf_score.specs.declared.join_fault.JoinFault.TheVariants.{Smf, OffGrid, Cantus}

-- the slot of its bar at which a note begins
abbrev pub begins_at : Placed → ℕ
begins_at note = note.start % 8

-- the notes begin at one place of their bars that isn't the first, as behind a pickup
abbrev pub are_late : List Placed → Bool
are_late [] = false
are_late (note ∷ notes) =
    not (begins_at note == 0) && list_all (λ other. begins_at other == begins_at note) notes

-- the notes that begin in a bar
abbrev pub in_bar : ℕ → List Placed → List Placed
in_bar bar notes = filter (λ note. note.start / 8 == bar) notes

-- what is wrong with a note that begins in a bar of a pitch: it begins late, or ends before the end
-- of the bar, or behind it, or has another key
abbrev pub note_fault : ℕ → Pitch → Placed → Option JoinFault
note_fault bar pitch note =
    if not (begins_at note == 0) then Some (OffGrid (bar + 1) (begins_at note))
    else (if nat_lt note.end (8 * bar + 8) then Some (OffGrid (bar + 1) (note.end % 8))
    else (if nat_lt (8 * bar + 8) note.end then Some (Smf (NotWhole (bar + 1)))
    else (if midi_key note.pitch == midi_key pitch then None else Some (Cantus (bar + 1)))))

-- what is wrong with the notes that begin in a bar: they aren't one, or that isn't right
abbrev pub bar_fault : ℕ → Pitch → List Placed → Option JoinFault
bar_fault bar pitch [] = Some (Smf (NotWhole (bar + 1)))
bar_fault bar pitch (note ∷ []) = note_fault bar pitch note
bar_fault bar pitch (note ∷ other ∷ notes) = Some (Smf (NotWhole (bar + 1)))

-- the first of two faults
abbrev pub or_then : Option JoinFault → Option JoinFault → Option JoinFault
or_then None later = later
or_then (Some fault) later = Some fault

-- the first fault of a voice as a cantus from a bar on
abbrev pub cantus_fault : ℕ → List Pitch → List Placed → Option JoinFault
cantus_fault bar [] notes = None
cantus_fault bar (pitch ∷ cantus) notes =
    or_then (bar_fault bar pitch (in_bar bar notes)) (cantus_fault (bar + 1) cantus notes)
