-- Notes that are held to most of their places.
use Rattle.std.specs.Prelude.{ℕ, ◌-◌, ◌*◌, List, [], ◌∷◌, max, nat_le, if◌then◌else◌}
use Rattle.smf_score.specs.declared.played.Played.{Played}

-- where the place of a note ends: where the next one of its voice starts, or else all does
abbrev pub place_end : ℕ → List Played → ℕ
place_end over [] = over
place_end over (next ∷ notes) = next.start

-- a note whose place ends at a tick: held up to that, if it is held to seven tenths of its place
abbrev pub held_to : ℕ → Played → Played
held_to over note =
    if nat_le (7 * (over - note.start)) (10 * (note.end - note.start)) then record note { end = max note.end over }
    else note

-- the notes of a voice, where all ends at a tick
abbrev pub held_out : ℕ → List Played → List Played
held_out over [] = []
held_out over (note ∷ notes) = held_to (place_end over notes) note ∷ held_out over notes
