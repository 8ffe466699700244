-- The bytes of a written file.
use Rattle.std.specs.Prelude.{ℕ, zero, suc, ◌+◌, ◌-◌, ◌*◌, ◌/◌, ◌%◌, List, [], ◌∷◌, ◌++◌, length, nat_lt, unsigned_abs, if◌then◌else◌}
use Rattle.std.specs.Int.{w16, w32, to_be_bytes}
use Rattle.fux_pitch.specs.declared.pitch.Pitch.{Pitch}
use Rattle.fux_pitch.specs.Pitch.{key_of}
use Rattle.fux_grid.specs.declared.cell.Cell.{Cell}
use Rattle.fux_grid.specs.declared.cell.Note.{Note}
use Rattle.fux_grid.specs.Columns.{line}
use Rattle.fux_grid.specs.Grid.{Grid}
use Rattle.smf_score.specs.declared.written.TheConstants.{HEADER, TRACK}
use Rattle.smf_score.specs.Lines.{notes_of}

-- the key of a pitch as a number
abbrev pub midi_key : Pitch → ℕ
midi_key p = unsigned_abs (key_of p)

-- a quantity below 2 ^ 21 with the fewest bytes, seven bits in each, the top bit set in all but the
-- last
abbrev pub quantity : ℕ → List ℕ
quantity n =
    if nat_lt n 128 then n % 128 ∷ []
    else (if nat_lt n 16384 then (128 + n / 128) ∷ n % 128 ∷ []
    else (128 + n / 16384) ∷ (128 + n / 128 % 128) ∷ n % 128 ∷ [])

-- a chunk is its type, its length and its bytes
abbrev pub chunk_bytes : ℕ → List ℕ → List ℕ
chunk_bytes kind bytes = to_be_bytes w32 kind ++ to_be_bytes w32 (length bytes) ++ bytes

-- a message with this status of a key, so many slots after the one before it, at 240 ticks a slot
abbrev pub key_bytes : ℕ → ℕ → ℕ → List ℕ
key_bytes wait status key = quantity (240 * wait) ++ status ∷ key ∷ 0x40 ∷ []

-- a key is struck so many slots after the note before, and let go so many slots later
abbrev pub note_bytes : ℕ → ℕ → ℕ → ℕ → List ℕ
note_bytes v wait len key = key_bytes wait (0x90 + v) key ++ key_bytes len (0x80 + v) key

-- notes of a voice, of which the one before ends at a column
abbrev pub notes_bytes : ℕ → ℕ → List Note → List ℕ
notes_bytes v ended [] = []
notes_bytes v ended (note ∷ notes) =
    note_bytes v (note.start - ended) note.len (midi_key note.pitch)
    ++ notes_bytes v (note.start + note.len) notes

-- the end of a track, at once
abbrev pub end_bytes : List ℕ
end_bytes = 0 ∷ 0xFF ∷ 0x2F ∷ 0 ∷ []

-- the track of a voice
abbrev pub track_bytes : List (List Cell) → ℕ → List ℕ
track_bytes columns v = chunk_bytes TRACK (notes_bytes v 0 (notes_of 0 (line v columns)) ++ end_bytes)

-- the tracks of so many voices from one on
abbrev pub tracks_bytes : List (List Cell) → ℕ → ℕ → List ℕ
tracks_bytes columns v zero = []
tracks_bytes columns v (suc more) = track_bytes columns v ++ tracks_bytes columns (suc v) more

-- the header: format 1, so many tracks, and 480 ticks for a quarter note
abbrev pub header_bytes : ℕ → List ℕ
header_bytes tracks =
    chunk_bytes HEADER (to_be_bytes w16 1 ++ to_be_bytes w16 tracks ++ to_be_bytes w16 480)

-- the first track: half a second for a quarter note, and a bar of four
abbrev pub tempo_bytes : List ℕ
tempo_bytes = chunk_bytes TRACK
    (0 ∷ 0xFF ∷ 0x51 ∷ 3 ∷ 0x07 ∷ 0xA1 ∷ 0x20 ∷ 0 ∷ 0xFF ∷ 0x58 ∷ 4 ∷ 4 ∷ 2 ∷ 24 ∷ 8 ∷ end_bytes)

-- the file of a score: a track of its tempo, and one for each voice from the lowest
abbrev pub smf_of : Grid → List ℕ
smf_of score =
    header_bytes (score.voices + 1) ++ tempo_bytes ++ tracks_bytes score.columns 0 score.voices
