-- The file that is written of a score is one whose events play the score's notes (`file_back`), and
-- whose other events are those of the tempo and of the meter (`tempo_meant`).
use Rattle.std.proofs.Common.{◌≡◌, ℕ, zero, suc, ◌+◌, ◌-◌, ◌*◌, ◌/◌, ◌%◌, ◌<◌, ◌≤◌, ◌^◌, false, List, [], ◌∷◌, ◌++◌, length, map, Option, Some, None, Ok, refl, sym, arith, inl, inr, ne_eqb, append_assoc, add-one, subst}
use Rattle.std.proofs.lemmas.Bool.{eq-eqb, le-ltb, lt-ltb}
use Rattle.std.proofs.lemmas.Int.{ints}
use Rattle.std.proofs.lemmas.List.{length-append, length-map}
use Rattle.std.specs.Prelude.{ℤ, pos, negsuc, ◌≤ℤ◌, ◌==◌, Err, if◌then◌else◌, unsigned_abs}
use Rattle.fux_pitch.specs.declared.pitch.Pitch.{Pitch}
use Rattle.fux_pitch.specs.Pitch.{key_of}
use Rattle.fux_grid.specs.declared.cell.Cell.{Cell}
use Rattle.fux_grid.specs.declared.cell.Cell.TheVariants.{Rest, Hold, Start}
use Rattle.fux_grid.specs.declared.cell.Note.{Note}
use Rattle.fux_grid.specs.Cells.{cell_in}
use Rattle.fux_grid.specs.Columns.{line}
use Rattle.fux_grid.specs.Grid.{Grid}
use Rattle.smf_bytes.specs.declared.chunks.Header.{Header}
use Rattle.smf_bytes.specs.Rows.{IsRow}
use Rattle.smf_bytes.specs.Messages.{Event, Message, Off, On, Other, Meta, System, ends_track, event_row, two_byte_message}
use Rattle.smf_bytes.specs.Events.{Answers, Left, begun, event_then, left_behind}
use Rattle.smf_bytes.specs.Files.{AreOfTrack, AreOfTracks, IsFile, IsHeader, IsNext}
use Rattle.smf_score.specs.declared.played.Layout.{Layout}
use Rattle.smf_score.specs.declared.played.Played.{Played}
use Rattle.smf_score.specs.declared.strokes.Stroke.{Stroke}
use Rattle.smf_score.specs.declared.written.TheConstants.{TRACK}
use Rattle.smf_score.specs.Lines.{holds_ahead, notes_of}
use Rattle.smf_score.specs.Played.{notes_in, played}
use Rattle.smf_score.specs.Strokes.{act_of, stroke_of, strokes_in}
use Rattle.smf_score.specs.Written.{chunk_bytes, midi_key, end_bytes, header_bytes, key_bytes, note_bytes, notes_bytes, quantity, smf_of, tempo_bytes, track_bytes, tracks_bytes}
use Rattle.smf_score.proofs.NumbersBack.{header_stands, quantity_short, quantity_stands, track_stands}

pub key_bounds : (p : Pitch) → (24 ≤ midi_key p) × (midi_key p ≤ 96)
key_bounds p = at (key_of p) p.is_pitch.low p.is_pitch.high
  where
    at : (z : ℤ) → pos 24 ≤ℤ z → z ≤ℤ pos 96 → (24 ≤ unsigned_abs z) × (unsigned_abs z ≤ 96)
    at (pos n) low high = (omega (arith, ints), omega (arith, ints))
    at (negsuc n) low high = absurd (omega (arith, ints))

-- ---- an event

-- a message of two data bytes, with its status
message_stands : (running : Option ℕ) (status key velocity : ℕ) (more : List ℕ) → 0x80 ≤ status → status < 0xB0
    → key < 128 → velocity < 128
    → IsRow (event_row running) (status ∷ key ∷ velocity ∷ more)
    (record { message = two_byte_message status key velocity; running = Some status }) more
message_stands running status key velocity more low high first second = (
  status,
  key ∷ velocity ∷ more,
  refl,
  rw (
    ne_eqb status 0xFF (λ e. absurd (omega (arith, high, e))),
    ne_eqb status 0xF0 (λ e. absurd (omega (arith, high, e))),
    ne_eqb status 0xF7 (λ e. absurd (omega (arith, high, e))),
    le-ltb status 0x80 low,
    lt-ltb status 0xF0 (omega arith),
  ) (
    key,
    velocity ∷ more,
    (refl, first),
    rw (
      ne_eqb (status / 16) 12 (λ e. absurd (omega (arith, high, e))),
      ne_eqb (status / 16) 13 (λ e. absurd (omega (arith, high, e))),
    ) (velocity, more, (refl, second), (refl, refl)),
  ),
)

-- the time, the number and the bytes of a meta event that doesn't end its track
abbrev pub Meant : Type 0
Meant = ℕ × ℕ × List ℕ

abbrev pub meant_by : ℕ → Message → List Meant
meant_by tick (Off channel key) = []
meant_by tick (On channel key velocity) = []
meant_by tick (Other channel) = []
meant_by tick (Meta number bytes) = if number == 0x2F then [] else (tick, number, bytes) ∷ []
meant_by tick (System bytes) = []

-- those of a file, in its order, up to its first fault
abbrev pub meant_in : Answers → List Meant
meant_in [] = []
meant_in (Ok event ∷ answers) = meant_by event.tick event.message ++ meant_in answers
meant_in (Err fault ∷ answers) = []

-- what answers of which this is said do
abbrev Does : (Answers → Type 0) → List Stroke → List Meant → Type 0
Does Are strokes meant =
    (answers : Answers) × Are answers × (strokes_in answers ≡ Ok strokes) × (meant_in answers ≡ meant)

-- an event that doesn't end the track, and what stands behind it
event_does : (Behind : Answers → Type 0) (left : Left) (delta : ℕ) (event : Event) (rest : List ℕ) (strokes : List Stroke)
    (meant : List Meant) → IsNext left delta event rest → ends_track event.message ≡ false
    → Does (AreOfTrack Behind (left_behind left delta event rest)) strokes meant
    → Does (AreOfTrack Behind left) (stroke_of (event_then left delta event) ∷ strokes)
    (meant_by (left.tick + delta) event.message ++ meant)
event_does Behind left delta event rest strokes meant next on (answers, are, e, m) =
    (Ok (event_then left delta event) ∷ answers, (delta, event, rest, next, refl, inr (on, are)), rw e refl, rw m refl)

-- what is left of the track of a voice
abbrev left_of : ℕ → ℕ → ℕ → Option ℕ → List ℕ → Left
left_of number end tick running rest =
    record { number = number; end = end; tick = tick; running = running; rest = rest }

-- a message of a key, so many slots later
key_does : (Behind : Answers → Type 0) (number end before after : ℕ) (running : Option ℕ) (status key : ℕ)
    (message : Message) (more : List ℕ) (strokes : List Stroke) (meant : List Meant) → before ≤ after → after ≤ 1000 → 0x80 ≤ status
    → status < 0xB0 → key < 128 → two_byte_message status key 0x40 ≡ message → ends_track message ≡ false
    → ((tick : ℕ) → meant_by tick message ≡ [])
    → Does (AreOfTrack Behind (left_of number end (240 * after) (Some status) more)) strokes meant
    → Does (AreOfTrack Behind (left_of number end (240 * before) running (key_bytes (after - before) status key ++ more)))
    (record { track = number; tick = 240 * after; act = act_of message } ∷ strokes) meant
key_does Behind number end before after running status key message more strokes meant later short low high first is on
    plain does =
    let delta = 240 * (after - before) in
    let tick : 240 * before + delta ≡ 240 * after = omega arith in
    let left = left_of number end (240 * before) running (quantity delta ++ status ∷ key ∷ 0x40 ∷ more) in
    let event : Event = record { message = message; running = Some status } in
    let said = event_does Behind left delta event more strokes meant (record {
      behind = status ∷ key ∷ 0x40 ∷ more;
      time = quantity_stands delta (status ∷ key ∷ 0x40 ∷ more) (omega arith);
      stands = subst (λ (m : Message). IsRow (event_row running) (status ∷ key ∷ 0x40 ∷ more)
          (record { message = m; running = Some status }) more) is
          (message_stands running status key 0x40 more low high first (omega arith));
    }) on (rw tick does) in
    rw (append_assoc (quantity delta) (status ∷ key ∷ 0x40 ∷ []) more, ← tick)
    (subst (λ (l : List Meant). Does (AreOfTrack Behind left) (stroke_of (event_then left delta event) ∷ strokes) (l ++ meant))
    (plain (240 * before + delta)) said)

-- a meta event of these bytes, at once
meta_next : (number end tick : ℕ) (running : Option ℕ) (kind : ℕ) (body more : List ℕ) → length body < 2 ^ 21
    → IsNext (left_of number end tick running (0 ∷ 0xFF ∷ kind ∷ (quantity (length body) ++ (body ++ more)))) 0
    (record { message = Meta kind body; running = None }) more
meta_next number end tick running kind body more few =
    let behind : List ℕ = quantity (length body) ++ (body ++ more) in
    record {
      behind = 0xFF ∷ kind ∷ behind;
      time = quantity_stands 0 (0xFF ∷ kind ∷ behind) (omega arith);
      stands = (
        0xFF,
        kind ∷ behind,
        refl,
        (
          kind,
          behind,
          refl,
          (
            length body,
            body ++ more,
            quantity_stands (length body) (body ++ more) few,
            (body, more, record { stand = refl; long = refl }, (refl, refl)),
          ),
        ),
      );
    }

-- ---- the notes of a voice

-- notes stand one after the other, the first not before a column, and the last is over at another
abbrev pub AreInTurn : ℕ → ℕ → List Note → Type 0
AreInTurn most ended [] = ended ≤ most
AreInTurn most ended (note ∷ notes) =
    (ended ≤ note.start) × (1 ≤ note.len) × AreInTurn most (note.start + note.len) notes

pub turn_within : (most ended : ℕ) (notes : List Note) → AreInTurn most ended notes → ended ≤ most
turn_within most ended [] turn = turn
turn_within most ended (note ∷ notes) turn =
    omega (arith, turn.0, turn_within most (note.start + note.len) notes turn.2)

-- the notes of a voice of a score
abbrev pub voice_notes : List (List Cell) → ℕ → List Note
voice_notes columns v = notes_of 0 (line v columns)

-- notes of a line stand one after the other
pub in_turn : (at ended most : ℕ) (cells : List Cell) → ended ≤ at + holds_ahead cells → at + length cells ≤ most
    → AreInTurn most ended (notes_of at cells)
in_turn at ended most [] early within = omega arith
in_turn at ended most (Rest ∷ cells) early within = in_turn (suc at) ended most cells (omega arith) (omega arith)
in_turn at ended most (Hold p ∷ cells) early within = in_turn (suc at) ended most cells (omega arith) (omega arith)
in_turn at ended most (Start p ∷ cells) early within =
    (omega arith, omega arith, in_turn (suc at) (at + suc (holds_ahead cells)) most cells (omega arith) (omega arith))

pub voice_in_turn : (columns : List (List Cell)) (v most : ℕ) → length columns ≤ most
    → AreInTurn most 0 (voice_notes columns v)
voice_in_turn columns v most few =
    let long : length (line v columns) ≡ length columns = length-map columns (λ col. cell_in col v) in
    in_turn 0 0 most (line v columns) (omega arith) (omega arith)

-- a note of a score as it is played by the voice of a rank
abbrev pub played_note : ℕ → Note → Played
played_note rank note = played rank rank (240 * note.start) (240 * (note.start + note.len)) (midi_key note.pitch)

-- a track is a voice, the first the lowest
abbrev pub tracks_are_voices : Layout
tracks_are_voices = record { format = 1; top_first = false }

-- the notes that answers of which this is said play
abbrev Plays : (Answers → Type 0) → List Played → List Meant → Type 0
Plays Are notes meant = (strokes : List Stroke) × Does Are strokes meant × (notes_in tracks_are_voices strokes ≡ notes)

note_plays : (Behind : Answers → Type 0) (number end ended : ℕ) (running : Option ℕ) (v : ℕ) (note : Note) (more : List ℕ)
    (notes : List Played) (meant : List Meant) → ended ≤ note.start → note.start + note.len ≤ 1000 → v < 16
    → Plays (AreOfTrack Behind (left_of number end (240 * (note.start + note.len)) (Some (0x80 + v)) more)) notes meant
    → Plays (AreOfTrack Behind (left_of number end (240 * ended) running
    (note_bytes v (note.start - ended) note.len (midi_key note.pitch) ++ more))) (played_note number note ∷ notes) meant
note_plays Behind number end ended running v note more notes meant later short few (strokes, does, e) =
    let key = midi_key note.pitch in
    let start = note.start in
    let after = note.start + note.len in
    let low : key < 128 = omega (arith, (key_bounds note.pitch).1) in
    let len : after - start ≡ note.len = omega arith in
    let release : Stroke = record { track = number; tick = 240 * after; act = act_of (Off v key) } in (
      record { track = number; tick = 240 * start; act = act_of (On v key 0x40) } ∷ release ∷ strokes,
      rw append_assoc (key_does Behind number end ended start running (0x90 + v) key (On v key 0x40)
          (key_bytes note.len (0x80 + v) key ++ more) (release ∷ strokes) meant later (omega arith) (omega arith) (omega arith)
          low on refl (λ tick. refl)
          (subst (λ (n : ℕ). Does (AreOfTrack Behind (left_of number end (240 * start) (Some (0x90 + v))
          (key_bytes n (0x80 + v) key ++ more))) (release ∷ strokes) meant) len
          (key_does Behind number end start after (Some (0x90 + v)) (0x80 + v) key (Off v key) more strokes meant
          (omega arith) short (omega arith) (omega arith) low off refl (λ tick. refl) does))),
      rw (eq-eqb v v refl, eq-eqb key key refl, e) refl,
    )
  where
    on : two_byte_message (0x90 + v) (midi_key note.pitch) 0x40 ≡ On v (midi_key note.pitch) 0x40
    on =
        let high : (0x90 + v) / 16 ≡ 9 = omega arith in
        let low : (0x90 + v) % 16 ≡ v = omega arith in
        rw (high, low) refl

    off : two_byte_message (0x80 + v) (midi_key note.pitch) 0x40 ≡ Off v (midi_key note.pitch)
    off =
        let high : (0x80 + v) / 16 ≡ 8 = omega arith in
        let low : (0x80 + v) % 16 ≡ v = omega arith in
        rw (high, low) refl

-- the end of a track, and what is played behind it
end_plays : (Behind : Answers → Type 0) (number end tick : ℕ) (running : Option ℕ) (notes : List Played)
    (meant : List Meant) → Plays Behind notes meant
    → Plays (AreOfTrack Behind (left_of number end tick running end_bytes)) notes meant
end_plays Behind number end tick running notes meant (strokes, (answers, are, read, m), e) =
    let event : Event = record { message = Meta 0x2F []; running = None } in
    let timed = event_then (left_of number end tick running end_bytes) 0 event in (
      stroke_of timed ∷ strokes,
      (
        Ok timed ∷ answers,
        (0, event, [], meta_next number end tick running 0x2F [] [] (omega arith), refl, inl (refl, are)),
        rw read refl,
        m,
      ),
      e,
    )

-- the track of a voice plays its notes, and then what is behind it is played
notes_play : (Behind : Answers → Type 0) (number end ended : ℕ) (running : Option ℕ) (v : ℕ) (notes : List Note)
    (later : List Played) (meant : List Meant) → v < 16 → AreInTurn 1000 ended notes → Plays Behind later meant
    → Plays (AreOfTrack Behind (left_of number end (240 * ended) running (notes_bytes v ended notes ++ end_bytes)))
    (map (played_note number) notes ++ later) meant
notes_play Behind number end ended running v [] later meant few turn plays =
    end_plays Behind number end (240 * ended) running later meant plays
notes_play Behind number end ended running v (note ∷ notes) later meant few turn plays =
    let after = note.start + note.len in
    rw (append_assoc (note_bytes v (note.start - ended) note.len (midi_key note.pitch)) (notes_bytes v after notes) end_bytes)
    (note_plays Behind number end ended running v note (notes_bytes v after notes ++ end_bytes)
    (map (played_note number) notes ++ later) meant turn.0 (turn_within 1000 after notes turn.2) few
    (notes_play Behind number end after (Some (0x80 + v)) v notes later meant few turn.2 plays))

-- ---- how long a track is

notes_short : (v ended at : ℕ) (cells : List Cell) → length (notes_bytes v ended (notes_of at cells)) ≤ 12 * length cells
notes_short v ended at [] = omega arith
notes_short v ended at (Start p ∷ cells) =
    let len = suc (holds_ahead cells) in
    omega (arith, quantity_short, length-append {A = ℕ}, notes_short v (at + len) (suc at) cells)
notes_short v ended at (c ∷ cells) = omega (arith, notes_short v ended (suc at) cells)

-- the bytes of a track of a voice
abbrev voice_body : List (List Cell) → ℕ → List ℕ
voice_body columns v = notes_bytes v 0 (voice_notes columns v) ++ end_bytes

body_short : (columns : List (List Cell)) (v : ℕ) → length (voice_body columns v) ≤ 12 * length columns + 4
body_short columns v = omega (arith, length-map {A = List Cell} {B = Cell}, length-append {A = ℕ}, notes_short v 0 0 (line v columns))

tracks_short : (columns : List (List Cell)) (v more : ℕ) → length columns ≤ 192
    → length (tracks_bytes columns v more) ≤ 4096 * more
tracks_short columns v zero few = omega arith
tracks_short columns v (suc more) few =
    let long = length-append (track_bytes columns v) (tracks_bytes columns (suc v) more) in
    omega (arith, long, body_short columns v, tracks_short columns (suc v) more few)

-- ---- the tracks

-- a track whose chunk stands at the front, and those behind it
track_plays : (more number size : ℕ) (body rest : List ℕ) (notes : List Played) (meant : List Meant)
    → length body < 2 ^ 32
    → Plays (AreOfTrack (AreOfTracks more (suc number) size rest) (begun number size body rest)) notes meant
    → Plays (AreOfTracks (suc more) number size (chunk_bytes TRACK body ++ rest)) notes meant
track_plays more number size body rest notes meant short (strokes, (answers, are, read, m), e) =
    (strokes, (answers, inl (body, rest, track_stands body rest short, are), read, m), e)

-- the notes of so many voices from one on; the track of a voice is one behind that of the tempo
abbrev pub voices_played : List (List Cell) → ℕ → ℕ → List Played
voices_played columns v zero = []
voices_played columns v (suc more) =
    map (played_note (suc v)) (voice_notes columns v) ++ voices_played columns (suc v) more

voices_play : (columns : List (List Cell)) (size v more : ℕ) → length columns ≤ 192 → v + more ≤ 16
    → Plays (AreOfTracks more (suc v) size (tracks_bytes columns v more)) (voices_played columns v more) []
voices_play columns size v zero few voices = ([], ([], refl, refl, refl), refl)
voices_play columns size v (suc more) few voices =
    let rest = tracks_bytes columns (suc v) more in
    track_plays more (suc v) size (voice_body columns v) rest (voices_played columns v (suc more)) []
    (omega (arith, body_short columns v))
    (notes_play (AreOfTracks more (suc (suc v)) size rest) (suc v) (size - length rest) 0 None v (voice_notes columns v)
    (voices_played columns (suc v) more) [] (omega arith) (voice_in_turn columns v 1000 (omega arith))
    (voices_play columns size (suc v) more few (omega arith)))

-- the bytes of the first track
abbrev tempo_body : List ℕ
tempo_body = 0 ∷ 0xFF ∷ 0x51 ∷ 3 ∷ 0x07 ∷ 0xA1 ∷ 0x20 ∷ 0 ∷ 0xFF ∷ 0x58 ∷ 4 ∷ 4 ∷ 2 ∷ 24 ∷ 8 ∷ end_bytes

-- what they mean: half a second for a quarter note, and a bar of four of them
abbrev pub tempo_meant : List Meant
tempo_meant = (0, 0x51, 0x07 ∷ 0xA1 ∷ 0x20 ∷ []) ∷ (0, 0x58, 4 ∷ 2 ∷ 24 ∷ 8 ∷ []) ∷ []

-- it plays nothing
tempo_plays : (Behind : Answers → Type 0) (end : ℕ) (notes : List Played) → Plays Behind notes []
    → Plays (AreOfTrack Behind (left_of 0 end 0 None tempo_body)) notes tempo_meant
tempo_plays Behind end notes plays =
    let tempo : List ℕ = 0x07 ∷ 0xA1 ∷ 0x20 ∷ [] in
    let meter : List ℕ = 4 ∷ 2 ∷ 24 ∷ 8 ∷ [] in
    let second : List ℕ = 0 ∷ 0xFF ∷ 0x58 ∷ 4 ∷ (meter ++ end_bytes) in
    let over = end_plays Behind 0 end 0 None notes [] plays in (
      _,
      event_does Behind (left_of 0 end 0 None tempo_body) 0 (record { message = Meta 0x51 tempo; running = None }) second _ _
          (meta_next 0 end 0 None 0x51 tempo second (omega arith)) refl
          (event_does Behind (left_of 0 end 0 None second) 0 (record { message = Meta 0x58 meter; running = None }) end_bytes
          over.0 [] (meta_next 0 end 0 None 0x58 meter end_bytes (omega arith)) refl over.1),
      over.2,
    )

-- ---- the file

-- the header of a file of so many voices
abbrev pub file_header : ℕ → Header
file_header voices = record { format = 1; tracks = voices + 1; division = 480 }

pub file_back : (score : Grid) → length score.columns ≤ 192 → score.voices ≤ 4
    → (answers : Answers)
    × IsFile (smf_of score) (Ok (record { header = file_header score.voices; answers = answers }))
    × (strokes : List Stroke) × (strokes_in answers ≡ Ok strokes)
    × (notes_in tracks_are_voices strokes ≡ voices_played score.columns 0 score.voices) × (meant_in answers ≡ tempo_meant)
file_back score few low =
    let size = length (smf_of score) in
    let plays : Plays (AreOfTracks (voices + 1) 0 size behind) (voices_played score.columns 0 voices) tempo_meant =
    rw (add-one voices) (track_plays voices 0 size tempo_body tracks (voices_played score.columns 0 voices) tempo_meant
    (omega arith)
    (tempo_plays (AreOfTracks voices 1 size tracks) (size - length tracks) (voices_played score.columns 0 voices)
    (voices_play score.columns size 0 voices few (omega arith)))) in
    (plays.1.0, (short, (behind, header, plays.1.1)), plays.0, plays.1.2, plays.2, plays.1.3)
  where
    voices : ℕ
    voices = score.voices

    tracks : List ℕ
    tracks = tracks_bytes score.columns 0 voices

    behind : List ℕ
    behind = tempo_bytes ++ tracks

    short : length (smf_of score) ≤ 1048576
    short = omega (arith, length-append {A = ℕ}, tracks_short score.columns 0 voices few)

    header : IsHeader (smf_of score) (file_header voices) behind
    header =
        subst (λ (bytes : List ℕ). IsHeader bytes (file_header voices) behind)
        (sym (append_assoc (header_bytes (voices + 1)) tempo_bytes tracks))
        (header_stands (voices + 1) behind (omega arith))
