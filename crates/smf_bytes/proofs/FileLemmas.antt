-- What reading tells of a file are its events, up to the first fault, and just that (`file_told`,
-- `file_is`, `to_come_told`, `to_come_is`).
use Rattle.std.proofs.Common.{◌≡◌, ◌⊎◌, inl, inr, ℕ, zero, suc, ◌-◌, ◌≤◌, Bool, true, false, List, [], ◌∷◌, length, Option, Some, None, Result, Ok, Err, option_map, refl, sym, ◌∙◌, ap, arith, cond, subst, ltb}
use Rattle.std.specs.Prelude.{◌↔◌}
use Rattle.std.proofs.lemmas.Bool.{le-ltb, lt-ltb, ltb-true, ltb-false}
use Rattle.std.proofs.lemmas.List.{nil_from_length}
use Rattle.smf_bytes.specs.declared.fault.ByteFault.{ByteFault}
use Rattle.smf_bytes.specs.declared.fault.ByteFault.TheVariants as faults
use Rattle.smf_bytes.specs.declared.chunks.Header.{Header}
use Rattle.smf_bytes.specs.declared.events.Event as declared
use Rattle.smf_bytes.specs.declared.events.Events.{Events}
use Rattle.smf_bytes.specs.declared.events.Track.{Track}
use Rattle.smf_bytes.specs.Numbers.{◌>>=◌, Gives}
use Rattle.smf_bytes.specs.Messages.{Event, ends_track}
use Rattle.smf_bytes.specs.Rows.{IsRow, row_in}
use Rattle.smf_bytes.specs.Chunks.{Chunk, fields_row, header_in, header_row, track_in}
use Rattle.smf_bytes.specs.Events.{Answers, File, Left, TakesFirst, Timed, answer_then, begun, event_then, events_in, events_left, file_in, file_seen, followed_by, later_tracks, left_behind, left_seen, left_then, next_in, to_come, track_then, tracks_in}
use Rattle.smf_bytes.specs.Files.{AreFrom, AreOfTrack, AreOfTracks, AreToCome, IsFile, IsHeader, IsHeaderFault, IsNext, IsNextFault, IsOpened}
use Rattle.smf_bytes.proofs.PartLemmas.{PartTold, bytes_shorter, read_then}
use Rattle.smf_bytes.proofs.RowLemmas.{RowTold, row_tells}
use Rattle.smf_bytes.proofs.TrackLemmas.{TrackTold, track_of, track_only, track_told}
use Rattle.smf_bytes.proofs.EventLemmas.{NextTold, events_fault, events_more, next_only, next_shorter, next_told}

-- ---- a track

-- what is read of a track, where that is said of what is read behind it
module _ (Behind : Answers → Type 0) (later : Answers) where
  events_told : (n : ℕ) (left : Left) → length left.rest ≤ n → Behind later
      → AreOfTrack Behind left (followed_by (events_in n left) later)
  unfolding events_in
  events_told zero left few behind = (IsNextFault.no_end (nil_from_length left.rest (omega arith)) refl, refl)
  events_told (suc n) left few behind =
      at (next_in left) (next_told left) (λ after short. events_told n after short behind)
    where
      goes_on : (delta : ℕ) (event : Event) (rest : List ℕ) (t : Bool) → ends_track event.message ≡ t
          → IsNext left delta event rest
          → ((after : Left) → length after.rest ≤ n → AreOfTrack Behind after (followed_by (events_in n after) later))
          → AreOfTrack Behind left
          (followed_by (answer_then (events_in n)
          (Ok (event_then left delta event, cond t None (Some (left_behind left delta event rest))))) later)
      goes_on delta event rest true is next more = (delta, event, rest, next, refl, inl (is, behind))
      goes_on delta event rest false is next more = (
        delta,
        event,
        rest,
        next,
        refl,
        inr (is, more (left_behind left delta event rest) (omega (arith, next_shorter left delta event rest next))),
      )

      at : (r : Result (Timed × Option Left) ByteFault) → NextTold left r
          → ((after : Left) → length after.rest ≤ n → AreOfTrack Behind after (followed_by (events_in n after) later))
          → AreOfTrack Behind left (followed_by (answer_then (events_in n) r) later)
      at (Ok x) told more =
          subst (λ (y : Timed × Option Left). AreOfTrack Behind left (followed_by (answer_then (events_in n) (Ok y)) later))
          (sym told.4)
          (goes_on told.0 told.1 told.2 (ends_track told.1.message) refl told.3 more)
      at (Err f) told more = (told, refl)

  events_are : (left : Left) (answers : Answers) → ((others : Answers) → Behind others → others ≡ later)
      → AreOfTrack Behind left answers → answers ≡ followed_by (events_left (Some left)) later
  events_are left [] only h = absurd h
  events_are left (Err f ∷ answers) only (fault, none) =
      rw (events_fault left f (next_only left (Err f) fault), none) refl
  events_are left (Ok timed ∷ answers) only (delta, event, rest, next, is, more) =
      rw is (at (ends_track event.message) refl more (events_are (left_behind left delta event rest) answers only)
      ∙ ap (λ (others : Answers). followed_by others later) (sym (events_more left (event_then left delta event)
      (left_then left delta event rest) (next_only left (Ok _) (delta, event, rest, next, refl)))))
    where
      at : (t : Bool) → ends_track event.message ≡ t
          → ((ends_track event.message ≡ true) × Behind answers)
          ⊎ ((ends_track event.message ≡ false) × AreOfTrack Behind (left_behind left delta event rest) answers)
          → (AreOfTrack Behind (left_behind left delta event rest) answers
          → answers ≡ followed_by (events_left (Some (left_behind left delta event rest))) later)
          → Ok (event_then left delta event) ∷ answers
          ≡ followed_by (Ok (event_then left delta event)
          ∷ events_left (cond t None (Some (left_behind left delta event rest)))) later
      at true e (inl (ends, behind)) rec =
          ap (λ (others : Answers). Ok (event_then left delta event) ∷ others) (only answers behind)
      at true e (inr (ends, behind)) rec = absurd cc
      at false e (inl (ends, behind)) rec = absurd cc
      at false e (inr (ends, behind)) rec =
          ap (λ (others : Answers). Ok (event_then left delta event) ∷ others) (rec behind)

  -- the track that is read, if one is
  from_told : (track : Option Track) → Behind later
      → AreFrom Behind track (followed_by (events_left (option_map left_seen track)) later)
  from_told None behind = behind
  from_told (Some track) behind = events_told (length track.rest.now) (left_seen track) (omega arith) behind

  from_are : (track : Option Track) (answers : Answers) → ((others : Answers) → Behind others → others ≡ later)
      → AreFrom Behind track answers → answers ≡ followed_by (events_left (option_map left_seen track)) later
  from_are None answers only h = only answers h
  from_are (Some track) answers only h = events_are (left_seen track) answers only h

-- ---- the tracks

pub tracks_told : (more number size : ℕ) (bytes : List ℕ)
    → AreOfTracks more number size bytes (tracks_in more number size bytes)
unfolding tracks_in
tracks_told zero number size bytes = refl
tracks_told (suc more) number size bytes =
    at (track_in (length bytes) size bytes) (track_told (length bytes) size bytes (omega arith))
    (λ rest. tracks_told more (suc number) size rest)
  where
    at : (r : Result (Chunk × List ℕ) ByteFault) → TrackTold size bytes r
        → ((rest : List ℕ) → AreOfTracks more (suc number) size rest (tracks_in more (suc number) size rest))
        → AreOfTracks (suc more) number size bytes (track_then number size (tracks_in more (suc number) size) r)
    at (Ok c) told later =
        let left = begun number size c.0.bytes c.1 in
        inl (
          c.0.bytes,
          c.1,
          told.1,
          events_told (AreOfTracks more (suc number) size c.1)
              (tracks_in more (suc number) size c.1) (length c.0.bytes) left (omega arith) (later c.1),
        )
    at (Err f) told later = inr (f, told, refl)

pub tracks_are : (more number size : ℕ) (bytes : List ℕ) (answers : Answers)
    → AreOfTracks more number size bytes answers → answers ≡ tracks_in more number size bytes
unfolding tracks_in
tracks_are zero number size bytes answers h = h
tracks_are (suc more) number size bytes answers (inl (body, rest, track, h)) =
    rw (track_only (length bytes) size bytes (Ok (track_of body, rest)) (omega arith) (refl, track))
    (events_are (AreOfTracks more (suc number) size rest) (tracks_in more (suc number) size rest)
    (begun number size body rest) answers (λ others. tracks_are more (suc number) size rest others) h)
tracks_are (suc more) number size bytes answers (inr (fault, track, h)) =
    rw (track_only (length bytes) size bytes (Err fault) (omega arith) track) h

-- ---- the header

abbrev HeaderTold : ℕ → List ℕ → Result (Header × List ℕ) ByteFault → Type 0
HeaderTold size bytes r = PartTold (IsHeader bytes) (IsHeaderFault size bytes) r

header_told : (size : ℕ) (bytes : List ℕ) → HeaderTold size bytes (header_in size bytes)
unfolding header_in
header_told size bytes = by (ltb (length bytes) 4) refl
  where
    fields : (body rest : List ℕ) → IsRow header_row bytes body rest → (r : Result (Header × List ℕ) ByteFault)
        → RowTold fields_row size body r → HeaderTold size bytes (r >>= λ header. Ok (header.0, rest))
    fields body rest chunk (Ok x) told = record { body = body; more = x.1; chunk = chunk; fields = told }
    fields body rest chunk (Err f) told = IsHeaderFault.in_fields body rest chunk told

    chunk : 4 ≤ length bytes → (r : Result (List ℕ × List ℕ) ByteFault) → RowTold header_row size bytes r
        → HeaderTold size bytes (r >>= λ body. row_in fields_row size body.0 >>= λ header. Ok (header.0, body.1))
    chunk long (Ok x) told =
        fields x.0 x.1 told (row_in fields_row size x.0) ((row_tells fields_row size x.0).told)
    chunk long (Err f) told = IsHeaderFault.in_chunk long told

    by : (t : Bool) → ltb (length bytes) 4 ≡ t
        → HeaderTold size bytes (cond t (Err (faults.Chunk 0)) (row_in header_row size bytes >>= λ body.
        row_in fields_row size body.0 >>= λ header. Ok (header.0, body.1)))
    by true e = IsHeaderFault.cut (ltb-true (length bytes) 4 e) refl
    by false e =
        chunk (ltb-false (length bytes) 4 e) (row_in header_row size bytes) ((row_tells header_row size bytes).told)

header_long : (bytes body rest : List ℕ) → IsRow header_row bytes body rest → ltb (length bytes) 4 ≡ false
header_long bytes body rest chunk =
    le-ltb (length bytes) 4 (omega (arith, bytes_shorter 4 bytes chunk.2.0 chunk.1 chunk.2.1))

header_only : (size : ℕ) (bytes : List ℕ) (s : Result (Header × List ℕ) ByteFault) → HeaderTold size bytes s
    → header_in size bytes ≡ s
unfolding header_in
header_only size bytes (Ok (header, rest)) h =
    rw (header_long bytes h.body rest h.chunk)
    (read_then (row_in header_row size bytes) (Ok (h.body, rest)) _ _
    ((row_tells header_row size bytes).only (Ok (h.body, rest)) h.chunk)
    (read_then (row_in fields_row size h.body) (Ok (header, h.more)) _ _
    ((row_tells fields_row size h.body).only (Ok (header, h.more)) h.fields) refl))
header_only size bytes (Err f) (IsHeaderFault.cut short fault) = rw (lt-ltb (length bytes) 4 short, fault) refl
header_only size bytes (Err f) (IsHeaderFault.in_chunk long lacks) =
    rw (le-ltb (length bytes) 4 long)
    (read_then (row_in header_row size bytes) (Err f) _ _ ((row_tells header_row size bytes).only (Err f) lacks) refl)
header_only size bytes (Err f) (IsHeaderFault.in_fields body rest chunk lacks) =
    rw (header_long bytes body rest chunk)
    (read_then (row_in header_row size bytes) (Ok (body, rest)) _ _
    ((row_tells header_row size bytes).only (Ok (body, rest)) chunk)
    (read_then (row_in fields_row size body) (Err f) _ _ ((row_tells fields_row size body).only (Err f) lacks) refl))

-- ---- the file

pub file_told : (bytes : List ℕ) → IsFile bytes (file_in bytes)
file_told bytes = by (ltb 1048576 (length bytes)) refl
  where
    read : length bytes ≤ 1048576 → (r : Result (Header × List ℕ) ByteFault) → HeaderTold (length bytes) bytes r
        → IsFile bytes (r >>= λ header.
        Ok (record { header = header.0; answers = tracks_in header.0.tracks 0 (length bytes) header.1 }))
    read few (Ok x) told = (few, (x.1, told, tracks_told x.0.tracks 0 (length bytes) x.1))
    read few (Err f) told = inr (few, told)

    by : (t : Bool) → ltb 1048576 (length bytes) ≡ t
        → IsFile bytes (cond t (Err faults.TooLong) (header_in (length bytes) bytes >>= λ header.
        Ok (record { header = header.0; answers = tracks_in header.0.tracks 0 (length bytes) header.1 })))
    by true e = inl (ltb-true 1048576 (length bytes) e, refl)
    by false e =
        read (ltb-false 1048576 (length bytes) e) (header_in (length bytes) bytes) (header_told (length bytes) bytes)

pub file_is : (bytes : List ℕ) (file : Result File ByteFault) → IsFile bytes file → file ≡ file_in bytes
file_is bytes (Ok file) (few, (rest, header, answers)) =
    rw (
      le-ltb 1048576 (length bytes) few,
      header_only (length bytes) bytes (Ok (file.header, rest)) header,
      ← tracks_are file.header.tracks 0 (length bytes) rest file.answers answers,
    ) refl
file_is bytes (Err f) (inl (long, fault)) = rw (lt-ltb 1048576 (length bytes) long, fault) refl
file_is bytes (Err f) (inr (few, lacks)) =
    rw (le-ltb 1048576 (length bytes) few, header_only (length bytes) bytes (Err f) lacks) refl

pub to_come_told : (events : Events) → AreToCome events (to_come events)
to_come_told events =
    let tracks = events.header.tracks - events.begun in
    from_told (AreOfTracks tracks events.begun events.size events.rest.now)
    (later_tracks events) events.track (tracks_told tracks events.begun events.size events.rest.now)

pub to_come_is : (events : Events) (answers : Answers) → AreToCome events answers → answers ≡ to_come events
to_come_is events answers h =
    let tracks = events.header.tracks - events.begun in
    from_are (AreOfTracks tracks events.begun events.size events.rest.now)
    (later_tracks events) events.track answers
    (λ others. tracks_are tracks events.begun events.size events.rest.now others) h

-- ---- the reader

-- the file that is seen in what was opened
seen_opened : (result : Result Events ByteFault) (file : Result File ByteFault) → Gives file_seen result file
    → IsOpened result file
seen_opened (Ok events) file seen = subst (IsOpened (Ok events)) (sym seen) (refl, to_come_told events)
seen_opened (Err fault) file seen = subst (IsOpened (Err fault)) (sym seen) refl

opened_seen : (result : Result Events ByteFault) (file : Result File ByteFault) → IsOpened result file
    → Gives file_seen result file
opened_seen (Ok events) (Ok file) (header, answers) = rw (← to_come_is events file.answers answers, ← header) refl
opened_seen (Ok events) (Err fault) h = absurd h
opened_seen (Err fault) (Ok file) h = absurd h
opened_seen (Err fault) (Err other) h = rw h refl

one_seen : (result : Result Events ByteFault) (a b : Result File ByteFault) → Gives file_seen result a
    → Gives file_seen result b → a ≡ b
one_seen (Ok events) a b first second = first ∙ sym second
one_seen (Err fault) a b first second = first ∙ sym second

-- what was opened is the file that the bytes are
pub opened : (bytes : List ℕ) (result : Result Events ByteFault) → Gives file_seen result (file_in bytes)
    → (file : Result File ByteFault) → IsFile bytes file ↔ IsOpened result file
opened bytes result read file = (
  λ h. seen_opened result file (subst (Gives file_seen result) (sym (file_is bytes file h)) read),
  λ h. subst (IsFile bytes) (one_seen result (file_in bytes) file read (opened_seen result file h)) (file_told bytes),
)

-- what the next answer is
pub taken : (old new : Events) (answer : Option (Result declared.Event ByteFault))
    → TakesFirst (to_come old) answer (to_come new) → (before after : Answers) → AreToCome old before
    → AreToCome new after → TakesFirst before answer after
taken old new answer first before after a b = rw (to_come_is old before a, to_come_is new after b) first
