-- Which bytes are a file of these events, and where bytes first go wrong: all before is right, and
-- here is the fault.
use Rattle.std.specs.Prelude.{◌≡◌, ◌≢◌, ◌⊎◌, ◌<◌, ◌≤◌, ℕ, zero, suc, ◌-◌, true, false, List, [], ◌∷◌, length, Option, Some, None, Result, Ok, Err}
use Rattle.smf_bytes.specs.declared.fault.ByteFault.{ByteFault}
use Rattle.smf_bytes.specs.declared.fault.ByteFault.TheVariants as faults
use Rattle.smf_bytes.specs.declared.chunks.Header.{Header}
use Rattle.smf_bytes.specs.declared.chunks.TheConstants.{TRACK}
use Rattle.smf_bytes.specs.declared.events.Events.{Events}
use Rattle.smf_bytes.specs.declared.events.Track.{Track}
use Rattle.smf_bytes.specs.Rows.{IsQuantity, IsRow, IsRowFault, LacksQuantity}
use Rattle.smf_bytes.specs.Messages.{Event, ends_track, event_row}
use Rattle.smf_bytes.specs.Chunks.{Chunk, chunk_row, fields_row, header_row}
use Rattle.smf_bytes.specs.Events.{Answers, File, Left, begun, event_then, left_behind, left_seen}

-- ---- a track

-- at the front of what is left of a track stands an event, behind its delta time, and these bytes
-- behind it
pub record IsNext (left : Left) (delta : ℕ) (event : Event) (rest : List ℕ) : Type 0 where
  pub behind : List ℕ
  pub time : IsQuantity left.rest delta behind
  pub stands : IsRow (event_row left.running) behind event rest

-- no event stands there: the track is over without its end, the delta time is none, or behind it is
-- no event
pub data IsNextFault (left : Left) (fault : ByteFault) : Type 0 where
  no_end : left.rest ≡ [] → fault ≡ faults.NoEnd left.end → IsNextFault left fault
  in_time : left.rest ≢ [] → LacksQuantity left.end left.rest fault → IsNextFault left fault
  in_event : (delta : ℕ) (behind : List ℕ) → IsQuantity left.rest delta behind
      → IsRowFault (event_row left.running) left.end behind fault → IsNextFault left fault

-- the answers are the events of what is left of a track, and behind its end those of which this is
-- said; or up to the first fault
abbrev pub AreOfTrack : (Answers → Type 0) → Left → Answers → Type 0
AreOfTrack Behind left [] = ⊥
AreOfTrack Behind left (Err fault ∷ answers) = IsNextFault left fault × (answers ≡ [])
AreOfTrack Behind left (Ok timed ∷ answers) =
    (delta : ℕ) × (event : Event) × (rest : List ℕ) × IsNext left delta event rest
    × (timed ≡ event_then left delta event)
    × (((ends_track event.message ≡ true) × Behind answers)
    ⊎ ((ends_track event.message ≡ false) × AreOfTrack Behind (left_behind left delta event rest) answers))

-- ---- the tracks of a file

-- chunks of other types stand at the front
abbrev pub ArePassed : List Chunk → List ℕ → List ℕ → Type 0
ArePassed [] bytes rest = bytes ≡ rest
ArePassed (chunk ∷ chunks) bytes rest =
    (after : List ℕ) × IsRow chunk_row bytes chunk after × (chunk.kind ≢ TRACK) × ArePassed chunks after rest

-- the next track has this body: its chunk stands at the front, behind chunks of other types that
-- are passed over
pub record IsTrack (bytes body rest : List ℕ) : Type 0 where
  pub chunks : List Chunk
  pub behind : List ℕ
  pub passed : ArePassed chunks bytes behind
  pub stands : IsRow chunk_row behind (record { kind = TRACK; bytes = body }) rest

-- there is none: behind chunks of other types stands no chunk
pub record IsTrackFault (size : ℕ) (bytes : List ℕ) (fault : ByteFault) : Type 0 where
  pub chunks : List Chunk
  pub behind : List ℕ
  pub passed : ArePassed chunks bytes behind
  pub lacks : IsRowFault chunk_row size behind fault

-- the answers are the events of so many tracks from one on, up to the first fault; what follows the
-- last track is passed over
abbrev pub AreOfTracks : ℕ → ℕ → ℕ → List ℕ → Answers → Type 0
AreOfTracks zero number size bytes answers = answers ≡ []
AreOfTracks (suc more) number size bytes answers =
    ((body rest : List ℕ) × IsTrack bytes body rest
    × AreOfTrack (AreOfTracks more (suc number) size rest) (begun number size body rest) answers)
    ⊎ ((fault : ByteFault) × IsTrackFault size bytes fault × (answers ≡ Err fault ∷ []))

-- ---- a file

-- a header stands at the front: in its chunk are its three numbers, and what follows them there is
-- passed over
pub record IsHeader (bytes : List ℕ) (header : Header) (rest : List ℕ) : Type 0 where
  pub body : List ℕ
  pub more : List ℕ
  pub chunk : IsRow header_row bytes body rest
  pub fields : IsRow fields_row body header more

-- there is none: its type is cut off, its chunk is none, or its numbers aren't those of a header
pub data IsHeaderFault (size : ℕ) (bytes : List ℕ) (fault : ByteFault) : Type 0 where
  cut : length bytes < 4 → fault ≡ faults.Chunk 0 → IsHeaderFault size bytes fault
  in_chunk : 4 ≤ length bytes → IsRowFault header_row size bytes fault → IsHeaderFault size bytes fault
  in_fields : (body rest : List ℕ) → IsRow header_row bytes body rest → IsRowFault fields_row size body fault
      → IsHeaderFault size bytes fault

-- the bytes are this file: a header, and the answers up to the first fault; or they are too long,
-- or have no header
abbrev pub IsFile : List ℕ → Result File ByteFault → Type 0
IsFile bytes (Ok file) =
    (length bytes ≤ 1048576) × ((rest : List ℕ) × IsHeader bytes file.header rest
    × AreOfTracks file.header.tracks 0 (length bytes) rest file.answers)
IsFile bytes (Err fault) =
    ((1048576 < length bytes) × (fault ≡ faults.TooLong))
    ⊎ ((length bytes ≤ 1048576) × IsHeaderFault (length bytes) bytes fault)

-- ---- the reader

-- the answers are those of the track that is read, if one is, and of what this is said behind it
abbrev pub AreFrom : (Answers → Type 0) → Option Track → Answers → Type 0
AreFrom Behind None answers = Behind answers
AreFrom Behind (Some track) answers = AreOfTrack Behind (left_seen track) answers

-- these answers are still to come
abbrev pub AreToCome : Events → Answers → Type 0
AreToCome events answers =
    AreFrom (AreOfTracks (events.header.tracks - events.begun) events.begun events.size events.rest.now) events.track answers

-- a file was opened as this one
abbrev pub IsOpened : Result Events ByteFault → Result File ByteFault → Type 0
IsOpened (Ok events) (Ok file) = (file.header ≡ events.header) × AreToCome events file.answers
IsOpened (Err a) (Err b) = b ≡ a
IsOpened (Ok events) (Err b) = ⊥
IsOpened (Err a) (Ok file) = ⊥
