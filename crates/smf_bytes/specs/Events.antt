-- What is read of a file: its events, each with its track, its time and its place, up to the first
-- fault.
use Rattle.std.specs.Prelude.{◌≡◌, ◌<◌, ◌^◌, ℕ, zero, suc, ◌+◌, ◌-◌, ◌==◌, List, [], ◌∷◌, length, Option, Some, None, Result, Ok, Err, option_map, nat_lt, if◌then◌else◌}
use Rattle.smf_bytes.specs.declared.fault.ByteFault.{ByteFault}
use Rattle.smf_bytes.specs.declared.fault.ByteFault.TheVariants.{NoEnd, TooLong}
use Rattle.smf_bytes.specs.declared.chunks.Header.{Header}
use Rattle.smf_bytes.specs.declared.events.Event as declared
use Rattle.smf_bytes.specs.declared.events.Events.{Events}
use Rattle.smf_bytes.specs.declared.events.Track.{Track}
use Rattle.smf_bytes.specs.Numbers.{◌>>=◌, quantity_in}
use Rattle.smf_bytes.specs.Messages.{IsInRange, Event, Message, ends_track, event_row, seen_kind}
use Rattle.smf_bytes.specs.Rows.{row_in}
use Rattle.smf_bytes.specs.Chunks.{Chunk, header_in, track_in}

-- an event of a file: its track, counted from 0, when it comes, and the offset of its delta time
pub record Timed : Type 0 where
  pub track : ℕ
  pub tick : ℕ
  pub offset : ℕ
  pub message : Message

abbrev pub timed_seen : declared.Event → Timed
timed_seen event =
    record { track = event.track; tick = event.tick; offset = event.offset; message = seen_kind event.kind }

-- what the numbers of an event are below; a track is one of at most 65,535
pub record IsWithinBounds (event : declared.Event) : Type 0 where
  pub track : event.track + 1 < 2 ^ 16
  pub tick : event.tick < 2 ^ 48
  pub message : IsInRange (seen_kind event.kind)

-- what is left of a track: its number, the offset of its end, the time and the status that hold,
-- and its bytes
pub record Left : Type 0 where
  pub number : ℕ
  pub end : ℕ
  pub tick : ℕ
  pub running : Option ℕ
  pub rest : List ℕ

abbrev pub left_seen : Track → Left
left_seen track = record {
  number = track.number;
  end = track.end;
  tick = track.tick;
  running = track.running;
  rest = track.rest.now;
}

-- an event of a track, so many ticks after the one before it
abbrev pub event_then : Left → ℕ → Event → Timed
event_then left delta event = record {
  track = left.number;
  tick = left.tick + delta;
  offset = left.end - length left.rest;
  message = event.message;
}

-- what is left where these bytes stand behind it
abbrev pub left_behind : Left → ℕ → Event → List ℕ → Left
left_behind left delta event rest = record {
  number = left.number;
  end = left.end;
  tick = left.tick + delta;
  running = event.running;
  rest = rest;
}

-- nothing is left where it ends the track
abbrev pub left_then : Left → ℕ → Event → List ℕ → Option Left
left_then left delta event rest =
    if ends_track event.message then None else Some (left_behind left delta event rest)

-- the next event of a track, and what is left behind it
unfoldable pub next_in : Left → Result (Timed × Option Left) ByteFault
next_in left =
    if length left.rest == 0 then Err (NoEnd left.end)
    else (quantity_in left.end left.rest >>= λ delta. row_in (event_row left.running) left.end delta.1 >>= λ event.
    Ok (event_then left delta.0 event.0, left_then left delta.0 event.0 event.1))

-- the events of a file, and its fault where it has one
abbrev pub Answers : Type 0
Answers = List (Result Timed ByteFault)

-- an answer, and those to what is left behind it
abbrev pub answer_then : (Left → Answers) → Result (Timed × Option Left) ByteFault → Answers
answer_then later (Err fault) = Err fault ∷ []
answer_then later (Ok (event, None)) = Ok event ∷ []
answer_then later (Ok (event, Some left)) = Ok event ∷ later left

-- the events of what is left of a track, of which so many bytes at most are left
unfoldable pub events_in : ℕ → Left → Answers
events_in zero left = Err (NoEnd left.end) ∷ []
events_in (suc fewer) left = answer_then (events_in fewer) (next_in left)

-- the events of what is left, where something is left
abbrev pub events_left : Option Left → Answers
events_left None = []
events_left (Some left) = events_in (length left.rest) left

-- some answers, and then others, unless there was a fault
abbrev pub followed_by : Answers → Answers → Answers
followed_by [] more = more
followed_by (Ok event ∷ answers) more = Ok event ∷ followed_by answers more
followed_by (Err fault ∷ answers) more = Err fault ∷ []

-- a track of a file, behind which so many bytes are left
abbrev pub begun : ℕ → ℕ → List ℕ → List ℕ → Left
begun number size body rest =
    record { number = number; end = size - length rest; tick = 0; running = None; rest = body }

-- the events of a track that was found, and those of the tracks behind it
abbrev pub track_then : ℕ → ℕ → (List ℕ → Answers) → Result (Chunk × List ℕ) ByteFault → Answers
track_then number size later (Err fault) = Err fault ∷ []
track_then number size later (Ok chunk) =
    followed_by (events_left (Some (begun number size chunk.0.bytes chunk.1))) (later chunk.1)

-- the events of so many tracks from one on; what follows the last one is passed over
unfoldable pub tracks_in : ℕ → ℕ → ℕ → List ℕ → Answers
tracks_in zero number size bytes = []
tracks_in (suc more) number size bytes =
    track_then number size (tracks_in more (suc number) size) (track_in (length bytes) size bytes)

-- a file as events: its header, and what is read behind it
pub record File : Type 0 where
  pub header : Header
  pub answers : Answers

-- what is still to come in the tracks behind the one that is read
abbrev pub later_tracks : Events → Answers
later_tracks events =
    tracks_in (events.header.tracks - events.begun) events.begun events.size events.rest.now

-- what is still to come
abbrev pub to_come : Events → Answers
to_come events = followed_by (events_left (option_map left_seen events.track)) (later_tracks events)

-- what is to come of this track, and then of those behind it
abbrev pub with_track : Track → Events → Answers
with_track track events = followed_by (events_left (Some (left_seen track))) (later_tracks events)

-- this was to come: a track and what stands behind it, or a fault
abbrev pub ComesWith : Answers → Result Track ByteFault → Events → Type 0
ComesWith before (Ok track) after = before ≡ with_track track after
ComesWith before (Err fault) after = before ≡ Err fault ∷ []

abbrev pub file_seen : Events → File
file_seen events = record { header = events.header; answers = to_come events }

-- the file that bytes are, or what is wrong with their header
abbrev pub file_in : List ℕ → Result File ByteFault
file_in bytes =
    if nat_lt 1048576 (length bytes) then Err TooLong
    else (header_in (length bytes) bytes >>= λ header.
    Ok (record { header = header.0; answers = tracks_in header.0.tracks 0 (length bytes) header.1 }))

-- an answer of the code, without where it lies in memory
abbrev pub answer_seen : Result declared.Event ByteFault → Result Timed ByteFault
answer_seen (Ok event) = Ok (timed_seen event)
answer_seen (Err fault) = Err fault

-- the answer is the first of what was to come, and the others are still to come; no answer, where
-- nothing was
abbrev pub TakesFirst : Answers → Option (Result declared.Event ByteFault) → Answers → Type 0
TakesFirst before None after = (before ≡ []) × (after ≡ [])
TakesFirst before (Some answer) after = before ≡ answer_seen answer ∷ after
