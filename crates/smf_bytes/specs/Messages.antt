-- The events of a track, without their times: the rows of bytes that are one.
use Rattle.std.specs.Prelude.{◌<◌, ⊤, ℕ, ◌/◌, ◌%◌, ◌==◌, ◌||◌, Bool, false, List, Option, Some, None, nat_lt, if◌then◌else◌}
use Rattle.smf_bytes.specs.declared.fault.ByteFault.TheVariants.{Status}
use Rattle.smf_bytes.specs.declared.messages.Kind.{Kind}
use Rattle.smf_bytes.specs.declared.messages.Kind.TheVariants as kinds
use Rattle.smf_bytes.specs.declared.messages.Taken.{Taken}
use Rattle.smf_bytes.specs.Rows.{Row}

-- what an event is; channels count from 0
pub data Message : Type 0 where
  Off : (channel key : ℕ) → Message
  On : (channel key velocity : ℕ) → Message
  Other : (channel : ℕ) → Message
  Meta : (number : ℕ) (bytes : List ℕ) → Message
  System : (bytes : List ℕ) → Message

-- channels are below 16, and data below 128
abbrev pub IsInRange : Message → Type 0
IsInRange (Off channel key) = (channel < 16) × (key < 128)
IsInRange (On channel key velocity) = (channel < 16) × (key < 128) × (velocity < 128)
IsInRange (Other channel) = channel < 16
IsInRange (Meta number bytes) = number < 256
IsInRange (System bytes) = ⊤

-- the same of the code's events, whose bytes lie in the file
abbrev pub seen_kind : Kind → Message
seen_kind (kinds.Off channel key) = Off channel key
seen_kind (kinds.On channel key velocity) = On channel key velocity
seen_kind (kinds.Other channel) = Other channel
seen_kind (kinds.Meta number bytes) = Meta number bytes.now
seen_kind (kinds.System bytes) = System bytes.now

-- meta event 2F ends its track
abbrev pub ends_track : Message → Bool
ends_track (Off channel key) = false
ends_track (On channel key velocity) = false
ends_track (Other channel) = false
ends_track (Meta number bytes) = number == 0x2F
ends_track (System bytes) = false

-- an event, and the status that holds after it
pub record Event : Type 0 where
  pub message : Message
  pub running : Option ℕ

abbrev pub event_seen : Taken → Event
event_seen taken = record { message = seen_kind taken.kind; running = taken.running }

abbrev pub seen : Taken → Event × List ℕ
seen taken = (event_seen taken, taken.rest.now)

-- nothing more: it is this message
abbrev pub is_message : Option ℕ → Message → Row Event
is_message running message = Row.says (record { message = message; running = running })

-- a message of two data bytes; the low four bits of a status are its channel
abbrev pub two_byte_message : ℕ → ℕ → ℕ → Message
two_byte_message status first second =
    if status / 16 == 8 then Off (status % 16) first
    else (if status / 16 == 9 then On (status % 16) first second else Other (status % 16))

-- behind the first data byte: statuses C0 to DF have one, the others two
abbrev pub behind_first : ℕ → ℕ → Row Event
behind_first status first =
    if (status / 16 == 12) || (status / 16 == 13) then is_message (Some status) (Other (status % 16))
    else Row.data_byte (λ second. is_message (Some status) (two_byte_message status first second))

-- the message of a channel, behind its status
abbrev pub message_row : ℕ → Row Event
message_row status = Row.data_byte (behind_first status)

-- a meta event, behind FF: its number, a length and so many bytes; no status holds after it
abbrev pub meta_row : Row Event
meta_row = Row.byte (λ number. Row.quantity (λ count. Row.block count (λ bytes. is_message None (Meta number bytes))))

-- a system event, behind F0 or F7: a length and so many bytes; no status holds after it
abbrev pub system_row : Row Event
system_row = Row.quantity (λ count. Row.block count (λ bytes. is_message None (System bytes)))

-- a message that begins with a data byte has the status that holds
abbrev pub running_row : Option ℕ → ℕ → Row Event
running_row (Some status) first = behind_first status first
running_row None first = Row.refused Status

-- what the first byte begins: FF a meta event, F0 and F7 a system event, a data byte a message with
-- the status that holds, and 80 to EF a message of a channel
abbrev pub begun_by : Option ℕ → ℕ → Row Event
begun_by running first =
    if first == 0xFF then meta_row
    else (if (first == 0xF0) || (first == 0xF7) then system_row
    else (if nat_lt first 0x80 then running_row running first
    else (if nat_lt first 0xF0 then message_row first
    else Row.refused Status)))

-- an event, where this status holds before it
abbrev pub event_row : Option ℕ → Row Event
event_row running = Row.byte (begun_by running)
