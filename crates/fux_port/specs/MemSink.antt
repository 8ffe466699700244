-- What contracts see of a sink in memory.
use Rattle.std.specs.Prelude.{◌≡◌, ℕ, ◌-◌, ◌<◌, ◌⊎◌, List, ◌++◌, IsTrue, length, min}
use Rattle.fux_port.specs.Counts.{next_count, is_next_in}

-- the bytes taken, how many it takes at most, in all and in one write, the numbers of the writes
-- that fail, and how many writes and faults there were
pub record SinkState : Type 0 where
  pub taken : List ℕ
  pub room : ℕ
  pub piece : ℕ
  pub fail_at : List ℕ
  pub calls : ℕ
  pub faults : ℕ

-- for how many bytes there is room left
abbrev pub room_left : SinkState → ℕ
room_left sink = sink.room - length sink.taken

-- the next write fails: its number is listed, or there is something to take and no room left
abbrev pub Refuses : SinkState → List ℕ → Type 0
Refuses sink piece = IsTrue (is_next_in sink.fail_at sink.calls) ⊎ ((room_left sink ≡ 0) × (0 < length piece))

-- how many bytes the next write takes if it does not fail
abbrev pub takes : SinkState → List ℕ → ℕ
takes sink piece = min sink.piece (min (room_left sink) (length piece))

-- the sink after it took bytes
abbrev pub after_taking : SinkState → List ℕ → SinkState
after_taking sink bytes = record sink { taken = sink.taken ++ bytes; calls = next_count sink.calls }

-- the sink after a write that failed
abbrev pub after_fault : SinkState → SinkState
after_fault sink = record sink { calls = next_count sink.calls; faults = next_count sink.faults }
