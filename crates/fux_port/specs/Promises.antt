-- What a shelf promises of its reads, and a sink of its writes.
use Rattle.std.specs.Prelude.{ℕ, ◌+◌, ◌≤◌, List}
use Rattle.fux_port.specs.Counts.{Rose}

-- reads of a file by offsets
abbrev pub Reads : Type 1
Reads = List ℕ → ℕ → Type 0

-- what was promised is promised still
abbrev pub Keeps : Reads → Reads → Type 0
Keeps old new = (name : List ℕ) (offset : ℕ) → old name offset → new name offset

-- room for bytes that were taken is used up, and what was promised beyond them is promised still
abbrev pub KeepsRoom : (ℕ → Type 0) → (ℕ → Type 0) → ℕ → Type 0
KeepsRoom old new taken = (more : ℕ) → old (taken + more) → new more

-- the same where some bytes wait: room for these and a line is used up, but for those that wait
-- then
abbrev pub KeepsBehind : (ℕ → Type 0) → (ℕ → Type 0) → ℕ → ℕ → Type 0
KeepsBehind old new before after = (more : ℕ) → old (before + more) → new (after + more)

-- why so many bytes could not be written: the count of faults rose, and they were not promised
abbrev pub Fails : {K : Type 0} → (K → ℕ) → (K → ℕ → Type 0) → K → K → ℕ → Type 0
Fails faults serves old new count = Rose (faults old) (faults new) × (serves old count → ⊥)

-- each write is promised
abbrev pub TakesAll : (ℕ → Type 0) → Type 0
TakesAll serves = (room : ℕ) → serves room

-- each read of a file up to a limit is promised
abbrev pub ServesWhole : Reads → List ℕ → ℕ → Type 0
ServesWhole serves name limit = (offset : ℕ) → offset ≤ limit → serves name offset
