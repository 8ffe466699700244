-- A count that rose in one of several calls.
use Rattle.std.proofs.Common.{ℕ, ◌≤◌, arith}
use Rattle.fux_port.specs.Counts.{Rose}

-- it rose in a later call
pub rose_later : (old mid new : ℕ) → old ≤ mid → Rose mid new → Rose old new
rose_later old mid new before rose = grind arith
