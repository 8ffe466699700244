-- Floors with the least sums over chains, or without them.
use Rattle.std.specs.Prelude.{◌≡◌, ℕ, ◌+◌, Bool, true, false, List, Option, Some}
use Rattle.fux_grid.specs.declared.cell.Cell.{Cell}
use Rattle.fux_grid.specs.declared.exercise.Exercise.{Exercise}
use Rattle.fux_judge.specs.Gauges.{least_of}
use Rattle.fux_judge.specs.Lawful.{IsAlive}
use Rattle.fux_judge.specs.Penalties.{paid}
use Rattle.floor_tables.specs.Floors.{IsLive, floor_of}
use Rattle.floor_tables.specs.Tables.{IsRest}
use Rattle.penalty_sheet.specs.declared.sheet.Sheet.{Sheet}

-- the floor of a prefix: what is settled in it, what its lines cost at least, and with chains the
-- least sum of those that go on from it
abbrev pub floor_with : Bool → Exercise → Sheet → List (List Cell) → Option ℕ
floor_with true ex sheet p = floor_of ex sheet p
floor_with false ex sheet p = Some (paid ex sheet p + least_of ex sheet p)

-- a live prefix: no strict break is settled in it, and with chains one goes on from it
abbrev pub IsLiveWith : Bool → Exercise → Sheet → List (List Cell) → Type 0
IsLiveWith true ex sheet p = IsLive ex sheet p
IsLiveWith false ex sheet p = IsAlive ex p

-- the least that is still to be paid behind a column of place i: with chains the least sum of those
-- that go on, and without them nothing
abbrev pub IsRestWith : Bool → Exercise → Sheet → ℕ → List Cell → ℕ → Type 0
IsRestWith true ex sheet i col rest = IsRest ex sheet i col (Some rest)
IsRestWith false ex sheet i col rest = rest ≡ 0
