-- The runs of a bar: cells that one note or one rest fills.
use Rattle.std.specs.Prelude.{ℕ, ◌+◌, ◌-◌, ◌==◌, ◌||◌, Bool, true, false, not, nat_lt, List, [], ◌∷◌, drop, if◌then◌else◌}
use Rattle.fux_grid.specs.declared.cell.Cell.{Cell}
use Rattle.fux_grid.specs.declared.cell.Cell.TheVariants.{Rest, Hold, Start}
use Rattle.fux_grid.specs.Cells.{cell_in}
use Rattle.written_notes.specs.declared.runs.Run.{Run}
use Rattle.written_notes.specs.Signs.{sign_at}

-- the second cell goes on with what the first one does: with its note, or with its rest
abbrev pub goes_on : Cell → Cell → Bool
goes_on Rest Rest = true
goes_on Rest (Hold p) = false
goes_on Rest (Start p) = false
goes_on (Hold q) Rest = false
goes_on (Hold q) (Hold p) = true
goes_on (Hold q) (Start p) = false
goes_on (Start q) Rest = false
goes_on (Start q) (Hold p) = true
goes_on (Start q) (Start p) = false

-- a run begins at each slot that doesn't go on with the one before it, and at the first
abbrev pub begins : List Cell → ℕ → Bool
begins bar slot = (slot == 0) || not (goes_on (cell_in bar (slot - 1)) (cell_in bar slot))

-- how many of these cells, from the first one on, go on with a cell
abbrev pub held_on : Cell → List Cell → ℕ
held_on first [] = 0
held_on first (cell ∷ cells) = if goes_on first cell then 1 + held_on first cells else 0

-- a run has its first cell and all behind it in the bar that go on with it
abbrev pub run_length : List Cell → ℕ → ℕ
run_length bar slot = 1 + held_on (cell_in bar slot) (drop (slot + 1) bar)

-- the cell at a slot, or the one behind the bar
abbrev pub cell_behind : List Cell → Cell → ℕ → Cell
cell_behind bar next slot = if nat_lt slot 8 then cell_in bar slot else next

-- the run that begins at a slot of a bar, where this is the first cell behind the bar
abbrev pub run_at : List Cell → Cell → ℕ → Run
run_at bar next slot = record {
  slot = slot;
  slots = run_length bar slot;
  cell = cell_in bar slot;
  after = cell_behind bar next (slot + run_length bar slot);
  sign = sign_at bar slot;
}
