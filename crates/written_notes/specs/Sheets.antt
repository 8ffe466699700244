-- The written notes of a bar on a sheet: what is given is written apart from what is left blank.
use Rattle.std.specs.Prelude.{ℕ, ◌+◌, ◌-◌, ◌*◌, ◌||◌, ◌&&◌, Bool, true, false, not, nat_lt, List, [], is_some, if◌then◌else◌}
use Rattle.std.specs.List.{flat_map, prefix_len, range_with_len}
use Rattle.fux_grid.specs.declared.cell.Cell.{Cell}
use Rattle.fux_grid.specs.declared.exercise.Exercise.{Exercise}
use Rattle.fux_grid.specs.declared.given.Given.{Given}
use Rattle.fux_grid.specs.declared.given.Given.TheVariants.{Blank, Rest, Tied, Hold, Start}
use Rattle.fux_grid.specs.Cells.{cell_in}
use Rattle.fux_grid.specs.Exercises.{given_at}
use Rattle.written_notes.specs.declared.bar.Written.{Written}
use Rattle.written_notes.specs.declared.runs.Run.{Run}
use Rattle.written_notes.specs.Bars.{bar_cells, bar_notes, run_notes}
use Rattle.written_notes.specs.Runs.{begins, cell_behind, run_at}

-- a rest is given
abbrev pub is_rest : Given → Bool
is_rest Blank = false
is_rest Rest = true
is_rest Tied = false
is_rest (Hold p) = false
is_rest (Start p) = false

-- a rest is given at a slot of a bar of a voice; bars are counted from 0
abbrev pub rests_at : Exercise → ℕ → ℕ → ℕ → Bool
rests_at ex v bar slot = is_rest (given_at ex (8 * bar + slot) v)

-- one of two is so, and the other isn't
abbrev pub differ : Bool → Bool → Bool
differ true there = not there
differ false there = there

-- a part of a bar with these cells begins where a run does, and where given rests begin or end
abbrev pub part_begins : Exercise → ℕ → ℕ → List Cell → ℕ → Bool
part_begins ex v bar cells slot =
    begins cells slot || differ (rests_at ex v bar (slot - 1)) (rests_at ex v bar slot)

-- a part has its first slot and all behind it at which no other part begins
abbrev pub part_length : Exercise → ℕ → ℕ → List Cell → ℕ → ℕ
part_length ex v bar cells slot =
    1 + prefix_len (λ k. not (part_begins ex v bar cells k)) (range_with_len (slot + 1) (8 - (slot + 1)))

-- so many slots of a run, where this is the first cell behind the bar
abbrev pub shorter : List Cell → Cell → Run → ℕ → Run
shorter cells next run slots =
    record run { slots = slots; after = cell_behind cells next (run.slot + slots) }

-- the part that begins at a slot
abbrev pub part_at : Exercise → ℕ → ℕ → List Cell → Cell → ℕ → Run
part_at ex v bar cells next slot =
    shorter cells next (run_at cells next slot) (part_length ex v bar cells slot)

-- what is written of the part at a slot, where one begins there
abbrev pub part_notes : Exercise → ℕ → ℕ → List Cell → Cell → ℕ → List Written
part_notes ex v bar cells next slot =
    if part_begins ex v bar cells slot then run_notes (part_at ex v bar cells next slot) else []

-- the written notes of a bar with these cells, where `next` is the cell behind them
abbrev pub parts_notes : Exercise → ℕ → ℕ → List Cell → Cell → List Written
parts_notes ex v bar cells next = flat_map (part_notes ex v bar cells next) (range_with_len 0 8)

-- the written notes of a bar of a voice's line without a setting
abbrev pub given_notes : Exercise → ℕ → List Cell → ℕ → List Written
given_notes ex v line bar = parts_notes ex v bar (bar_cells line bar) (cell_in line (8 * bar + 8))

-- the written notes of a bar of a voice's line on the sheet of an exercise
abbrev pub sheet_notes : Exercise → ℕ → List Cell → ℕ → List Written
sheet_notes ex v line bar =
    if is_some ex.setting then bar_notes line bar else given_notes ex v line bar

-- a rest at a slot of a bar is left blank: there is no setting, and no rest is given there
abbrev pub is_left : Exercise → ℕ → ℕ → ℕ → Bool
is_left ex v bar slot = not (is_some ex.setting) && nat_lt slot 8 && not (rests_at ex v bar slot)
