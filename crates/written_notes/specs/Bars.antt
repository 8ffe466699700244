-- The written notes and rests of a bar.
use Rattle.std.specs.Prelude.{ℕ, ◌+◌, ◌*◌, ◌==◌, ◌&&◌, List, [], ◌∷◌, is_some, map, if◌then◌else◌}
use Rattle.std.specs.List.{flat_map, range_with_len}
use Rattle.fux_grid.specs.declared.cell.Cell.{Cell}
use Rattle.fux_grid.specs.Cells.{cell_in, pitch_of, is_hold}
use Rattle.written_notes.specs.declared.bar.Written.{Written}
use Rattle.written_notes.specs.declared.runs.Run.{Run}
use Rattle.written_notes.specs.declared.signs.Sign.TheVariants.{Plain}
use Rattle.written_notes.specs.Runs.{begins, run_at}
use Rattle.written_notes.specs.Values.{value_of}

-- the one note or rest of a run: it is tied to what goes on behind it, and to what it goes on with
abbrev pub note_of : Run → Written
note_of run = record {
  slot = run.slot;
  slots = run.slots;
  value = value_of run.slots;
  pitch = pitch_of run.cell;
  tie_in = is_hold run.cell;
  tie_out = is_some (pitch_of run.cell) && is_hold run.after;
  sign = run.sign;
}

-- the first four slots of a run of five, and the fifth, which is tied to them
abbrev pub head_of : Run → Written
head_of run = record (note_of run) {
  slots = 4;
  value = value_of 4;
  tie_out = is_some (pitch_of run.cell);
}

abbrev pub tail_of : Run → Written
tail_of run = record (note_of run) {
  slot = run.slot + 4;
  slots = 1;
  value = value_of 1;
  tie_in = is_some (pitch_of run.cell);
  sign = Plain;
}

-- five slots are written by two notes, all other runs by one
abbrev pub run_notes : Run → List Written
run_notes run = if run.slots == 5 then head_of run ∷ tail_of run ∷ [] else note_of run ∷ []

-- what is written of the run at a slot, where one begins there
abbrev pub notes_at : List Cell → Cell → ℕ → List Written
notes_at bar next slot = if begins bar slot then run_notes (run_at bar next slot) else []

-- the written notes of a bar's cells, where `next` is the cell behind them
abbrev pub cells_notes : List Cell → Cell → List Written
cells_notes bar next = flat_map (notes_at bar next) (range_with_len 0 8)

-- the cells of a bar of a line, counted from 0, rests beyond its end
abbrev pub bar_cells : List Cell → ℕ → List Cell
bar_cells line bar = map (λ slot. cell_in line (8 * bar + slot)) (range_with_len 0 8)

-- the written notes of a bar of a line
abbrev pub bar_notes : List Cell → ℕ → List Written
bar_notes line bar = cells_notes (bar_cells line bar) (cell_in line (8 * bar + 8))
