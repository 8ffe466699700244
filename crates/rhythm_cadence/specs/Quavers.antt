-- S25: notes of one slot.
use Rattle.std.specs.Prelude.{ℕ, Bool, not, ◌&&◌, ◌||◌, nat_lt, List, length, Option}
use Rattle.fux_pitch.specs.declared.pitch.Pitch.{Pitch}
use Rattle.fux_grid.specs.declared.cell.Cell.{Cell}
use Rattle.fux_grid.specs.declared.exercise.Exercise.{Exercise}
use Rattle.fux_grid.specs.Cells.{cell_in, is_hold, pitch_of}
use Rattle.fux_grid.specs.Columns.{line, newest_column}
use Rattle.rule_law.specs.After.{next_onset, onset_pitch}
use Rattle.rule_law.specs.Places.{Row}
use Rattle.rule_law.specs.Terms.{holds_of, interval_of_pitches, is_step, previous_pitch, starts}
use Rattle.rule_law.specs.Whole.{is_whole}
use Rattle.rule_law.specs.Voices.{on_free_voice}

-- a note of exactly one slot starts: the column after it, where there is one, doesn't hold it
abbrev pub starts_quaver : List Cell → List (List Cell) → ℕ → Bool
starts_quaver now ahead v = starts (cell_in now v) && not (is_hold (cell_in (newest_column ahead) v))

-- there are both pitches, and they are a step apart
abbrev pub is_step_apart : Option Pitch → Option Pitch → Bool
is_step_apart p q = holds_of is_step (interval_of_pitches p q)

-- a note has a previous and a next note, and is entered and left by a step
abbrev pub is_stepwise : ℕ → List (List Cell) → List Cell → List (List Cell) → ℕ → Bool
is_stepwise i behind now ahead v =
    is_step_apart (previous_pitch (line v behind)) (pitch_of (cell_in now v))
    && is_step_apart (pitch_of (cell_in now v)) (onset_pitch (next_onset i v ahead))

-- a note of exactly one slot starts, and isn't so
abbrev pub is_bad_quaver : ℕ → List (List Cell) → List Cell → List (List Cell) → ℕ → Bool
is_bad_quaver i behind now ahead v = starts_quaver now ahead v && not (is_stepwise i behind now ahead v)

-- S25: in a free voice
abbrev pub quaver_row : Exercise → ℕ → Row Bool
quaver_row ex voices i behind now ahead = on_free_voice ex (is_bad_quaver i behind now ahead) voices

-- it is settled by the column after it, and at the last column of a setting at once
abbrev pub quaver_enough : Exercise → ℕ → Row Bool
quaver_enough ex voices i behind now ahead = nat_lt 0 (length ahead) || is_whole ex i ahead
