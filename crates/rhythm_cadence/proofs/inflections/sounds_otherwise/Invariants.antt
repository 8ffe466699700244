use Rattle.std.proofs.Common.{◌≡◌, ◌≤◌, ◌-◌, ℕ, false, List, length}
use Rattle.fux_grid.specs.declared.cell.Cell.{Cell}
use Rattle.fux_grid.specs.Cells.{pitch_of}
use Rattle.fux_grid.specs.Columns.{cell_at, earlier}
use Rattle.rule_law.specs.Growth.{any_below}
use Rattle.rhythm_cadence.specs.Inflections.{is_inflection}
use Rattle.rhythm_cadence.specs.Rows.{holds_of_pitch}
use Rattle.rhythm_cadence.proofs.inflections.sounds_otherwise.Given as goal

-- none of the columns so far sounds the letter so
abbrev pub invariant-loop-k : goal.invariant-loop-k
invariant-loop-k g l =
    (s : List (List Cell)) (first : ℕ) → g.C.ColumnsAround.show l.around l.ex s first → first ≤ l.i - 16
    → l.i ≤ length s
    → any_below (λ k. holds_of_pitch (is_inflection l.p) (pitch_of (cell_at (earlier s l.i) l.v k))) l.k ≡ false
