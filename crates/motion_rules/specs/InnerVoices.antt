-- Q12: inner voices that move alike into a perfect interval.
use Rattle.std.specs.Prelude.{ℕ, Bool, not, ◌&&◌, nat_le, List, if◌then◌else◌}
use Rattle.fux_grid.specs.declared.cell.Cell.{Cell}
use Rattle.fux_grid.specs.declared.exercise.Exercise.{Exercise}
use Rattle.rule_law.specs.Nearby.{NearRow}
use Rattle.rule_law.specs.Pairs.{count_pairs, move_into_perfect}
use Rattle.motion_rules.specs.Rows.{are_outer}

-- two voices, but not the lowest with the highest, both rise or both fall into a perfect interval
abbrev pub inner_move_into_perfect : Exercise → List Cell → List Cell → ℕ → ℕ → Bool
inner_move_into_perfect ex before now v w = not (are_outer ex v w) && move_into_perfect before now v w

-- Q12: in three or four voices, how many pairs do
abbrev pub inner_moves : Exercise → List Cell → List Cell → ℕ
inner_moves ex before now =
    if nat_le 3 ex.voices then count_pairs (inner_move_into_perfect ex before now) else 0

abbrev pub inner_toll : Exercise → NearRow ℕ
inner_toll ex i before previous now = inner_moves ex before now
