-- At a quiet column no rule of motion is broken, and no toll of motion costs anything.
use Rattle.std.specs.Prelude.{◌≡◌, ℕ, ◌==◌, true, false, ◌&&◌, List}
use Rattle.std.proofs.Common.{ap}
use Rattle.std.proofs.lemmas.Bool.{and_right}
use Rattle.fux_grid.specs.declared.cell.Cell.{Cell}
use Rattle.fux_grid.specs.declared.exercise.Exercise.{Exercise}
use Rattle.fux_grid.specs.Cells.{cell_in, pitch_of}
use Rattle.rule_law.specs.Nearby.{Pitches}
use Rattle.rule_law.specs.Pairs.{move_alike, sound_perfect}
use Rattle.rule_law.specs.Quiet.{is_quiet, quiet_alike, quiet_moves, quiet_pair, count_pairs-none, either_none, on_pair-none}
use Rattle.rule_law.specs.Terms.{equal_perfects, interval_in}
use Rattle.motion_rules.specs.Rows.{are_outer, is_above, near_rows, toll_rows}

module _ (ex : Exercise) (i : ℕ) (now : List Cell) (quiet : is_quiet i now ≡ true) where
  pub quiet_rows : (rule voices : ℕ) (before : List Cell) (previous : Pitches)
      → near_rows rule ex voices i before previous now ≡ false
  quiet_rows rule voices before previous =
      either_none (rule == 10) _ _ false
      (on_pair-none ex _ voices (λ v w. ap (λ b. b && is_above (pitch_of (cell_in now v)) (pitch_of (cell_in now w)))
      (quiet_pair i now quiet v w)))
      (either_none (rule == 16) _ _ false
      (on_pair-none ex _ voices (λ v w. ap (λ b. b && equal_perfects (interval_in before v w) (interval_in now v w))
      (quiet_moves i before now quiet v w)))
      (on_pair-none ex _ voices (λ v w. and_right (are_outer ex v w) _
      (ap (λ b. b && sound_perfect now v w) (quiet_alike i before now quiet v w)))))

  pub quiet_tolls : (toll : ℕ) (before : List Cell) (previous : Pitches) → toll_rows toll ex i before previous now ≡ 0
  quiet_tolls toll before previous = count_pairs-none (move_alike before now) (quiet_alike i before now quiet)
