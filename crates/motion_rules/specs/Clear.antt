-- All rules of motion at once.
use Rattle.std.specs.Prelude.{◌≡◌, ℕ, ◌==◌, Bool, false, ◌&&◌, ◌||◌, nat_lt, List}
use Rattle.std.proofs.lemmas.Bool.{or_parts}
use Rattle.fux_grid.specs.declared.cell.Cell.{Cell}
use Rattle.fux_grid.specs.declared.exercise.Exercise.{Exercise}
use Rattle.rule_law.specs.Nearby.{Pitches}
use Rattle.rule_law.specs.Pairs.{some_pair}
use Rattle.rule_law.specs.Quiet.{either_none, on_pair-kept}
use Rattle.motion_rules.specs.Rows.{cross, move_in_parallel, near_rows, outer_move_into_perfect}

-- S10, S16 or S17 is broken by two voices, the lower first, if the exercise has both
abbrev pub breaks_motion : Exercise → List Cell → List Cell → ℕ → ℕ → Bool
breaks_motion ex before now v w =
    cross now v w || (move_in_parallel before now v w || outer_move_into_perfect ex before now v w)

abbrev pub move_badly : Exercise → List Cell → List Cell → ℕ → ℕ → Bool
move_badly ex before now v w = nat_lt w ex.voices && breaks_motion ex before now v w

-- or by some two voices
abbrev pub some_move_badly : Exercise → List Cell → List Cell → Bool
some_move_badly ex before now = some_pair (move_badly ex before now)

module _ (ex : Exercise) (before now : List Cell) (kept : some_move_badly ex before now ≡ false) where
  -- then each rule of motion is kept
  pub clear_rows : (rule voices i : ℕ) (previous : Pitches) → near_rows rule ex voices i before previous now ≡ false
  clear_rows rule voices i previous =
      either_none (rule == 10) _ _ false
      (on_pair-kept ex (breaks_motion ex before now) (cross now) voices kept
      (λ v w h. (or_parts (cross now v w)
      (move_in_parallel before now v w || outer_move_into_perfect ex before now v w) h).0))
      (either_none (rule == 16) _ _ false
      (on_pair-kept ex (breaks_motion ex before now) (move_in_parallel before now) voices kept
      (λ v w h. (or_parts (move_in_parallel before now v w) (outer_move_into_perfect ex before now v w)
      (or_parts (cross now v w) (move_in_parallel before now v w || outer_move_into_perfect ex before now v w)
      h).1).0))
      (on_pair-kept ex (breaks_motion ex before now) (outer_move_into_perfect ex before now) voices kept
      (λ v w h. (or_parts (move_in_parallel before now v w) (outer_move_into_perfect ex before now v w)
      (or_parts (cross now v w) (move_in_parallel before now v w || outer_move_into_perfect ex before now v w)
      h).1).1)))
