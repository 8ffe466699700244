-- What the rules S10, S16 and S17 say of voices among the first ones, they read in the cells of
-- those.
use Rattle.std.specs.Prelude.{◌≡◌, ℕ, ◌<◌, ◌==◌, Bool, true, false, ◌&&◌, List, refl}
use Rattle.std.proofs.Common.{ap, ◌∙◌}
use Rattle.fux_grid.specs.declared.cell.Cell.{Cell}
use Rattle.fux_grid.specs.declared.exercise.Exercise.{Exercise}
use Rattle.fux_grid.specs.Cells.{cell_in, pitch_of}
use Rattle.rule_law.proofs.LowerVoices.{IsSameBelow, on_pair-same, one_starts-same, interval-same, both_move-same, into_perfect-same}
use Rattle.rule_law.specs.Nearby.{Pitches}
use Rattle.rule_law.specs.Pairs.{both_move, one_starts}
use Rattle.rule_law.specs.Terms.{equal_perfects, interval_in}
use Rattle.rule_law.specs.Voices.{is_below}
use Rattle.motion_rules.specs.Rows.{is_above, cross, move_in_parallel, are_outer, outer_move_into_perfect, near_rows}

module _ (n : ℕ) (a b : List Cell) (same : IsSameBelow n a b) where
  cross-same : (v w : ℕ) → v < n → w < n → cross a v w ≡ cross b v w
  cross-same v w h k =
      ap (λ t. t && is_above (pitch_of (cell_in a v)) (pitch_of (cell_in a w))) (one_starts-same n a b same v w h k)
      ∙ ap (λ c. one_starts b v w && is_above (pitch_of c) (pitch_of (cell_in a w))) (same.cells v h)
      ∙ ap (λ c. one_starts b v w && is_above (pitch_of (cell_in b v)) (pitch_of c)) (same.cells w k)

  parallel-same : (before : List Cell) (v w : ℕ) → v < n → w < n → move_in_parallel before a v w
      ≡ move_in_parallel before b v w
  parallel-same before v w h k =
      ap (λ t. t && equal_perfects (interval_in before v w) (interval_in a v w))
      (both_move-same n a b same v w h k before)
      ∙ ap (λ i. both_move before b v w && equal_perfects (interval_in before v w) i) (interval-same n a b same v w h k)

  pub near_rows-same : (rule : ℕ) (ex : Exercise) (voices i : ℕ) (before : List Cell) (previous : Pitches)
      → is_below n voices ≡ true → near_rows rule ex voices i before previous a
      ≡ near_rows rule ex voices i before previous b
  near_rows-same rule ex voices i before previous h = at (rule == 10) (rule == 16) refl refl
    where
      at : (s t : Bool) → (rule == 10) ≡ s → (rule == 16) ≡ t → near_rows rule ex voices i before previous a
          ≡ near_rows rule ex voices i before previous b
      at true t e f = rw e (on_pair-same ex n voices (cross a) (cross b) h cross-same)
      at false true e f = rw (e, f) (on_pair-same ex n voices (move_in_parallel before a) (move_in_parallel before b) h
          (parallel-same before))
      at false false e f =
          rw (e, f)
          (on_pair-same ex n voices (outer_move_into_perfect ex before a) (outer_move_into_perfect ex before b) h
          (λ v w j k. ap (λ t. are_outer ex v w && t) (into_perfect-same n a b same v w j k before)))
