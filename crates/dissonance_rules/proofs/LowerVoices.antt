-- What the rules S11 and S14 say of voices among the first ones, they read in the cells of those.
use Rattle.std.specs.Prelude.{◌≡◌, ℕ, ◌<◌, ◌==◌, Bool, true, false, ◌&&◌, List, refl}
use Rattle.std.proofs.Common.{ap, ◌∙◌}
use Rattle.fux_grid.specs.declared.cell.Cell.{Cell}
use Rattle.fux_grid.specs.declared.exercise.Exercise.{Exercise}
use Rattle.fux_grid.specs.Cells.{cell_in}
use Rattle.rule_law.specs.Bars.{begins_bar, begins_inner_bar}
use Rattle.rule_law.proofs.LowerVoices.{IsSameBelow, on_pair-same, same_key-same, clash-same}
use Rattle.rule_law.specs.Nearby.{Pitches}
use Rattle.rule_law.specs.Terms.{clash, starts}
use Rattle.rule_law.specs.Voices.{is_below}
use Rattle.dissonance_rules.specs.Rows.{meet_in_unison, clash_at_start, near_rows}

module _ (n : ℕ) (a b : List Cell) (same : IsSameBelow n a b) where
  starts_and_clash : (i v w : ℕ) → v < n → w < n → clash_at_start i a v w ≡ clash_at_start i b v w
  starts_and_clash i v w h k =
      ap (λ c. begins_bar i && starts c && starts (cell_in a w) && clash a v w) (same.cells v h)
      ∙ ap (λ c. begins_bar i && starts (cell_in b v) && starts c && clash a v w) (same.cells w k)
      ∙ ap (λ t. begins_bar i && starts (cell_in b v) && starts (cell_in b w) && t) (clash-same n a b same v w h k)

  pub near_rows-same : (rule : ℕ) (ex : Exercise) (voices i : ℕ) (before : List Cell) (previous : Pitches)
      → is_below n voices ≡ true → near_rows rule ex voices i before previous a
      ≡ near_rows rule ex voices i before previous b
  near_rows-same rule ex voices i before previous h = at (rule == 11) refl
    where
      at : (t : Bool) → (rule == 11) ≡ t → near_rows rule ex voices i before previous a
          ≡ near_rows rule ex voices i before previous b
      at true e =
          rw e (on_pair-same ex n voices (meet_in_unison ex i a) (meet_in_unison ex i b) h
          (λ v w j k. ap (λ t. begins_inner_bar ex i && t) (same_key-same n a b same v w j k)))
      at false e = rw e (on_pair-same ex n voices (clash_at_start i a) (clash_at_start i b) h (starts_and_clash i))
