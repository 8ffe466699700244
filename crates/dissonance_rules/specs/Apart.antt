-- All rules of dissonance at once.
use Rattle.std.specs.Prelude.{◌≡◌, ℕ, ◌==◌, Bool, false, ◌&&◌, ◌||◌, nat_lt, List}
use Rattle.std.proofs.lemmas.Bool.{and_right, or_parts}
use Rattle.fux_grid.specs.declared.cell.Cell.{Cell}
use Rattle.fux_grid.specs.declared.exercise.Exercise.{Exercise}
use Rattle.fux_grid.specs.Cells.{cell_in}
use Rattle.rule_law.specs.Bars.{begins_bar, begins_inner_bar}
use Rattle.rule_law.specs.Nearby.{Pitches}
use Rattle.rule_law.specs.Pairs.{some_pair, sound_same_key}
use Rattle.rule_law.specs.Quiet.{either_none, on_pair-kept}
use Rattle.rule_law.specs.Terms.{clash, starts}
use Rattle.dissonance_rules.specs.Rows.{clash_at_start, meet_in_unison, near_rows}

-- two voices sound the same key or clash
abbrev pub are_close : List Cell → ℕ → ℕ → Bool
are_close now v w = sound_same_key now v w || clash now v w

-- they do, the lower first, if the exercise has both
abbrev pub come_close : Exercise → List Cell → ℕ → ℕ → Bool
come_close ex now v w = nat_lt w ex.voices && are_close now v w

-- or some two voices do
abbrev pub some_come_close : Exercise → List Cell → Bool
some_come_close ex now = some_pair (come_close ex now)

module _ (ex : Exercise) (now : List Cell) (apart : some_come_close ex now ≡ false) where
  -- then each rule of dissonance is kept
  pub apart_rows : (rule voices i : ℕ) (before : List Cell) (previous : Pitches)
      → near_rows rule ex voices i before previous now ≡ false
  apart_rows rule voices i before previous =
      either_none (rule == 11) _ _ false
      (on_pair-kept ex (are_close now) (meet_in_unison ex i now) voices apart
      (λ v w h. and_right (begins_inner_bar ex i) (sound_same_key now v w)
      (or_parts (sound_same_key now v w) (clash now v w) h).0))
      (on_pair-kept ex (are_close now) (clash_at_start i now) voices apart
      (λ v w h. and_right (begins_bar i && starts (cell_in now v) && starts (cell_in now w)) (clash now v w)
      (or_parts (sound_same_key now v w) (clash now v w) h).1))
