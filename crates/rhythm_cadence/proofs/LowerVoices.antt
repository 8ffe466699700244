-- What the rules S13 and S24 say of voices among the first ones, they read in the cells of those.
-- (S12 reads the cantus, which may lie above.)
use Rattle.std.specs.Prelude.{◌≡◌, ℕ, zero, suc, ◌<◌, ◌==◌, Bool, true, false, not, ◌&&◌, ◌||◌, List, refl}
use Rattle.std.proofs.Common.{ap, arith}
use Rattle.std.proofs.lemmas.Bool.Decides.{nat_tests}
use Rattle.std.proofs.lemmas.Bool.{both_ways, or_from}
use Rattle.fux_grid.specs.declared.cell.Cell.{Cell}
use Rattle.fux_grid.specs.declared.exercise.Exercise.{Exercise}
use Rattle.fux_grid.specs.Cells.{pitch_of}
use Rattle.rule_law.proofs.LowerVoices.{IsSameBelow, on_voice-same, on_pair-same, interval-same}
use Rattle.rule_law.specs.Nearby.{Pitches}
use Rattle.rule_law.specs.Terms.{holds_of}
use Rattle.rule_law.specs.Voices.{is_below}
use Rattle.rhythm_cadence.specs.Rows.{holds_of_pitch, begins_last_bar, is_final, fits_ending, ends_badly, lacks_final, near_rows}

-- the rules of endings
abbrev pub is_of_ending : ℕ → Bool
is_of_ending rule = (rule == 13) || (rule == 24)

not_first : (v : ℕ) → (suc v == 0) ≡ false
not_first v = grind (arith, nat_tests)

module _ (n : ℕ) (a b : List Cell) (same : IsSameBelow n a b) (ex : Exercise) (i : ℕ) where
  ending-same : (v w : ℕ) → v < n → w < n → ((v == 0) && ends_badly ex i a w) ≡ ((v == 0) && ends_badly ex i b w)
  ending-same zero w h k =
      ap (λ t. begins_last_bar ex i && not (holds_of (fits_ending ex) t)) (interval-same n a b same 0 w h k)
  ending-same (suc v) w h k = rw (not_first v) refl

  final-same : (v : ℕ) → v < n → ((v == 0) && lacks_final ex i a) ≡ ((v == 0) && lacks_final ex i b)
  final-same zero h = ap (λ c. begins_last_bar ex i && not (holds_of_pitch (is_final ex) (pitch_of c))) (same.cells 0 h)
  final-same (suc v) h = rw (not_first v) refl

  pub near_rows-same : (rule voices : ℕ) (before : List Cell) (previous : Pitches) → is_of_ending rule ≡ true
      → is_below n voices ≡ true → near_rows rule ex voices i before previous a
      ≡ near_rows rule ex voices i before previous b
  near_rows-same rule voices before previous ending h = at (rule == 13) (rule == 24) refl refl
    where
      at : (s t : Bool) → (rule == 13) ≡ s → (rule == 24) ≡ t → near_rows rule ex voices i before previous a
          ≡ near_rows rule ex voices i before previous b
      at true t e f = rw e (on_pair-same ex n voices (λ v w. (v == 0) && ends_badly ex i a w)
          (λ v w. (v == 0) && ends_badly ex i b w) h ending-same)
      at false true e f = rw (e, f) (on_voice-same ex n voices (λ v. (v == 0) && lacks_final ex i a)
          (λ v. (v == 0) && lacks_final ex i b) h final-same)
      at false false e f = absurd (both_ways (is_of_ending rule) (or_from (rule == 13) (rule == 24) e f) ending)
