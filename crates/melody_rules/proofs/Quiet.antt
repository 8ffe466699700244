-- Where no note starts, no rule of melody is broken, and no toll of melody costs anything.
use Rattle.std.specs.Prelude.{◌≡◌, ℕ, ◌==◌, Bool, false, not, ◌&&◌, nat_le, List, Option, Some, None, refl}
use Rattle.std.proofs.Common.{ap}
use Rattle.std.proofs.lemmas.Bool.{and_right}
use Rattle.fux_pitch.specs.declared.pitch.Pitch.{Pitch}
use Rattle.fux_pitch.specs.declared.interval.Interval.{Interval}
use Rattle.fux_grid.specs.declared.cell.Cell.{Cell}
use Rattle.fux_grid.specs.declared.cell.Cell.TheVariants.{Rest, Hold, Start}
use Rattle.fux_grid.specs.declared.exercise.Exercise.{Exercise}
use Rattle.fux_grid.specs.Cells.{cell_in}
use Rattle.fux_grid.specs.Columns.{line}
use Rattle.fux_grid.specs.Exercises.{species_in}
use Rattle.rule_law.specs.Nearby.{Pitches, pitch_at}
use Rattle.rule_law.specs.Quiet.{count_free-none, either_none, on_free_voice-none}
use Rattle.rule_law.specs.Terms.{starts, degrees_without_sign, holds_of, interval_of_pitches, is_step, move_from, opposite_ways, semitones_without_sign}
use Rattle.melody_rules.specs.Rows.{bars_repetitions, before_last, charges_move, holds_of_both, last_of, latest_turning, leaves_leap_open, near_rows, on_moves, open_leaps, pitches, toll_rows, voice_rule, window_rows, window_rule}

-- no second of two moves
no_second : (test : Interval → Interval → Bool) (i : Option Interval) → holds_of_both test i None ≡ false
no_second test None = refl
no_second test (Some i) = refl

still_moves : (test : Interval → Interval → Bool) (before last : Option Pitch) (c : Cell) → starts c ≡ false
    → on_moves test before last c ≡ false
still_moves test before last Rest h = no_second test (interval_of_pitches before last)
still_moves test before last (Hold p) h = no_second test (interval_of_pitches before last)
still_moves test before last (Start p) h = cc

-- a cell in which no note starts breaks nothing
still_near : (rule species : ℕ) (previous : Option Pitch) (c : Cell) → starts c ≡ false
    → voice_rule rule species previous c ≡ false
still_near rule species previous Rest h =
    either_none (rule == 4) _ _ false refl
    (either_none (rule == 5) _ _ false (and_right (bars_repetitions species) false refl) refl)
still_near rule species previous (Hold p) h =
    either_none (rule == 4) _ _ false refl
    (either_none (rule == 5) _ _ false (and_right (bars_repetitions species) false refl) refl)
still_near rule species previous (Start p) h = cc

no_move : (test : Interval → Bool) (previous : Option Pitch) (c : Cell) → starts c ≡ false
    → holds_of test (move_from previous c) ≡ false
no_move test previous Rest h = refl
no_move test previous (Hold p) h = refl
no_move test previous (Start p) h = cc

still_back : (rule : ℕ) (ps : List Pitch) (c : Cell) → starts c ≡ false → window_rule rule ps c ≡ false
still_back rule ps Rest h =
    either_none (rule == 6) _ _ false (and_right _ false refl)
    (either_none (rule == 7) _ _ false (no_second _ (interval_of_pitches (before_last ps) (last_of ps)))
    (either_none (rule == 8) _ _ false (ap
    (λ b. b && holds_of (λ k. semitones_without_sign k == 6) (interval_of_pitches (latest_turning ps) (last_of ps)))
    (no_second _ (interval_of_pitches (before_last ps) (last_of ps)))) refl))
still_back rule ps (Hold p) h =
    either_none (rule == 6) _ _ false (and_right _ false refl)
    (either_none (rule == 7) _ _ false (no_second _ (interval_of_pitches (before_last ps) (last_of ps)))
    (either_none (rule == 8) _ _ false (ap
    (λ b. b && holds_of (λ k. semitones_without_sign k == 6) (interval_of_pitches (latest_turning ps) (last_of ps)))
    (no_second _ (interval_of_pitches (before_last ps) (last_of ps)))) refl))
still_back rule ps (Start p) h = cc

module _ (ex : Exercise) (now : List Cell) (still : (v : ℕ) → starts (cell_in now v) ≡ false) where
  pub still_near_rows : (rule voices i : ℕ) (before : List Cell) (previous : Pitches)
      → near_rows rule ex voices i before previous now ≡ false
  still_near_rows rule voices i before previous =
      on_free_voice-none ex _ voices (λ v. still_near rule (species_in ex v) (pitch_at previous v) (cell_in now v)
      (still v))

  pub still_window_rows : (rule voices i : ℕ) (behind ahead : List (List Cell))
      → window_rows rule ex voices i behind now ahead ≡ false
  still_window_rows rule voices i behind ahead =
      on_free_voice-none ex _ voices (λ v. still_back rule (pitches (line v behind)) (cell_in now v) (still v))

  pub still_tolls : (toll i : ℕ) (before : List Cell) (previous : Pitches) → toll_rows toll ex i before previous now ≡ 0
  unfolding toll_rows
  still_tolls toll i before previous =
      count_free-none ex _ (λ v. no_move (charges_move toll) (pitch_at previous v) (cell_in now v) (still v))

  pub still_leaps : (i : ℕ) (behind ahead : List (List Cell)) → open_leaps ex i behind now ahead ≡ 0
  unfolding open_leaps
  still_leaps i behind ahead =
      count_free-none ex (λ v. leaves_leap_open (before_last (pitches (line v behind)))
      (last_of (pitches (line v behind))) (cell_in now v))
      (λ v. still_moves (λ i j. nat_le 3 (degrees_without_sign i) && not (is_step j && opposite_ways i j))
      (before_last (pitches (line v behind))) (last_of (pitches (line v behind))) (cell_in now v) (still v))
