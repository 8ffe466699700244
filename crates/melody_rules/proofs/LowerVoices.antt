-- What the rules of melody say of a voice among the first ones, they read in its own cell.
use Rattle.std.specs.Prelude.{◌≡◌, ℕ, true, List}
use Rattle.std.proofs.Common.{ap}
use Rattle.fux_grid.specs.declared.cell.Cell.{Cell}
use Rattle.fux_grid.specs.declared.exercise.Exercise.{Exercise}
use Rattle.fux_grid.specs.Cells.{cell_in}
use Rattle.fux_grid.specs.Columns.{line}
use Rattle.fux_grid.specs.Exercises.{species_in}
use Rattle.rule_law.proofs.LowerVoices.{IsSameBelow, on_free_voice-same}
use Rattle.rule_law.specs.Nearby.{Pitches, pitch_at}
use Rattle.rule_law.specs.Voices.{is_below}
use Rattle.melody_rules.specs.Rows.{pitches, window_rule, window_rows, voice_rule, near_rows}

module _ (n : ℕ) (a b : List Cell) (same : IsSameBelow n a b) (rule : ℕ) (ex : Exercise) (voices i : ℕ)
    (within : is_below n voices ≡ true) where
  pub near_rows-same : (before : List Cell) (previous : Pitches) → near_rows rule ex voices i before previous a
      ≡ near_rows rule ex voices i before previous b
  near_rows-same before previous =
      on_free_voice-same ex n voices (λ v. voice_rule rule (species_in ex v) (pitch_at previous v) (cell_in a v))
      (λ v. voice_rule rule (species_in ex v) (pitch_at previous v) (cell_in b v)) within
      (λ v h. ap (voice_rule rule (species_in ex v) (pitch_at previous v)) (same.cells v h))

  pub window_rows-same : (behind ahead : List (List Cell)) → window_rows rule ex voices i behind a ahead
      ≡ window_rows rule ex voices i behind b ahead
  window_rows-same behind ahead =
      on_free_voice-same ex n voices (λ v. window_rule rule (pitches (line v behind)) (cell_in a v))
      (λ v. window_rule rule (pitches (line v behind)) (cell_in b v)) within
      (λ v h. ap (window_rule rule (pitches (line v behind))) (same.cells v h))
