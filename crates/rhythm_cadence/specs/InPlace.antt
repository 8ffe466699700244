-- The rules of one free voice but for its shapes, all at once.
use Rattle.std.specs.Prelude.{◌≡◌, ℕ, ◌==◌, Bool, false, ◌&&◌, ◌||◌, nat_lt, List, [], ◌∷◌, Option}
use Rattle.std.specs.List.{list_any}
use Rattle.std.proofs.lemmas.Bool.{or_parts}
use Rattle.fux_pitch.specs.declared.pitch.Pitch.{Pitch}
use Rattle.fux_grid.specs.declared.cell.Cell.{Cell}
use Rattle.fux_grid.specs.declared.exercise.Exercise.{Exercise}
use Rattle.fux_grid.specs.Cells.{cell_in}
use Rattle.rule_law.specs.Nearby.{Pitches, pitch_at}
use Rattle.rule_law.specs.Quiet.{either_none, on_free_voice-kept}
use Rattle.rule_law.specs.Voices.{is_free, on_free_voice}
use Rattle.rhythm_cadence.specs.Rows.{leaves_gamut, leaves_range, opens_badly, voice_rule}

-- S1, S2 or S12 is broken
abbrev pub is_out_of_place : Exercise → ℕ → Option Pitch → List Cell → ℕ → Bool
is_out_of_place ex i previous now v =
    leaves_range ex v i (cell_in now v) || (leaves_gamut ex i (cell_in now v) || opens_badly ex previous now v)

-- in this voice, if it is there and free
abbrev pub is_out_of_place_at : Exercise → ℕ → Pitches → List Cell → ℕ → Bool
is_out_of_place_at ex i previous now v =
    nat_lt v ex.voices && (is_free ex v && is_out_of_place ex i (pitch_at previous v) now v)

-- or in some voice
abbrev pub some_out_of_place : Exercise → ℕ → Pitches → List Cell → Bool
some_out_of_place ex i previous now = list_any (is_out_of_place_at ex i previous now) (0 ∷ 1 ∷ 2 ∷ 3 ∷ [])

module _ (ex : Exercise) (i : ℕ) (previous : Pitches) (now : List Cell)
    (kept : some_out_of_place ex i previous now ≡ false) where
  rule_kept : (rule v : ℕ) → is_out_of_place ex i (pitch_at previous v) now v ≡ false
      → voice_rule rule ex v i (pitch_at previous v) now ≡ false
  rule_kept rule v h =
      let a = or_parts (leaves_range ex v i (cell_in now v))
      (leaves_gamut ex i (cell_in now v) || opens_badly ex (pitch_at previous v) now v) h in
      let b = or_parts (leaves_gamut ex i (cell_in now v)) (opens_badly ex (pitch_at previous v) now v) a.1 in
      either_none (rule == 1) _ _ false a.0 (either_none (rule == 2) _ _ false b.0 b.1)

  -- then each of them is kept
  pub in_place_rows : (rule voices : ℕ) → on_free_voice ex (λ v. voice_rule rule ex v i (pitch_at previous v) now)
      voices ≡ false
  in_place_rows rule voices =
      on_free_voice-kept ex (λ v. is_out_of_place ex i (pitch_at previous v) now v)
      (λ v. voice_rule rule ex v i (pitch_at previous v) now) voices kept
      (rule_kept rule 0) (rule_kept rule 1) (rule_kept rule 2) (rule_kept rule 3)
