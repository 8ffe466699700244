-- At a quiet column no rule of rhythm and cadence but S3 is broken.
use Rattle.std.specs.Prelude.{◌≡◌, ℕ, ◌==◌, true, false, not, ◌&&◌, nat_lt, List, Option, Some, None, is_none, if◌then◌else◌, refl}
use Rattle.std.proofs.Common.{ap}
use Rattle.std.proofs.lemmas.Bool.{and_right}
use Rattle.fux_pitch.specs.declared.pitch.Pitch.{Pitch}
use Rattle.fux_grid.specs.declared.cell.Cell.{Cell}
use Rattle.fux_grid.specs.declared.cell.Cell.TheVariants.{Rest, Hold, Start}
use Rattle.fux_grid.specs.declared.exercise.Exercise.{Exercise}
use Rattle.fux_grid.specs.Cells.{cell_in, pitch_of}
use Rattle.fux_grid.specs.Exercises.{bar_of, species_in}
use Rattle.rule_law.specs.Bars.{begins_bar, begins_inner_bar}
use Rattle.rule_law.specs.Nearby.{Pitches, pitch_at}
use Rattle.rule_law.specs.Quiet.{count_free-none, is_quiet, quiet_cell, quiet_slot, either_none, on_free_voice-none, on_pair-none, on_voice-none}
use Rattle.rule_law.specs.Terms.{starts, started_pitch, holds_of, interval_in, lowest_voice}
use Rattle.rhythm_cadence.specs.Inflections.{inflection_toll, is_inflected, sounds_otherwise}
use Rattle.rhythm_cadence.specs.Patterns.{lacks_ligature, missing_ligatures}
use Rattle.rhythm_cadence.specs.Rows.{fits_ending, fits_opening, holds_of_pitch, is_final, near_rows, pitch_brought, voice_rule}

-- a voice that neither starts a note nor is at the beginning of a bar brings no pitch
brings_none : (i : ℕ) (c : Cell) → begins_bar i ≡ false → starts c ≡ false → pitch_brought i c ≡ None
brings_none i Rest slot still = refl
brings_none i (Hold p) slot still = ap (λ b. if b then Some p else None) slot
brings_none i (Start p) slot still = cc

-- no ligature is missing but at the beginning of an inner bar
pub none_missing : (ex : Exercise) (i : ℕ) (now : List Cell) → begins_inner_bar ex i ≡ false
    → missing_ligatures ex i now ≡ 0
unfolding missing_ligatures
none_missing ex i now e =
    count_free-none ex (λ v. nat_lt v ex.voices && lacks_ligature ex i now v)
    (λ v. and_right (nat_lt v ex.voices) (lacks_ligature ex i now v)
    (ap (λ b. b && (species_in ex v == 4) && starts (cell_in now v)) e))

-- no note starts in another alteration where none starts
stands_still : (v : ℕ) (behind : List (List Cell)) (c : Cell) → starts c ≡ false
    → holds_of_pitch (sounds_otherwise v behind) (started_pitch c) ≡ false
stands_still v behind Rest still = refl
stands_still v behind (Hold p) still = refl
stands_still v behind (Start p) still = cc

pub none_inflected : (ex : Exercise) (i : ℕ) (behind : List (List Cell)) (now : List Cell) (ahead : List (List Cell))
    → is_quiet i now ≡ true → inflection_toll ex i behind now ahead ≡ 0
unfolding inflection_toll
none_inflected ex i behind now ahead quiet =
    count_free-none ex (λ v. nat_lt v ex.voices && is_inflected v behind now)
    (λ v. and_right (nat_lt v ex.voices) (is_inflected v behind now)
    (stands_still v behind (cell_in now v) (quiet_cell i now quiet v)))

module _ (ex : Exercise) (i : ℕ) (now : List Cell) (quiet : is_quiet i now ≡ true) where
  voice_unbroken : (rule v : ℕ) (previous : Option Pitch) → voice_rule rule ex v i previous now ≡ false
  voice_unbroken rule v previous =
      let none : pitch_brought i (cell_in now v)
      ≡ None = brings_none i (cell_in now v) (quiet_slot i now quiet) (quiet_cell i now quiet v) in
      either_none (rule == 1) _ _ false (ap (holds_of_pitch _) none)
      (either_none (rule == 2) _ _ false (ap (holds_of_pitch _) none)
      (ap (λ b. b && is_none previous && not (fits_opening ex now v (lowest_voice now))) (quiet_cell i now quiet v)))

  pub quiet_rows : (rule voices : ℕ) (before : List Cell) (previous : Pitches)
      → near_rows rule ex voices i before previous now ≡ false
  quiet_rows rule voices before previous =
      either_none (rule == 13) _ _ false
      (on_pair-none ex _ voices (λ v w. and_right (v == 0) _
      (ap (λ b. (b && bar_of i == ex.bars) && not (holds_of (fits_ending ex) (interval_in now 0 w)))
      (quiet_slot i now quiet))))
      (either_none (rule == 24) _ _ false
      (on_voice-none ex _ voices (λ v. and_right (v == 0) _
      (ap (λ b. (b && bar_of i == ex.bars) && not (holds_of_pitch (is_final ex) (pitch_of (cell_in now 0))))
      (quiet_slot i now quiet))))
      (on_free_voice-none ex _ voices (λ v. voice_unbroken rule v (pitch_at previous v))))
