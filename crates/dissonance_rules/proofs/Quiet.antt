-- At a quiet column no rule of dissonance is broken, and no toll of dissonance costs anything.
use Rattle.std.specs.Prelude.{◌≡◌, ℕ, ◌-◌, ◌==◌, true, false, ◌&&◌, List, refl}
use Rattle.std.specs.Int.{from_bool}
use Rattle.std.proofs.Common.{ap}
use Rattle.fux_grid.specs.declared.cell.Cell.{Cell}
use Rattle.fux_grid.specs.declared.exercise.Exercise.{Exercise}
use Rattle.fux_grid.specs.Cells.{cell_in}
use Rattle.rule_law.specs.Bars.{begins_bar}
use Rattle.rule_law.specs.Nearby.{Pitches}
use Rattle.rule_law.specs.Pairs.{sound_perfect, sound_same_key}
use Rattle.rule_law.specs.Quiet.{is_quiet, quiet_inner, quiet_pair, quiet_slot, count_pairs-none, either_none, on_pair-none}
use Rattle.rule_law.specs.Terms.{clash, starts}
use Rattle.dissonance_rules.specs.Rows.{near_rows, toll_rows}

module _ (ex : Exercise) (i : ℕ) (now : List Cell) (quiet : is_quiet i now ≡ true) where
  pub quiet_rows : (rule voices : ℕ) (before : List Cell) (previous : Pitches)
      → near_rows rule ex voices i before previous now ≡ false
  quiet_rows rule voices before previous =
      either_none (rule == 11) _ _ false
      (on_pair-none ex _ voices (λ v w. ap (λ b. b && sound_same_key now v w) (quiet_inner ex i now quiet)))
      (on_pair-none ex _ voices (λ v w. ap (λ b. b && starts (cell_in now v) && starts (cell_in now w) && clash now v w)
      (quiet_slot i now quiet)))

  pub quiet_tolls : (toll : ℕ) (before : List Cell) (previous : Pitches) → toll_rows toll ex i before previous now ≡ 0
  quiet_tolls toll before previous =
      either_none (toll == 1) _ _ 0
      (ap (λ b. from_bool (b && sound_perfect now 0 (ex.voices - 1))) (quiet_inner ex i now quiet))
      (either_none (begins_bar i) _ _ 0 refl
      (count_pairs-none _ (λ v w. ap (λ b. b && sound_same_key now v w) (quiet_pair i now quiet v w))))
