-- What was told of voices behind a prefix.
use Rattle.std.specs.Prelude.{◌≡◌, ℕ, Option, IfSome}
use Rattle.cert_law.specs.declared.voices_told.VoiceTold.{VoiceTold}
use Rattle.cert_law.specs.declared.voices_told.VoicesTold.{VoicesTold}
use Rattle.fux_grid.specs.declared.exercise.Exercise.{Exercise}
use Rattle.fux_grid.specs.Columns.{Columns}
use Rattle.fux_judge.specs.declared.state.State.{State}
use Rattle.fux_judge.specs.States.{IsStateOf}
use Rattle.fux_judge.specs.Told.{least_by_cell}

-- where something is told of a voice, it is the least of S3 to S9 that the voice breaks strictly with
-- the cell
abbrev pub IsVoiceTold : Exercise → State → ℕ → Option VoiceTold → Type 0
IsVoiceTold ex state v told =
    IfSome told (λ it. (p : Columns) → IsStateOf ex p state → it.least ≡ least_by_cell ex p v it.cell)

-- so it is of each voice
pub record AreVoicesTold (ex : Exercise) (state : State) (told : VoicesTold) : Type 0 where
  pub first : IsVoiceTold ex state 0 told.first
  pub second : IsVoiceTold ex state 1 told.second
  pub third : IsVoiceTold ex state 2 told.third
  pub fourth : IsVoiceTold ex state 3 told.fourth
