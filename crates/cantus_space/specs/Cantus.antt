-- A new cantus, and the pools from which its pitches are taken, one for each bar.
use Rattle.std.specs.Prelude.{ℕ, ◌+◌, ◌%◌, ◌≤◌, ◌==◌, ◌≤ℤ◌, Bool, ◌&&◌, ◌||◌, if◌then◌else◌}
use Rattle.fux_pitch.specs.declared.mode.Mode.{Mode}
use Rattle.fux_pitch.specs.declared.pitch.Pitch.{Pitch}
use Rattle.fux_pitch.specs.Modes.{final_of, is_in_gamut}
use Rattle.fux_pitch.specs.Pitch.{degree_of, key_of}
use Rattle.fux_grid.specs.Menus.{is_between}
use Rattle.rhythm_cadence.specs.Rows.{is_final_in}
use Rattle.cantus_space.specs.declared.plan.CantusPlan.{CantusPlan}

-- what is asked of a cantus is within the limits
pub record IsPlan (plan : CantusPlan) : Type 0 where
  pub fewest_bars : 3 ≤ plan.bars
  pub most_bars : plan.bars ≤ 24
  pub rise : key_of plan.low ≤ℤ key_of plan.high

-- the pitch's key lies in the range
abbrev pub is_in_range : CantusPlan → Pitch → Bool
is_in_range plan p = is_between plan.low plan.high p

-- the pitch is in the gamut of a bar, counted from 1, and in the range: a free voice of species 1
-- with this range may start it there
abbrev pub may_sound : CantusPlan → ℕ → Pitch → Bool
may_sound plan bar p = is_in_gamut plan.mode bar plan.bars p && is_in_range plan p

-- its letter is one step above the final's
abbrev pub is_step_above : Mode → Pitch → Bool
is_step_above mode p = degree_of p % 7 == (final_of mode + 1) % 7

-- the pitch may sound in the bar, and in the last bar but one it has such a letter
abbrev pub fits_within : CantusPlan → ℕ → Pitch → Bool
fits_within plan bar p =
    if bar + 1 == plan.bars then may_sound plan bar p && is_step_above plan.mode p else may_sound plan bar p

-- the pitch is of the bar's pool: in the first and the last bar it is the final, in range, and in
-- each other bar it fits there
abbrev pub is_in_pool : CantusPlan → ℕ → Pitch → Bool
is_in_pool plan bar p =
    if (bar == 1) || (bar == plan.bars) then is_in_range plan p && is_final_in plan.mode p
    else fits_within plan bar p
