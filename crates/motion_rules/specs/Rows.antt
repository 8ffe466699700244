-- Where the rules S10, S16 and S17 are broken, and what the toll Q11 costs.
use Rattle.std.specs.Prelude.{ℕ, ◌+◌, ◌==◌, Bool, false, ◌&&◌, int_lt, List, Option, Some, None, if◌then◌else◌}
use Rattle.fux_pitch.specs.declared.pitch.Pitch.{Pitch}
use Rattle.fux_pitch.specs.Pitch.{key_of}
use Rattle.fux_grid.specs.declared.cell.Cell.{Cell}
use Rattle.fux_grid.specs.declared.exercise.Exercise.{Exercise}
use Rattle.fux_grid.specs.Cells.{cell_in, pitch_of}
use Rattle.rule_law.specs.Nearby.{NearRow, whole_of}
use Rattle.rule_law.specs.Pairs.{both_move, count_pairs, move_alike, move_into_perfect, one_starts}
use Rattle.rule_law.specs.Places.{Row, at_once}
use Rattle.rule_law.specs.Terms.{equal_perfects, interval_in}
use Rattle.rule_law.specs.Voices.{on_pair}

-- the key of one pitch is above that of the other, where there are both
abbrev pub is_above : Option Pitch → Option Pitch → Bool
is_above None q = false
is_above (Some p) None = false
is_above (Some p) (Some q) = int_lt (key_of q) (key_of p)

-- S10: both voices sound, one starts a note, and the first sounds above the second
abbrev pub cross : List Cell → ℕ → ℕ → Bool
cross now v w = one_starts now v w && is_above (pitch_of (cell_in now v)) (pitch_of (cell_in now w))

-- S16: both voices move, and their intervals before and now are equal perfect ones
abbrev pub move_in_parallel : List Cell → List Cell → ℕ → ℕ → Bool
move_in_parallel before now v w =
    both_move before now v w && equal_perfects (interval_in before v w) (interval_in now v w)

-- the two are the lowest and the highest voice of the exercise
abbrev pub are_outer : Exercise → ℕ → ℕ → Bool
are_outer ex v w = (v == 0) && (w + 1 == ex.voices)

-- S17: the lowest and the highest voice both rise or both fall into a perfect interval
abbrev pub outer_move_into_perfect : Exercise → List Cell → List Cell → ℕ → ℕ → Bool
outer_move_into_perfect ex before now v w = are_outer ex v w && move_into_perfect before now v w

-- Q11: the pairs that move, both rising or both falling
abbrev pub pairs_alike : List Cell → List Cell → ℕ
pairs_alike before now = count_pairs (move_alike before now)

-- the rules 10, 16 and 17, which look at a column and the one before it
abbrev pub near_rows : ℕ → Exercise → ℕ → NearRow Bool
near_rows rule ex voices i before previous now =
    if rule == 10 then on_pair ex (cross now) voices
    else (if rule == 16 then on_pair ex (move_in_parallel before now) voices
    else on_pair ex (outer_move_into_perfect ex before now) voices)

-- a rule is broken at a place
abbrev pub broken_in : ℕ → Exercise → ℕ → Row Bool
broken_in rule ex voices = whole_of (near_rows rule ex voices)

-- all three are settled at once
abbrev pub enough_after : ℕ → Exercise → ℕ → Row Bool
enough_after rule ex voices = at_once

-- the toll 11, which looks at a column and the one before it
abbrev pub toll_rows : ℕ → Exercise → NearRow ℕ
toll_rows toll ex i before previous now = pairs_alike before now

-- what it costs at a place, without its weight
abbrev pub cost_in : ℕ → Exercise → Row ℕ
cost_in toll ex = whole_of (toll_rows toll ex)

-- it is settled at once
abbrev pub cost_enough : ℕ → Exercise → Row Bool
cost_enough toll ex = at_once
