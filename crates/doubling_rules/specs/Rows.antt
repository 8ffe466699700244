-- S23 and the tolls Q3 to Q6: what voices double, how far apart they lie, and where in its range
-- each keeps.
use Rattle.std.specs.Prelude.{ℕ, ◌+◌, ◌-◌, ◌/◌, ◌==◌, Bool, false, ◌&&◌, ◌||◌, nat_le, nat_lt, pos, List, Option, Some, None, if◌then◌else◌}
use Rattle.std.specs.Int.{from_bool}
use Rattle.std.specs.Ordering.{int_eq}
use Rattle.fux_pitch.specs.declared.interval.Interval.{Interval}
use Rattle.fux_pitch.specs.declared.pitch.Pitch.{Pitch}
use Rattle.fux_pitch.specs.Pitch.{degree_of}
use Rattle.fux_pitch.specs.Size.{reduced}
use Rattle.fux_grid.specs.declared.cell.Cell.{Cell}
use Rattle.fux_grid.specs.declared.cell.Cell.TheVariants.{Rest, Hold, Start}
use Rattle.fux_grid.specs.declared.exercise.Exercise.{Exercise}
use Rattle.fux_grid.specs.Cells.{cell_in, pitch_of}
use Rattle.fux_grid.specs.Exercises.{bar_of}
use Rattle.fux_grid.specs.Menus.{range_of}
use Rattle.rule_law.specs.Bars.{begins_bar, begins_inner_bar}
use Rattle.rule_law.specs.Leading.{is_leading}
use Rattle.rule_law.specs.Nearby.{NearRow, whole_of}
use Rattle.rule_law.specs.Pairs.{one_starts}
use Rattle.rule_law.specs.Places.{Row, at_once}
use Rattle.rule_law.specs.Terms.{degrees_without_sign, holds_of, interval_in, sounds}
use Rattle.rule_law.specs.Voices.{count_free, on_pair}

-- a voice sounds the leading note, in any octave
abbrev pub leads : Exercise → Option Pitch → Bool
leads ex None = false
leads ex (Some p) = is_leading ex.mode p

abbrev pub sounds_leading : Exercise → List Cell → ℕ → Bool
sounds_leading ex now v = leads ex (pitch_of (cell_in now v))

-- the bar before the last
abbrev pub is_before_last_bar : Exercise → ℕ → Bool
is_before_last_bar ex i = bar_of i + 1 == ex.bars

-- S23: in the bar before the last two voices both sound the leading note, and one of them starts it
abbrev pub double_leading : Exercise → ℕ → List Cell → ℕ → ℕ → Bool
double_leading ex i now v w =
    is_before_last_bar ex i && sounds_leading ex now v && sounds_leading ex now w && one_starts now v w

abbrev pub breaks_in_column : Exercise → ℕ → ℕ → List Cell → Bool
breaks_in_column ex voices i now = on_pair ex (double_leading ex i now) voices

-- a third, of any size, but for octaves
abbrev pub is_third : Interval → Bool
is_third k = int_eq (reduced k).degrees (pos 2)

-- a voice sounds a third over voice 0
abbrev pub sounds_third : List Cell → ℕ → Bool
sounds_third now w = holds_of is_third (interval_in now 0 w)

-- how many of the other voices do
abbrev pub count_thirds : List Cell → ℕ
count_thirds now = from_bool (sounds_third now 1) + from_bool (sounds_third now 2) + from_bool (sounds_third now 3)

-- Q3: in three or four voices, at the beginning of a bar that is neither the first nor the last,
-- voice 0 sounds, and no voice sounds a third with it
abbrev pub lacks_third : Exercise → ℕ → List Cell → Bool
lacks_third ex i now =
    nat_le 3 ex.voices && begins_inner_bar ex i && sounds (cell_in now 0) && (count_thirds now == 0)

-- Q5: in three or four voices, at the beginning of a bar, two voices or more sound a third with
-- voice 0
abbrev pub doubles_third : Exercise → ℕ → List Cell → Bool
doubles_third ex i now = nat_le 3 ex.voices && begins_bar i && nat_le 2 (count_thirds now)

-- two neighboring voices both sound, more degrees apart than so many
abbrev pub are_far_apart : ℕ → List Cell → ℕ → ℕ → Bool
are_far_apart most now v w = holds_of (λ k. nat_lt most (degrees_without_sign k)) (interval_in now v w)

-- Q4: at the beginning of a bar, the pairs of neighboring voices that lie too far apart: the two
-- lowest more than 11 degrees, others more than 7
abbrev pub wide_pairs : ℕ → List Cell → ℕ
wide_pairs i now =
    if begins_bar i
    then from_bool (are_far_apart 11 now 0 1) + from_bool (are_far_apart 7 now 1 2) + from_bool
    (are_far_apart 7 now 2 3)
    else 0

-- the middle of a range: the half, rounded down, of the sum of the degrees of its ends
abbrev pub middle_of : Pitch → Pitch → ℕ
middle_of low high = (degree_of low + degree_of high) / 2

-- a pitch lies outside the middle sixth of a range, which goes from two degrees below its middle to
-- three above it
abbrev pub is_far_from : Pitch → Pitch → Pitch → Bool
is_far_from low high p =
    nat_lt (degree_of p) (middle_of low high - 2) || nat_lt (middle_of low high + 3) (degree_of p)

-- the same, where there is a range
abbrev pub is_far_from_middle : Option (Pitch × Pitch) → Pitch → Bool
is_far_from_middle None p = false
is_far_from_middle (Some ends) p = is_far_from ends.0 ends.1 p

-- a note starts in the cell, outside the middle sixth of the voice's range in the bar
abbrev pub strays : Exercise → ℕ → ℕ → Cell → Bool
strays ex v i Rest = false
strays ex v i (Hold p) = false
strays ex v i (Start p) = is_far_from_middle (range_of ex v (bar_of i)) p

-- Q6: in how many free voices one does
unfoldable pub straying_notes : Exercise → ℕ → List Cell → ℕ
straying_notes ex i now = count_free ex (λ v. nat_lt v ex.voices && strays ex v i (cell_in now v))

-- what each of the tolls costs, without its weight
abbrev pub cost_of_column : ℕ → Exercise → ℕ → List Cell → ℕ
cost_of_column toll ex i now =
    if toll == 3 then from_bool (lacks_third ex i now)
    else (if toll == 4 then wide_pairs i now
    else (if toll == 5 then from_bool (doubles_third ex i now)
    else straying_notes ex i now))

-- the rule and the tolls as rows of neighbors
abbrev pub doubling_rows : Exercise → ℕ → NearRow Bool
doubling_rows ex voices i before previous now = breaks_in_column ex voices i now

abbrev pub doubling_tolls : ℕ → Exercise → NearRow ℕ
doubling_tolls toll ex i before previous now = cost_of_column toll ex i now

-- the rule is broken at a place, and what a toll costs there
abbrev pub broken_in : ℕ → Exercise → ℕ → Row Bool
broken_in rule ex voices = whole_of (doubling_rows ex voices)

abbrev pub cost_in : ℕ → Exercise → Row ℕ
cost_in toll ex = whole_of (doubling_tolls toll ex)

-- all are settled at once
abbrev pub enough_after : ℕ → Exercise → ℕ → Row Bool
enough_after rule ex voices = at_once

abbrev pub cost_enough : ℕ → Exercise → Row Bool
cost_enough toll ex = at_once
