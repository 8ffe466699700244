-- The rules that a cantus keeps bar by bar, and what it costs. Pitches of bars go from the newest
-- to the oldest.
use Rattle.std.specs.Prelude.{ℕ, ◌+◌, ◌-◌, ◌*◌, ◌==◌, Bool, true, not, ◌&&◌, ◌||◌, int_le, nat_lt, List, [], ◌∷◌, count_by, length, if◌then◌else◌}
use Rattle.std.specs.Int.{from_bool}
use Rattle.std.specs.List.{list_any, range_with_len, sum_by}
use Rattle.fux_pitch.specs.declared.pitch.Pitch.{Pitch}
use Rattle.fux_pitch.specs.Pitch.{key_of}
use Rattle.fux_grid.specs.declared.cell.Cell.TheVariants.{Start}
use Rattle.melody_rules.specs.Gauges.{beyond_fourth, climax_repeats, is_narrow, leaps_in, moves_in}
use Rattle.melody_rules.specs.Rows.{last_of, leaves_open, moves_unmelodically, pays_move, window_rule}
use Rattle.penalty_sheet.specs.declared.sheet.Sheet.{Sheet}
use Rattle.penalty_sheet.specs.Weights.{charge, weight_of}
use Rattle.cantus_space.specs.declared.plan.CantusPlan.{CantusPlan}
use Rattle.cantus_space.specs.Cantus.{is_in_pool, may_sound}
use Rattle.cantus_space.specs.Melody.{charged, least_ends}
use Rattle.cantus_space.specs.Numbers.{WIDTH, numbered_pitch}

-- S4 and S6 to S9. What else is asked of a cantus, S2 and its own forms K1 to K3, follows from the
-- pools and S4
abbrev pub rules : List ℕ
rules = 4 ∷ 6 ∷ 7 ∷ 8 ∷ 9 ∷ []

-- a rule is broken by the next pitch
abbrev pub breaks : List Pitch → Pitch → ℕ → Bool
breaks behind p rule =
    if rule == 4 then moves_unmelodically (last_of behind) (Start p) else window_rule rule behind (Start p)

abbrev pub breaks_some_rule : List Pitch → Pitch → Bool
breaks_some_rule behind p = list_any (breaks behind p) rules

-- the next pitch is one of its bar's pool, and breaks no rule
abbrev pub may_come : CantusPlan → List Pitch → Pitch → Bool
may_come plan behind p =
    nat_lt (length behind) plan.bars && is_in_pool plan (length behind + 1) p && not (breaks_some_rule behind p)

-- so is each of these pitches, after those behind it
abbrev pub is_live : CantusPlan → List Pitch → Bool
is_live plan [] = true
is_live plan (p ∷ behind) = is_live plan behind && may_come plan behind p

-- Q7 to Q10: what the move to the next pitch costs
abbrev pub move_cost : Sheet → List Pitch → Pitch → ℕ
move_cost sheet behind p =
    sum_by (λ toll. charge sheet toll (pays_move toll (last_of behind) (Start p))) (7 ∷ 8 ∷ 9 ∷ 10 ∷ [])

-- these and Q13
abbrev pub note_cost : Sheet → List Pitch → Pitch → ℕ
note_cost sheet behind p = move_cost sheet behind p + charge sheet 13 (leaves_open behind (Start p))

-- what pitches cost so far
abbrev pub paid : Sheet → List Pitch → ℕ
paid sheet [] = 0
paid sheet (p ∷ behind) = paid sheet behind + note_cost sheet behind p

-- what the gauges Q17 to Q20 cost, by what each of them says
abbrev pub gauge_cost : Sheet → ℕ → ℕ → ℕ → ℕ → ℕ
gauge_cost sheet climax compass leaps strikes =
    weight_of sheet 17 * climax + weight_of sheet 18 * compass + weight_of sheet 19 * leaps + weight_of sheet 20 * strikes

-- three times the leaps, less the moves
abbrev pub leap_excess : List Pitch → ℕ
leap_excess ps = 3 * leaps_in ps - moves_in ps

-- what all pitches cost: the tolls and the gauges' values
abbrev pub whole_cost : Sheet → List Pitch → ℕ
whole_cost sheet ps =
    paid sheet ps
    + gauge_cost sheet (climax_repeats ps) (from_bool (is_narrow ps)) (leap_excess ps) (beyond_fourth ps)

-- ---- what they cost at least, however they go on

-- some pitch may sound in a bar
abbrev pub can_start : CantusPlan → ℕ → Bool
can_start plan bar = list_any (λ k. may_sound plan bar (numbered_pitch plan k)) (range_with_len 0 WIDTH)

-- in how many of the bars after so many it may. The pools have no say in this
abbrev pub starts_ahead : CantusPlan → ℕ → ℕ
starts_ahead plan count = count_by (can_start plan) (range_with_len (count + 1) (plan.bars - count))

-- no pitch above all of these can come: nothing is ahead, or one of them is as high as the range
abbrev pub is_last_climax : CantusPlan → List Pitch → Bool
is_last_climax plan ps =
    (starts_ahead plan (length ps) == 0) || list_any (λ p. int_le (key_of plan.high) (key_of p)) ps

-- Q17: then the value so far, else nothing
abbrev pub least_climax : CantusPlan → List Pitch → ℕ
least_climax plan ps = if is_last_climax plan ps then climax_repeats ps else 0

-- Q18: the value so far where nothing is ahead, else nothing
abbrev pub least_compass : CantusPlan → List Pitch → ℕ
least_compass plan ps = if starts_ahead plan (length ps) == 0 then from_bool (is_narrow ps) else 0

-- Q19: the value so far, less what is ahead
abbrev pub least_leaps : CantusPlan → List Pitch → ℕ
least_leaps plan ps = leap_excess ps - starts_ahead plan (length ps)

-- of Q20 the value so far
abbrev pub least_gauges : CantusPlan → List Pitch → ℕ
least_gauges plan ps =
    gauge_cost plan.sheet (least_climax plan ps) (least_compass plan ps) (least_leaps plan ps) (beyond_fourth ps)

-- what they pay of C1 to C6 at least: what they pay so far, and at their end where this is it
abbrev pub least_melody : CantusPlan → List Pitch → ℕ
least_melody plan ps = charged plan.prices ps + least_ends plan.prices plan.bars ps

-- the floor of pitches: the tolls so far, what the gauges say at least, and the prices
abbrev pub floor_of : CantusPlan → List Pitch → ℕ
floor_of plan ps = paid plan.sheet ps + least_gauges plan ps + least_melody plan ps
