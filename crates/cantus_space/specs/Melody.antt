-- C1 to C6: what a cantus pays that is no good melody of its own, by the prices of a sheet. Pitches
-- of bars go from the newest to the oldest.
use Rattle.std.specs.Prelude.{ℕ, suc, ◌+◌, ◌-◌, ◌*◌, Bool, false, not, ◌&&◌, nat_le, nat_lt, int_lt, pos, List, [], ◌∷◌, length, Option, Some, None, if◌then◌else◌}
use Rattle.std.specs.Ordering.{int_eq}
use Rattle.fux_pitch.specs.declared.interval.Interval.{Interval}
use Rattle.fux_pitch.specs.declared.pitch.Pitch.{Pitch}
use Rattle.fux_pitch.specs.Pitch.{alter_of, key_of, same_pitch}
use Rattle.fux_grid.specs.declared.cell.Cell.TheVariants.{Start}
use Rattle.rule_law.specs.Terms.{is_leap, is_step, opposite_ways, same_way}
use Rattle.melody_rules.specs.Gauges.{leaps_in}
use Rattle.melody_rules.specs.Keys.{greatest_key}
use Rattle.melody_rules.specs.Rows.{before_last, last_of, on_moves}
use Rattle.cantus_space.specs.declared.prices.CantusPrices.{CantusPrices}
use Rattle.cantus_space.specs.Prices.{price_of}

-- how many moves on end go one way, up to the newest pitch: a move that doesn't go the way of the
-- one before it begins anew
abbrev pub moves_one_way : List Pitch → ℕ
moves_one_way [] = 0
moves_one_way (p ∷ ps) =
    if on_moves same_way (before_last ps) (last_of ps) (Start p) then suc (moves_one_way ps) else 1

-- after a leap comes no step the other way
abbrev pub stays_out : Interval → Interval → Bool
stays_out leap next = is_leap leap && not (is_step next && opposite_ways leap next)

-- a pitch is altered
abbrev pub is_altered : Pitch → Bool
is_altered p = not (int_eq (alter_of p) (pos 0))

-- a pitch is this one, where there is one
abbrev pub is_the : Option Pitch → Pitch → Bool
is_the None p = false
is_the (Some q) p = same_pitch q p

-- a price where it has to be paid, else nothing
abbrev pub price_if : Bool → ℕ → ℕ
price_if stands price = if stands then price else 0

-- what the next pitch pays. C1: for each move beyond the third on end one way. C3: for a leap before
-- it that isn't turned back. C5: where it is altered. C6: where it sounded two bars before
abbrev pub charge_by : CantusPrices → ℕ → Option Pitch → Option Pitch → Pitch → ℕ
charge_by prices moves before last p =
    price_if (nat_le 4 moves) (price_of prices 1)
    + price_if (on_moves stays_out before last (Start p)) (price_of prices 3)
    + price_if (is_altered p) (price_of prices 5)
    + price_if (is_the before p) (price_of prices 6)

abbrev pub note_charge : CantusPrices → List Pitch → Pitch → ℕ
note_charge prices behind p = charge_by prices (moves_one_way (p ∷ behind)) (before_last behind) (last_of behind) p

-- what pitches pay so far
abbrev pub charged : CantusPrices → List Pitch → ℕ
charged prices [] = 0
charged prices (p ∷ behind) = charged prices behind + note_charge prices behind p

-- the bar in which the greatest key of the pitches first sounds, counted from 1
abbrev pub climax_bar : List Pitch → ℕ
climax_bar [] = 0
climax_bar (p ∷ ps) = if int_lt (greatest_key ps) (key_of p) then length ps + 1 else climax_bar ps

-- a bar lies in the middle half of the bars
abbrev pub is_central : ℕ → ℕ → Bool
is_central bars bar = nat_lt bars (4 * bar) && nat_le (4 * bar) (3 * bars)

-- what all pitches pay at their end, by their leaps and the bar of their climax. C2: for each leap
-- fewer than two. C4: where the climax doesn't first sound in the middle half of the bars
abbrev pub ends_by : CantusPrices → ℕ → ℕ → ℕ → ℕ
ends_by prices bars leaps climax =
    price_of prices 2 * (2 - leaps) + price_if (not (is_central bars climax)) (price_of prices 4)

abbrev pub ends_cost : CantusPrices → ℕ → List Pitch → ℕ
ends_cost prices bars ps = ends_by prices bars (leaps_in ps) (climax_bar ps)

-- what they pay at their end, where this is it, else nothing
abbrev pub least_ends : CantusPrices → ℕ → List Pitch → ℕ
least_ends prices bars ps = if nat_le bars (length ps) then ends_cost prices bars ps else 0
