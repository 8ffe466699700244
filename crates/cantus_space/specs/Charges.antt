-- What a cantus pays, note by note and then as a whole line. Pitches that are called behind go from
-- the newest to the oldest.
use Rattle.std.specs.Prelude.{◌≡◌, ℕ, ◌+◌, ◌-◌, ◌*◌, ◌==◌, not, nat_le, Bool, List, [], ◌∷◌, ◌++◌, Option, Some, None, length, reverse, if◌then◌else◌}
use Rattle.std.specs.Int.{from_bool}
use Rattle.std.specs.List.{sum_by}
use Rattle.fux_pitch.specs.declared.pitch.Pitch.{Pitch}
use Rattle.fux_grid.specs.declared.cell.Cell.TheVariants.{Start}
use Rattle.melody_rules.specs.Gauges.{beyond_fourth, climax_repeats, is_narrow, leaps_in}
use Rattle.melody_rules.specs.Rows.{before_last, last_of, leaves_open, on_moves, pays_move}
use Rattle.penalty_sheet.specs.declared.sheet.Sheet.{Sheet}
use Rattle.penalty_sheet.specs.Weights.{weight_of, charge}
use Rattle.cantus_space.specs.declared.prices.CantusPrices.{CantusPrices}
use Rattle.cantus_space.specs.Prices.{price_of}
use Rattle.cantus_space.specs.declared.plan.CantusPlan.{CantusPlan}
use Rattle.cantus_space.specs.Lawful.{penalty_of}
use Rattle.cantus_space.specs.Melody.{climax_bar, is_altered, is_central, is_the, moves_one_way, price_if, stays_out}
use Rattle.cantus_space.specs.Rules.{leap_excess}
use Rattle.cantus_space.specs.declared.charge.Bill.{Bill}
use Rattle.cantus_space.specs.declared.charge.CantusCharge.{CantusCharge}
use Rattle.cantus_space.specs.declared.charge.Penalty.{Penalty}
use Rattle.cantus_space.specs.declared.charge.Penalty.TheVariants.{Toll, Price}

-- a penalty of this cost with the note of a bar, or of the whole line, where it costs something
unfoldable pub charge_where : Option ℕ → Penalty → ℕ → List CantusCharge
charge_where bar penalty cost =
    if cost == 0 then [] else record { bar = bar; penalty = penalty; cost = cost } ∷ []

-- one of Q7 to Q10, of the move to the note of a bar
abbrev pub move_charge : Sheet → ℕ → Option Pitch → Pitch → ℕ → List CantusCharge
move_charge sheet bar last p toll =
    charge_where (Some bar) (Toll toll) (charge sheet toll (pays_move toll last (Start p)))

-- all of these
abbrev pub move_charges : Sheet → ℕ → Option Pitch → Pitch → List CantusCharge
move_charges sheet bar last p =
    move_charge sheet bar last p 7 ++ move_charge sheet bar last p 8 ++ move_charge sheet bar last p 9
    ++ move_charge sheet bar last p 10

-- and Q13
abbrev pub open_charge : Sheet → ℕ → List Pitch → Pitch → List CantusCharge
open_charge sheet bar behind p =
    charge_where (Some bar) (Toll 13) (charge sheet 13 (leaves_open behind (Start p)))

-- one of C1, C3, C5 and C6, where it stands for the note of a bar
abbrev pub price_charge : CantusPrices → ℕ → ℕ → Bool → List CantusCharge
price_charge prices bar row stands =
    charge_where (Some bar) (Price row) (price_if stands (price_of prices row))

-- all of these: with so many moves on end one way up to the note, and the two pitches before it
abbrev pub price_charges : CantusPrices → ℕ → ℕ → Option Pitch → Option Pitch → Pitch → List CantusCharge
price_charges prices bar moves before last p =
    price_charge prices bar 1 (nat_le 4 moves) ++ price_charge prices bar 3 (on_moves stays_out before last (Start p))
    ++ price_charge prices bar 5 (is_altered p) ++ price_charge prices bar 6 (is_the before p)

-- what is paid with the next pitch
abbrev pub note_charges : Sheet → CantusPrices → List Pitch → Pitch → List CantusCharge
note_charges sheet prices behind p =
    move_charges sheet (length behind + 1) (last_of behind) p ++ open_charge sheet (length behind + 1) behind p
    ++ price_charges prices (length behind + 1) (moves_one_way (p ∷ behind)) (before_last behind) (last_of behind) p

-- what is paid with pitches so far
abbrev pub charges_of_notes : Sheet → CantusPrices → List Pitch → List CantusCharge
charges_of_notes sheet prices [] = []
charges_of_notes sheet prices (p ∷ behind) =
    charges_of_notes sheet prices behind ++ note_charges sheet prices behind p

-- a gauge over the whole line, by its value
abbrev pub gauge_charge : Sheet → ℕ → ℕ → List CantusCharge
gauge_charge sheet gauge value = charge_where None (Toll gauge) (weight_of sheet gauge * value)

-- Q17 to Q20
abbrev pub gauge_charges : Sheet → ℕ → ℕ → ℕ → ℕ → List CantusCharge
gauge_charges sheet climax compass leaps strikes =
    gauge_charge sheet 17 climax ++ gauge_charge sheet 18 compass ++ gauge_charge sheet 19 leaps
    ++ gauge_charge sheet 20 strikes

-- C2 and C4, by the leaps and the bar of the climax
abbrev pub end_charges : CantusPrices → ℕ → ℕ → ℕ → List CantusCharge
end_charges prices bars leaps climax =
    charge_where None (Price 2) (price_of prices 2 * (2 - leaps))
    ++ charge_where None (Price 4) (price_if (not (is_central bars climax)) (price_of prices 4))

-- what is paid for all pitches as a whole line
abbrev pub charges_of_line : Sheet → CantusPrices → List Pitch → List CantusCharge
charges_of_line sheet prices ps =
    gauge_charges sheet (climax_repeats ps) (from_bool (is_narrow ps)) (leap_excess ps) (beyond_fourth ps)
    ++ end_charges prices (length ps) (leaps_in ps) (climax_bar ps)

-- all that a cantus pays, which goes from the first bar to the last
abbrev pub cantus_charges : Sheet → CantusPrices → List Pitch → List CantusCharge
cantus_charges sheet prices cantus =
    charges_of_notes sheet prices (reverse cantus) ++ charges_of_line sheet prices (reverse cantus)

-- what charges come to
abbrev pub sum_of : List CantusCharge → ℕ
sum_of charges = sum_by (λ (c : CantusCharge). c.cost) charges

-- what a cantus pays comes to the penalty that a new cantus has, whatever else is asked of it
abbrev pub CantusChargesArePenalty : Type 0
CantusChargesArePenalty =
    (plan : CantusPlan) (cantus : List Pitch) → length cantus ≡ plan.bars
    → sum_of (cantus_charges plan.sheet plan.prices cantus) ≡ penalty_of plan cantus

-- all that a cantus pays, and what that comes to
pub record IsBillOf (sheet : Sheet) (prices : CantusPrices) (cantus : List Pitch) (bill : Bill) : Type 0 where
  pub charges : bill.charges.items ≡ cantus_charges sheet prices cantus
  pub penalty : bill.penalty ≡ sum_of (cantus_charges sheet prices cantus)
