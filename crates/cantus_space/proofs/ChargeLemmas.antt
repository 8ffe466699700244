-- What a cantus pays comes to the penalty of a new cantus (`charges_are_penalty`).
use Rattle.std.proofs.Common.{◌≡◌, ℕ, ◌+◌, ◌*◌, ◌-◌, ◌==◌, not, nat_le, Bool, true, false, List, [], ◌∷◌, ◌++◌, Option, Some, None, length, reverse, refl, ap, sym, ◌∙◌, arith}
use Rattle.std.specs.Prelude.{if◌then◌else◌}
use Rattle.std.specs.Int.{from_bool}
use Rattle.std.proofs.lemmas.Bool.{eqb-true}
use Rattle.std.proofs.lemmas.List.{length-reverse}
use Rattle.std.proofs.lemmas.List.Sums.{sum_by-append}
use Rattle.fux_pitch.specs.declared.pitch.Pitch.{Pitch}
use Rattle.fux_grid.specs.declared.cell.Cell.TheVariants.{Start}
use Rattle.melody_rules.specs.Gauges.{beyond_fourth, climax_repeats, is_narrow, leaps_in}
use Rattle.melody_rules.specs.Rows.{before_last, last_of, leaves_open, on_moves, pays_move}
use Rattle.penalty_sheet.specs.declared.sheet.Sheet.{Sheet}
use Rattle.penalty_sheet.specs.Weights.{weight_of, charge}
use Rattle.cantus_space.specs.declared.prices.CantusPrices.{CantusPrices}
use Rattle.cantus_space.specs.Prices.{price_of}
use Rattle.cantus_space.specs.Melody.{charged, climax_bar, ends_by, ends_cost, is_altered, is_central, is_the, moves_one_way, note_charge, price_if, stays_out}
use Rattle.cantus_space.specs.Rules.{gauge_cost, leap_excess, note_cost, paid}
use Rattle.cantus_space.specs.declared.charge.CantusCharge.{CantusCharge}
use Rattle.cantus_space.specs.declared.charge.Penalty.{Penalty}
use Rattle.cantus_space.specs.declared.charge.Penalty.TheVariants.{Toll, Price}
use Rattle.cantus_space.specs.Charges.{CantusChargesArePenalty, charge_where, charges_of_line, charges_of_notes, end_charges, gauge_charge, gauge_charges, move_charge, move_charges, note_charges, open_charge, price_charge, price_charges, sum_of}

sum_where : (bar : Option ℕ) (penalty : Penalty) (cost : ℕ) → sum_of (charge_where bar penalty cost) ≡ cost
unfolding charge_where
sum_where bar penalty cost = by_test (cost == 0) refl
  where
    by_test : (b : Bool) → (cost == 0) ≡ b
        → sum_of (if b then [] else record { bar = bar; penalty = penalty; cost = cost } ∷ []) ≡ cost
    by_test true e = sym (eqb-true cost 0 e)
    by_test false e = omega arith

joined : (xs ys : List CantusCharge) → sum_of (xs ++ ys) ≡ sum_of xs + sum_of ys
joined xs ys = sum_by-append (λ (c : CantusCharge). c.cost) xs ys

-- two lists, and four lists, that come to these
two : (xs ys : List CantusCharge) (x y : ℕ) → sum_of xs ≡ x → sum_of ys ≡ y → sum_of (xs ++ ys) ≡ x + y
two xs ys x y ex ey = omega (arith, joined xs ys, ex, ey)

four : (vs xs ys zs : List CantusCharge) (v x y z : ℕ) → sum_of vs ≡ v → sum_of xs ≡ x → sum_of ys ≡ y → sum_of zs ≡ z
    → sum_of (vs ++ xs ++ ys ++ zs) ≡ v + x + y + z
four vs xs ys zs v x y z ev ex ey ez =
    omega (arith, joined (vs ++ xs ++ ys) zs, joined (vs ++ xs) ys, joined vs xs, ev, ex, ey, ez)

module _ (sheet : Sheet) (prices : CantusPrices) where
  -- what is paid with a note
  module _ (behind : List Pitch) (p : Pitch) where
    abbrev bar : ℕ
    bar = length behind + 1

    abbrev weighed : ℕ → ℕ
    weighed toll = charge sheet toll (pays_move toll (last_of behind) (Start p))

    abbrev priced : ℕ → Bool → ℕ
    priced row stands = price_if stands (price_of prices row)

    sum_move : (toll : ℕ) → sum_of (move_charge sheet bar (last_of behind) p toll) ≡ weighed toll
    sum_move toll = sum_where (Some bar) (Toll toll) (weighed toll)

    sum_moves : sum_of (move_charges sheet bar (last_of behind) p) ≡ weighed 7 + weighed 8 + weighed 9 + weighed 10
    sum_moves =
        four (move_charge sheet bar (last_of behind) p 7) (move_charge sheet bar (last_of behind) p 8)
        (move_charge sheet bar (last_of behind) p 9) (move_charge sheet bar (last_of behind) p 10) (weighed 7) (weighed 8)
        (weighed 9) (weighed 10) (sum_move 7) (sum_move 8) (sum_move 9) (sum_move 10)

    sum_open : sum_of (open_charge sheet bar behind p) ≡ charge sheet 13 (leaves_open behind (Start p))
    sum_open = sum_where (Some bar) (Toll 13) (charge sheet 13 (leaves_open behind (Start p)))

    sum_price : (row : ℕ) (stands : Bool) → sum_of (price_charge prices bar row stands) ≡ priced row stands
    sum_price row stands = sum_where (Some bar) (Price row) (priced row stands)

    abbrev moves : ℕ
    moves = moves_one_way (p ∷ behind)

    abbrev first : Bool
    first = nat_le 4 moves

    abbrev third : Bool
    third = on_moves stays_out (before_last behind) (last_of behind) (Start p)

    abbrev fifth : Bool
    fifth = is_altered p

    abbrev sixth : Bool
    sixth = is_the (before_last behind) p

    sum_prices : sum_of (price_charges prices bar moves (before_last behind) (last_of behind) p)
        ≡ priced 1 first + priced 3 third + priced 5 fifth + priced 6 sixth
    sum_prices =
        four (price_charge prices bar 1 first) (price_charge prices bar 3 third) (price_charge prices bar 5 fifth)
        (price_charge prices bar 6 sixth) (priced 1 first) (priced 3 third) (priced 5 fifth) (priced 6 sixth)
        (sum_price 1 first) (sum_price 3 third) (sum_price 5 fifth) (sum_price 6 sixth)

    sum_note : sum_of (note_charges sheet prices behind p) ≡ note_cost sheet behind p + note_charge prices behind p
    sum_note =
        let steps = move_charges sheet bar (last_of behind) p in
        let late = open_charge sheet bar behind p in
        let rows = price_charges prices bar moves (before_last behind) (last_of behind) p in
        omega (arith, joined (steps ++ late) rows, joined steps late, sum_moves, sum_open, sum_prices)

  sum_notes : (ps : List Pitch) → sum_of (charges_of_notes sheet prices ps) ≡ paid sheet ps + charged prices ps
  sum_notes [] = refl
  sum_notes (p ∷ behind) =
      omega (
        arith,
        joined (charges_of_notes sheet prices behind) (note_charges sheet prices behind p),
        sum_notes behind,
        sum_note behind p,
      )

  -- what is paid for a whole line
  sum_gauge : (gauge value : ℕ) → sum_of (gauge_charge sheet gauge value) ≡ weight_of sheet gauge * value
  sum_gauge gauge value = sum_where None (Toll gauge) (weight_of sheet gauge * value)

  sum_gauges : (climax compass leaps strikes : ℕ)
      → sum_of (gauge_charges sheet climax compass leaps strikes) ≡ gauge_cost sheet climax compass leaps strikes
  sum_gauges climax compass leaps strikes =
      four (gauge_charge sheet 17 climax) (gauge_charge sheet 18 compass) (gauge_charge sheet 19 leaps)
      (gauge_charge sheet 20 strikes) (weight_of sheet 17 * climax) (weight_of sheet 18 * compass)
      (weight_of sheet 19 * leaps) (weight_of sheet 20 * strikes) (sum_gauge 17 climax) (sum_gauge 18 compass)
      (sum_gauge 19 leaps) (sum_gauge 20 strikes)

  sum_ends : (bars leaps climax : ℕ)
      → sum_of (end_charges prices bars leaps climax) ≡ ends_by prices bars leaps climax
  sum_ends bars leaps climax =
      let few = price_of prices 2 * (2 - leaps) in
      let outside = price_if (not (is_central bars climax)) (price_of prices 4) in
      two (charge_where None (Price 2) few) (charge_where None (Price 4) outside) few outside
      (sum_where None (Price 2) few) (sum_where None (Price 4) outside)

  sum_line : (ps : List Pitch)
      → sum_of (charges_of_line sheet prices ps)
      ≡ gauge_cost sheet (climax_repeats ps) (from_bool (is_narrow ps)) (leap_excess ps) (beyond_fourth ps)
      + ends_cost prices (length ps) ps
  sum_line ps =
      two (gauge_charges sheet (climax_repeats ps) (from_bool (is_narrow ps)) (leap_excess ps) (beyond_fourth ps))
      (end_charges prices (length ps) (leaps_in ps) (climax_bar ps))
      (gauge_cost sheet (climax_repeats ps) (from_bool (is_narrow ps)) (leap_excess ps) (beyond_fourth ps))
      (ends_cost prices (length ps) ps)
      (sum_gauges (climax_repeats ps) (from_bool (is_narrow ps)) (leap_excess ps) (beyond_fourth ps))
      (sum_ends (length ps) (leaps_in ps) (climax_bar ps))

pub charges_are_penalty : CantusChargesArePenalty
charges_are_penalty plan cantus whole =
    let ps = reverse cantus in
    let notes = charges_of_notes plan.sheet plan.prices ps in
    let line = charges_of_line plan.sheet plan.prices ps in
    let ends : ends_cost plan.prices (length ps) ps ≡ ends_cost plan.prices plan.bars ps =
    ap (λ n. ends_cost plan.prices n ps) (length-reverse cantus ∙ whole) in
    omega (arith, joined notes line, sum_notes plan.sheet plan.prices ps, sum_line plan.sheet plan.prices ps, ends)
