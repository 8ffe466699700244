-- Where each price is due, what lists state is due, small and in our parts (`lists_fit`).
use Rattle.std.proofs.Common.{◌≡◌, ◌⊎◌, ⊎_elim, ℕ, ◌+◌, ◌*◌, ◌≤◌, nat_le, Bool, true, false, not, ◌&&◌, ◌||◌, List, [], ◌∷◌, Option, Some, None, arith, length, slice_index, slice_index_or, refl, ap, subst, sym, ◌∙◌}
use Rattle.std.specs.List.{AllByRecursion, list_any}
use Rattle.std.proofs.lemmas.Bool.{and_from, and_parts, cases_lt, le-leb}
use Rattle.cert_law.specs.Rests.{HasSmallWeights}
use Rattle.penalty_sheet.specs.declared.sheet.Sheet.{Sheet}
use Rattle.penalty_sheet.specs.Weights.{weight_of}
use Rattle.price_check.specs.Certificates.{ChargesNothing}
use Rattle.price_check.specs.PriceLists.{PriceList}
use Rattle.price_check.specs.Owned.{AreKeys, IsFit}
use Rattle.price_check.specs.Laws.{ListsFit}
use Rattle.price_check.specs.Stated.{AreEachStated, IsStated, StatedList, cases_of, first_above, has_no_keys, has_price, lists_of, price_at, prices_in, summits_from}
use Rattle.price_check.proofs.Told.{cases_few}
use Rattle.price_check.proofs.Bounds.{due_each, keys_each, price_low, price_none, prices_there, strikes_within, summits-few, tops_within}
use Rattle.priced_floors.specs.Charges.{AreCases, AreFairCharges, any_summit, has_key, is_below}
use Rattle.priced_floors.specs.declared.charges.TheConstants.{SCALE}
use Rattle.priced_floors.specs.declared.prices.Prices.{Prices}
use Rattle.priced_floors.specs.declared.prices.Summit.{Summit}

-- each key up to a case's upper end is of a case
case_has : (charge : ℕ) (high : Option ℕ) (keys : List ℕ) (key : ℕ) → is_below high key ≡ true
    → list_any (has_key key) (summits_from charge high keys) ≡ true
case_has charge high [] key below =
    let here : (nat_le 0 key && is_below high key) ≡ true = and_from (nat_le 0 key) (is_below high key)
    (le-leb 0 key (omega arith)) below in
    rw here refl
case_has charge high (k ∷ keys) key below = ⊎_elim
    (λ above.
    let here : (nat_le (k + 1) key && is_below high key) ≡ true = and_from (nat_le (k + 1) key) (is_below high key)
    (le-leb (k + 1) key (omega (arith, above))) below in
    rw here refl)
    (λ within. later (list_any (has_key key) (summits_from charge (Some k) keys))
    (case_has charge (Some k) keys key (le-leb key k within)))
    (cases_lt k key)
  where
    first : Bool
    first = nat_le (k + 1) key && is_below high key

    later : (b : Bool) → b ≡ true → (first || b) ≡ true
    later b e = rw e (by first)
      where
        by : (c : Bool) → (c || true) ≡ true
        by true = refl
        by false = refl

pub all_have : (charge : ℕ) (keys : List ℕ) → AreCases (summits_from charge None keys)
all_have charge keys key = case_has charge None keys key refl

empty_keys : (keys : List ℕ) → has_no_keys keys ≡ true → keys ≡ []
empty_keys [] none = refl
empty_keys (key ∷ keys) none = cc

not_true : (b : Bool) → not b ≡ true → b ≡ false
not_true true e = cc
not_true false e = refl

module _ (sheet : Sheet) (stated : StatedList) (list : PriceList) (is : IsStated sheet stated list) where
  abbrev keys : List ℕ
  keys = (cases_of stated.lines).1

  abbrev count : ℕ
  count = length keys + 1

  abbrev place_of : List Prices → ℕ → Prices
  place_of items k = slice_index_or items k (record { scale = list.charges.scale; strikes = [] })

  strikes-by : (most : ℕ) → ((case voice place : ℕ) → price_at stated.lines case voice place ≤ most) → (case v place : ℕ)
      → slice_index (place_of list.charges.strikes.items (4 * case + v)).strikes place ≤ most
  strikes-by most low case v place =
      subst (λ (items : List Prices). slice_index (place_of items (4 * case + v)).strikes place ≤ most) (sym is.strikes)
      (strikes_within stated.lines count most low list.charges.scale (4 * case + v) place)

  scale-by : (case v : ℕ) → (place_of list.charges.strikes.items (4 * case + v)).scale ≡ list.charges.scale
  scale-by case v =
      subst (λ (items : List Prices). (place_of items (4 * case + v)).scale ≡ list.charges.scale) (sym is.strikes)
      (prices_there stated.lines count (λ (p : Prices). p.scale ≡ list.charges.scale) list.charges.scale (4 * case + v)
      (λ c w. sym is.scale) refl)

  tops-by : (case : ℕ) → (slice_index_or list.charges.summits.items case any_summit).charge ≤ SCALE * weight_of sheet 17
  tops-by case =
      subst (λ (items : List Summit). (slice_index_or items case any_summit).charge ≤ SCALE * weight_of sheet 17)
      (sym is.summits) (tops_within (SCALE * weight_of sheet 17) None keys case any_summit (omega arith))

  -- a plain list parts no cases and states no price
  plain-parts : list.plain ≡ true → (keys ≡ []) × (has_price stated.lines ≡ false)
  plain-parts plain =
      let parts = and_parts (has_no_keys keys) (not (has_price stated.lines)) (sym is.plain ∙ plain) in
      (empty_keys keys parts.0, not_true (has_price stated.lines) parts.1)

  charges_nothing : list.plain ≡ true → ChargesNothing list.charges
  charges_nothing plain =
      let parts = plain-parts plain in
      record {
        strikes = λ case v place.
            let low = strikes-by 0 (λ c w p. omega (arith, price_none stated.lines c w p parts.1)) case v place in
            omega (arith, low);
        cases = is.summits ∙ ap (λ (ks : List ℕ). summits_from (SCALE * weight_of sheet 17) None ks) parts.0;
      }

  module _ (due : first_above (SCALE * weight_of sheet 20) (prices_in stated.lines) ≡ None) where
    prices_due : (case voice place : ℕ) → price_at stated.lines case voice place ≤ SCALE * weight_of sheet 20
    prices_due case voice place = price_low (SCALE * weight_of sheet 20) stated.lines case voice place due

    fair_charges : AreFairCharges list.charges sheet
    fair_charges = record {
      some = omega (arith, is.scale);
      same = scale-by;
      strikes = λ case v place.
          subst (λ n. slice_index (place_of list.charges.strikes.items (4 * case + v)).strikes place ≤ n * weight_of sheet 20)
          (sym is.scale) (strikes-by (SCALE * weight_of sheet 20) prices_due case v place);
      tops = λ case. rw is.scale (tops-by case);
      cases = subst AreCases (sym is.summits) (all_have (SCALE * weight_of sheet 17) keys);
    }

    pub list_fits : HasSmallWeights sheet → length keys ≤ 15 → IsFit sheet list
    list_fits light few = record {
      fair = record { fair = fair_charges; nothing = charges_nothing };
      small = record {
        strikes = λ case v place.
            omega (arith, strikes-by (SCALE * weight_of sheet 20) prices_due case v place, light 20);
        tops = λ case. omega (arith, tops-by case, light 17);
      };
      scale = is.scale;
      few = omega (arith, few, ap length is.summits, summits-few (SCALE * weight_of sheet 17) None keys);
    }

fit_each : (sheet : Sheet) (all : List StatedList) (lists : List PriceList) → HasSmallWeights sheet
    → AreEachStated sheet all lists
    → AllByRecursion (λ (s : StatedList). first_above (SCALE * weight_of sheet 20) (prices_in s.lines) ≡ None) all
    → AllByRecursion (λ (s : StatedList). AllByRecursion AreKeys s.lines) all
    → AllByRecursion (IsFit sheet) lists
fit_each sheet [] [] light are due its = tt
fit_each sheet [] (list ∷ lists) light are due its = absurd are
fit_each sheet (s ∷ all) [] light are due its = absurd are
fit_each sheet (s ∷ all) (list ∷ lists) light are due its = (
  list_fits sheet s list are.0 due.0 light (cases_few s.lines its.0),
  fit_each sheet all lists light are.1 due.1 its.1,
)

pub lists_fit : ListsFit
lists_fit sheet lines lists light its due are =
    fit_each sheet (lists_of lines) lists light are (due_each (SCALE * weight_of sheet 20) lines due) (keys_each lines its)
