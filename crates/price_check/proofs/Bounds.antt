-- Where no stated price is above another number, no strike is charged more (`strikes_within`), nor
-- anything where none is stated (`price_none`); and each key is of a case between keys (`case_has`),
-- whose upper ends are charged alike (`tops_within`).
use Rattle.std.proofs.Common.{◌≡◌, ⊎_elim, ℕ, zero, suc, ◌+◌, ◌*◌, ◌/◌, ◌%◌, ◌≤◌, nat_lt, Bool, true, false, List, [], ◌∷◌, Option, Some, None, arith, length, map, option_map, slice_index, slice_index_or, refl, subst, sym, if◌then◌else◌}
use Rattle.std.specs.List.{AllByRecursion, range_with_len}
use Rattle.std.proofs.lemmas.Bool.{cases_lt, ltb-false}
use Rattle.std.proofs.lemmas.List.{get_or_past}
use Rattle.std.proofs.lemmas.List.FromFn.{get_or-map-range_with_len, length-map-range_with_len}
use Rattle.price_check.specs.PriceLines.{Cases, Claims, Keeps, Line, Price}
use Rattle.price_check.specs.Owned.{AreKeys}
use Rattle.price_check.specs.Stated.{StatedList, all_prices, charge_at, first_above, first_told, has_price, is_price_of, lists_of, or_later, price_at, price_told, prices_at, prices_in, summits_from, told_or}
use Rattle.priced_floors.specs.declared.prices.Prices.{Prices}
use Rattle.priced_floors.specs.declared.prices.Summit.{Summit}
use Rattle.priced_floors.specs.declared.prices.TheConstants.{PITCHES}

-- ---- prices

none_before : (o : Option ℕ) → option_map (λ n. n + 1) o ≡ None → o ≡ None
none_before None e = refl
none_before (Some n) e = cc

-- where none is above another, the first isn't, nor are the others
pub not_above : (most n : ℕ) (numbers : List ℕ) → first_above most (n ∷ numbers) ≡ None
    → (n ≤ most) × (first_above most numbers ≡ None)
not_above most n numbers none = by (nat_lt most n) refl none
  where
    by : (b : Bool) → nat_lt most n ≡ b
        → (if b then Some 0 else option_map (λ k. k + 1) (first_above most numbers)) ≡ None
        → (n ≤ most) × (first_above most numbers ≡ None)
    by true e h = cc
    by false e h = (ltb-false most n e, none_before (first_above most numbers) h)

either_low : (most number : ℕ) (b : Bool) (later : Option ℕ) → number ≤ most → told_or 0 later ≤ most
    → told_or 0 (or_later (if b then Some number else None) later) ≤ most
either_low most number true later low rest = low
either_low most number false later low rest = rest

pub price_low : (most : ℕ) (lines : List Line) (case voice place : ℕ) → first_above most (prices_in lines) ≡ None
    → price_at lines case voice place ≤ most
price_low most [] case voice place none = omega arith
price_low most (Keeps turns runs ∷ lines) case voice place none = omega arith
price_low most (Cases v keys ∷ lines) case voice place none = price_low most lines case voice place none
price_low most (Price c v pitch number ∷ lines) case voice place none =
    let parts = not_above most number (prices_in lines) none in
    either_low most number (is_price_of case voice place c v pitch) (first_told (price_told case voice place) lines) parts.0
    (price_low most lines case voice place parts.1)
price_low most (Claims ∷ lines) case voice place none = price_low most lines case voice place none

pub price_none : (lines : List Line) (case voice place : ℕ) → has_price lines ≡ false → price_at lines case voice place ≡ 0
price_none [] case voice place none = refl
price_none (Keeps turns runs ∷ lines) case voice place none = refl
price_none (Cases v keys ∷ lines) case voice place none = price_none lines case voice place none
price_none (Price c v pitch number ∷ lines) case voice place none = cc
price_none (Claims ∷ lines) case voice place none = price_none lines case voice place none

-- what holds of the lines behind the beginning of each list
pub due_each : (most : ℕ) (lines : List Line) → first_above most (prices_in lines) ≡ None
    → AllByRecursion (λ (s : StatedList). first_above most (prices_in s.lines) ≡ None) (lists_of lines)
due_each most [] none = tt
due_each most (Keeps turns runs ∷ lines) none = (none, due_each most lines none)
due_each most (Cases v keys ∷ lines) none = due_each most lines none
due_each most (Price c v pitch number ∷ lines) none = due_each most lines (not_above most number (prices_in lines) none).1
due_each most (Claims ∷ lines) none = due_each most lines none

pub keys_each : (lines : List Line) → AllByRecursion AreKeys lines
    → AllByRecursion (λ (s : StatedList). AllByRecursion AreKeys s.lines) (lists_of lines)
keys_each [] all = tt
keys_each (Keeps turns runs ∷ lines) all = (all.1, keys_each lines all.1)
keys_each (Cases v keys ∷ lines) all = keys_each lines all.1
keys_each (Price c v pitch number ∷ lines) all = keys_each lines all.1
keys_each (Claims ∷ lines) all = keys_each lines all.1

-- ---- strikes

module _ (lines : List Line) (count : ℕ) where
  abbrev its : ℕ → Prices
  its k = prices_at lines (k / 4) (k % 4)

  abbrev none_at : ℕ → Prices
  none_at scale = record { scale = scale; strikes = [] }

  -- the prices at a place are of some case and voice, or there are none
  pub prices_there : (P : Prices → Type 0) (scale k : ℕ) → ((case voice : ℕ) → P (prices_at lines case voice)) → P (none_at scale)
      → P (slice_index_or (all_prices lines count) k (none_at scale))
  prices_there P scale k there none = ⊎_elim
      (λ within. subst P (sym (get_or-map-range_with_len its 0 (4 * count) k k (none_at scale) within (omega arith))) (there (k / 4) (k % 4)))
      (λ past. subst P (sym (get_or_past (all_prices lines count) k (none_at scale)
      (omega (arith, past, length-map-range_with_len its 0 (4 * count))))) none)
      (cases_lt k (4 * count))

  module _ (most : ℕ) (low : (case voice place : ℕ) → price_at lines case voice place ≤ most) where
    strikes-low : (case voice place : ℕ) → slice_index (prices_at lines case voice).strikes place ≤ most
    strikes-low case voice place = ⊎_elim
        (λ within. subst (λ n. n ≤ most)
        (sym (get_or-map-range_with_len (price_at lines case voice) 0 PITCHES place place 0 within (omega arith))) (low case voice place))
        (λ past. subst (λ n. n ≤ most)
        (sym (get_or_past (map (price_at lines case voice) (range_with_len 0 PITCHES)) place 0
        (omega (arith, past, length-map-range_with_len (price_at lines case voice) 0 PITCHES)))) (omega arith))
        (cases_lt place PITCHES)

    pub strikes_within : (scale k place : ℕ)
        → slice_index (slice_index_or (all_prices lines count) k (none_at scale)).strikes place ≤ most
    strikes_within scale k place =
        prices_there (λ (p : Prices). slice_index p.strikes place ≤ most) scale k
        (λ case voice. strikes-low case voice place) (omega (arith, get_or_past (none_at scale).strikes place 0 (omega arith)))

-- ---- cases

at_end_low : (charge : ℕ) (high : Option ℕ) → charge_at charge high ≤ charge
at_end_low charge None = omega arith
at_end_low charge (Some key) = omega arith

pub tops_within : (charge : ℕ) (high : Option ℕ) (keys : List ℕ) (k : ℕ) (none : Summit) → none.charge ≤ charge
    → (slice_index_or (summits_from charge high keys) k none).charge ≤ charge
tops_within charge high [] zero none low = at_end_low charge high
tops_within charge high [] (suc k) none low = low
tops_within charge high (key ∷ keys) zero none low = at_end_low charge high
tops_within charge high (key ∷ keys) (suc k) none low = tops_within charge (Some key) keys k none low

pub summits-few : (charge : ℕ) (high : Option ℕ) (keys : List ℕ) → length (summits_from charge high keys) ≡ length keys + 1
summits-few charge high [] = refl
summits-few charge high (key ∷ keys) = omega (arith, summits-few charge (Some key) keys)
