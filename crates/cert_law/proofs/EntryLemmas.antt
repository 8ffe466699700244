-- True entries are at most the least sums over chains (`entries_are_low`): backwards from the last
-- place, each least sum goes through a column whose entry is at most the least sum behind it.
use Rattle.std.proofs.Common.{◌≡◌, ℕ, zero, suc, ◌+◌, ◌-◌, ◌<◌, ◌≤◌, ◌⊎◌, inl, inr, Bool, true, false, List, [], ◌∷◌, Option, Some, None, length, map, min, get_or, refl, sym, ap, ◌∙◌, subst, arith}
use Rattle.std.specs.Prelude.{IsSomeAnd, if◌then◌else◌}
use Rattle.std.proofs.lemmas.Bool.{cases_lt}
use Rattle.cert_text.specs.declared.potential.Potential.{Potential}
use Rattle.cert_text.specs.declared.potential.Potential.TheVariants.{Least, NoChain}
use Rattle.cert_law.specs.Entries.{AllowsSum, AreTrueEntries, EntriesAreLow, IsLow, IsTrueBefore, entry_at, entry_of, menu_column, number_in, sum_through}
use Rattle.chain_sums.specs.Chains.{cells_of, plus}
use Rattle.chain_sums.specs.Sums.{column_follows, least_in, least_sum, lesser, sum_behind}
use Rattle.chain_sums.proofs.LeastLemmas.{same_value}
use Rattle.floor_tables.specs.Floors.{chains_of, rest_of}
use Rattle.fux_grid.specs.declared.cell.Cell.{Cell}
use Rattle.fux_grid.specs.declared.exercise.Exercise.{Exercise}
use Rattle.fux_grid.specs.Exercises.{IsValid, columns_in}
use Rattle.fux_grid.specs.Menus.{menu_of}
use Rattle.fux_judge.specs.Links.{last_column}
use Rattle.penalty_sheet.specs.declared.sheet.Sheet.{Sheet}

-- the least of a list that has one is that of one of its columns
pub record IsAt (f : List Cell → Option ℕ) (cols : List (List Cell)) (r : ℕ) : Type 0 where
  pub k : ℕ
  pub within : k < length cols
  pub is : f (get_or cols k []) ≡ Some r

pub least_at : (f : List Cell → Option ℕ) (cols : List (List Cell)) (r : ℕ) → least_in (map f cols) ≡ Some r
    → IsAt f cols r
least_at f [] r e = cc
least_at f (c ∷ cols) r e = by (least_at f cols r) (f c) refl (least_in (map f cols)) refl e
  where
    first : f c ≡ Some r → IsAt f (c ∷ cols) r
    first is = record { k = 0; within = omega arith; is = is }

    later : IsAt f cols r → IsAt f (c ∷ cols) r
    later at = record { k = suc at.k; within = omega (arith, at.within); is = at.is }

    by : (least_in (map f cols) ≡ Some r → IsAt f cols r) → (a : Option ℕ) → f c ≡ a → (b : Option ℕ)
        → least_in (map f cols) ≡ b → lesser a b ≡ Some r → IsAt f (c ∷ cols) r
    by behind None fe b be g = later (behind (be ∙ g))
    by behind (Some x) fe None be g = first (fe ∙ g)
    by behind (Some x) fe (Some y) be g =
        let least : min x y ≡ r = same_value (min x y) r g in
        at (cases_lt x y) least
      where
        at : (x < y) ⊎ (y ≤ x) → min x y ≡ r → IsAt f (c ∷ cols) r
        at (inl less) least = let same : x ≡ r = omega (arith, less, least) in first (fe ∙ ap Some same)
        at (inr more) least =
            let same : y ≡ r = omega (arith, more, least) in later (behind (be ∙ ap Some same))

-- a sum through a column with a low number is low
through : (follows : Bool) (cost rest stated : Option ℕ) (r : ℕ)
    → (if follows then plus cost rest else None) ≡ Some r → IsLow stated rest
    → IsSomeAnd (if follows then plus cost stated else None) (λ s. s ≤ r)
through false cost rest stated r e low = cc
through true None rest stated r e low = cc
through true (Some x) None stated r e low = cc
through true (Some x) (Some y) None r e low = absurd low
through true (Some x) (Some y) (Some n) r e low =
    let sum : x + y ≡ r = same_value (x + y) r e in
    let few : x + n ≤ r = omega (arith, sum, low) in few

-- and so is an entry that allows it
below : (entry : Potential) (sum : Option ℕ) (r : ℕ) → AllowsSum entry sum → IsSomeAnd sum (λ s. s ≤ r)
    → IsSomeAnd (number_in entry) (λ n. n ≤ r)
below entry None r allows low = absurd low
below (Least n) (Some s) r allows low = let few : n ≤ r = omega (arith, allows, low) in few
below NoChain (Some s) r allows low = cc

module _ (ex : Exercise) (sheet : Sheet) (entries : List Potential) where
  -- the numbers of a place are low, where so many places come behind it
  abbrev AreLow : ℕ → ℕ → Type 0
  AreLow count i = (k : ℕ) → k < length (menu_of ex i)
      → IsLow (number_in (entry_of ex entries i k)) (least_sum (chains_of ex sheet) count (suc i) (Some (menu_column ex i k)))

  step : (count i : ℕ) (before : Option (List Cell)) (entry : Potential) → IsTrueBefore ex sheet entries i before entry
      → AreLow count i → IsLow (number_in entry) (least_sum (chains_of ex sheet) (suc count) i before)
  step count i before entry holds low = by (least_sum (chains_of ex sheet) (suc count) i before) refl
    where
      by : (o : Option ℕ) → least_sum (chains_of ex sheet) (suc count) i before ≡ o → IsLow (number_in entry) o
      by None e = tt
      by (Some r) e =
          let at = least_at
          (λ d. sum_behind (chains_of ex sheet) i before d (least_sum (chains_of ex sheet) count (suc i) (Some d)))
          (menu_of ex i) r e in
          below entry (sum_through ex sheet entries i before at.k) r (holds at.k at.within)
          (through (column_follows (cells_of before) (menu_column ex i at.k))
          ((chains_of ex sheet).cost i before (menu_column ex i at.k))
          (least_sum (chains_of ex sheet) count (suc i) (Some (menu_column ex i at.k)))
          (number_in (entry_of ex entries i at.k)) r at.is (low at.k at.within))

  module _ (are : AreTrueEntries ex sheet entries) where
    low : (count i : ℕ) → count + suc i ≡ columns_in ex → AreLow count i
    low zero i all k within =
        let last : suc i ≡ columns_in ex = omega (arith, all) in
        subst (λ entry. IsLow (number_in entry) (Some 0)) (sym (are.last i k last within)) (omega arith)
    low (suc count) i all k within =
        step count (suc i) (Some (menu_column ex i k)) (entry_of ex entries i k)
        (are.each i k (omega (arith, all)) within) (low count (suc i) (omega (arith, all)))

    start_low : IsValid ex → IsLow (number_in (entry_at entries 0)) (rest_of ex sheet [])
    unfolding rest_of
    start_low valid =
        let count : ℕ = columns_in ex - 1 in
        let all : suc count ≡ columns_in ex - 0 = omega (arith, valid.fewest_bars) in
        subst (λ n. IsLow (number_in (entry_at entries 0)) (least_sum (chains_of ex sheet) n 0 None)) all
        (step count 0 None (entry_at entries 0) are.start (low count 0 (omega (arith, all))))

    each_low : (p : List (List Cell)) (i k : ℕ) → i < columns_in ex → k < length (menu_of ex i) → length p ≡ suc i
        → last_column p ≡ Some (menu_column ex i k)
        → IsLow (number_in (entry_of ex entries i k)) (rest_of ex sheet p)
    unfolding rest_of
    each_low p i k here within long last =
        subst
        (λ o. IsLow (number_in (entry_of ex entries i k))
        (least_sum (chains_of ex sheet) (columns_in ex - length p) (length p) o))
        (sym last)
        (subst
        (λ n. IsLow (number_in (entry_of ex entries i k))
        (least_sum (chains_of ex sheet) (columns_in ex - n) n (Some (menu_column ex i k))))
        (sym long) (low (columns_in ex - suc i) i (omega (arith, here)) k within))

pub entries_are_low : (ex : Exercise) (sheet : Sheet) (entries : List Potential) → IsValid ex
    → AreTrueEntries ex sheet entries → EntriesAreLow ex sheet entries
entries_are_low ex sheet entries valid are =
    record { start = start_low ex sheet entries are valid; each = each_low ex sheet entries are }
