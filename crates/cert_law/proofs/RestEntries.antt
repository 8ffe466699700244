-- Entries that state the least sums over chains are true (`rests_are_true`): each is at most the
-- sum through each column that may come next.
use Rattle.std.proofs.Common.{◌≡◌, ℕ, zero, suc, ◌+◌, ◌-◌, ◌<◌, ◌≤◌, List, [], ◌∷◌, Option, Some, None, length, map, min, get_or, refl, sym, ap, ◌∙◌, subst, arith}
use Rattle.std.specs.Prelude.{IfSome}
use Rattle.cert_text.specs.declared.potential.Potential.{Potential}
use Rattle.cert_text.specs.declared.potential.Potential.TheVariants.{Least, NoChain}
use Rattle.cert_law.specs.Entries.{AllowsSum, AreTrueEntries, IsTrueBefore, entry_at, entry_of, menu_column, number_in, sum_through}
use Rattle.cert_law.specs.Rests.{AreRests}
use Rattle.chain_sums.specs.Sums.{least_in, least_sum, lesser, sum_behind}
use Rattle.chain_sums.proofs.LeastLemmas.{same_value}
use Rattle.chain_sums.proofs.SumLemmas.{least_is_sum}
use Rattle.floor_tables.specs.Floors.{chains_of}
use Rattle.fux_grid.specs.declared.cell.Cell.{Cell}
use Rattle.fux_grid.specs.declared.exercise.Exercise.{Exercise}
use Rattle.fux_grid.specs.Exercises.{IsValid, columns_in}
use Rattle.fux_grid.specs.Menus.{menu_of}
use Rattle.penalty_sheet.specs.declared.sheet.Sheet.{Sheet}

-- a number that may be lacking allows a sum
IsLeastOr : Option ℕ → Option ℕ → Type 0
IsLeastOr None sum = sum ≡ None
IsLeastOr (Some n) sum = IfSome sum (λ s. n ≤ s)

-- the least of a list allows each of its sums
least_allows : (f : List Cell → Option ℕ) (cols : List (List Cell)) (k : ℕ) → k < length cols
    → IsLeastOr (least_in (map f cols)) (f (get_or cols k []))
unfolding IsLeastOr
least_allows f [] k within = absurd (omega (arith, within))
least_allows f (c ∷ cols) zero within = first (f c) (least_in (map f cols))
  where
    first : (a b : Option ℕ) → IsLeastOr (lesser a b) a
    first None None = refl
    first None (Some y) = tt
    first (Some x) None = omega arith
    first (Some x) (Some y) = omega arith
least_allows f (c ∷ cols) (suc k) within =
    later (f c) (least_in (map f cols)) (f (get_or cols k [])) (least_allows f cols k (omega (arith, within)))
  where
    later : (a b sum : Option ℕ) → IsLeastOr b sum → IsLeastOr (lesser a b) sum
    later None b sum allows = allows
    later (Some x) None None allows = tt
    later (Some x) None (Some s) allows = cc
    later (Some x) (Some y) None allows = tt
    later (Some x) (Some y) (Some s) allows = let few : min x y ≤ s = omega (arith, allows) in few

-- so does the entry that states it
entry_allows : (entry : Potential) (least sum : Option ℕ) → number_in entry ≡ least → IsLeastOr least sum
    → AllowsSum entry sum
unfolding IsLeastOr
entry_allows (Least n) least sum e allows = subst (λ (o : Option ℕ). IsLeastOr o sum) (sym e) allows
entry_allows NoChain least sum e allows = subst (λ (o : Option ℕ). IsLeastOr o sum) (sym e) allows

states_none : (entry : Potential) → number_in entry ≡ Some 0 → entry ≡ Least 0
states_none (Least n) e = ap Least (same_value n 0 e)
states_none NoChain e = cc

module _ (ex : Exercise) (sheet : Sheet) (entries : List Potential) (are : AreRests ex sheet entries) where
  -- the least sum behind a column
  behind : ℕ → ℕ → Option ℕ
  behind i k = least_sum (chains_of ex sheet) (columns_in ex - suc i) (suc i) (Some (menu_column ex i k))

  states : (i k : ℕ) → i < columns_in ex → k < length (menu_of ex i) → number_in (entry_of ex entries i k) ≡ behind i k
  unfolding behind
  states i k here within =
      least_is_sum (chains_of ex sheet) (suc i) (Some (menu_column ex i k)) (number_in (entry_of ex entries i k))
      (omega (arith, here)) (are.each i k here within)

  -- an entry that states the least sum from a place on is true before it
  true_before : (count i : ℕ) (before : Option (List Cell)) (entry : Potential) → suc count + i ≡ columns_in ex
      → number_in entry ≡ least_sum (chains_of ex sheet) (suc count) i before
      → IsTrueBefore ex sheet entries i before entry
  unfolding behind
  true_before count i before entry all e = λ k within.
      let f : List Cell → Option ℕ = λ d. sum_behind (chains_of ex sheet) i before d
      (least_sum (chains_of ex sheet) count (suc i) (Some d)) in
      let few : count ≡ columns_in ex - suc i = omega (arith, all) in
      let here : i < columns_in ex = omega (arith, all) in
      let same : f (menu_column ex i k) ≡ sum_through ex sheet entries i before k =
      ap (λ n. sum_behind (chains_of ex sheet) i before (menu_column ex i k)
      (least_sum (chains_of ex sheet) n (suc i) (Some (menu_column ex i k)))) few
      ∙ ap (sum_behind (chains_of ex sheet) i before (menu_column ex i k)) (sym (states i k here within)) in
      entry_allows entry (least_in (map f (menu_of ex i))) (sum_through ex sheet entries i before k) e
      (subst (λ (sum : Option ℕ). IsLeastOr (least_in (map f (menu_of ex i))) sum) same
      (least_allows f (menu_of ex i) k within))

  pub rests_are_true : IsValid ex → AreTrueEntries ex sheet entries
  unfolding behind
  rests_are_true valid = record {
    whole = are.whole;
    start = let count : ℕ = columns_in ex - 1 in
        let all : suc count + 0 ≡ columns_in ex = omega (arith, valid.fewest_bars) in
        let long : columns_in ex - 0 ≡ suc count = omega (arith, all) in
        true_before count 0 None (entry_at entries 0) all
        (least_is_sum (chains_of ex sheet) 0 None (number_in (entry_at entries 0)) (omega arith) are.start
        ∙ ap (λ n. least_sum (chains_of ex sheet) n 0 None) long);
    each = λ i k here within.
        let count : ℕ = columns_in ex - suc (suc i) in
        let all : suc count + suc i ≡ columns_in ex = omega (arith, here) in
        let long : columns_in ex - suc i ≡ suc count = omega (arith, here) in
        true_before count (suc i) (Some (menu_column ex i k)) (entry_of ex entries i k) all
        (states i k (omega (arith, here)) within
        ∙ ap (λ n. least_sum (chains_of ex sheet) n (suc i) (Some (menu_column ex i k))) long);
    last = λ i k end within.
        let none : columns_in ex - suc i ≡ 0 = omega (arith, end) in
        states_none (entry_of ex entries i k)
        (states i k (omega (arith, end)) within
        ∙ ap (λ n. least_sum (chains_of ex sheet) n (suc i) (Some (menu_column ex i k))) none);
  }
