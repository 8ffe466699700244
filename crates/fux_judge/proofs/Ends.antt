-- In a list of all columns everything is settled in the list itself.
use Rattle.std.specs.Prelude.{◌≡◌, ℕ, zero, suc, ◌+◌, ◌*◌, ◌<◌, Bool, true, false, ◌&&◌, ◌||◌, List, ◌==◌, length, if◌then◌else◌, refl}
use Rattle.std.specs.List.{list_any, sum_by}
use Rattle.std.proofs.Common.{ap, sym, ◌∙◌, arith}
use Rattle.std.proofs.lemmas.Bool.{eqb-true, or_parts}
use Rattle.std.proofs.lemmas.Bool.Decides.{nat_tests}
use Rattle.fux_grid.specs.declared.cell.Cell.{Cell}
use Rattle.fux_grid.specs.declared.exercise.Exercise.{Exercise}
use Rattle.fux_grid.specs.Exercises.{columns_in}
use Rattle.rule_law.specs.Growth.{any_below, sum_below-same, list_any-same, sum_by-same}
use Rattle.penalty_sheet.specs.declared.sheet.Sheet.{Sheet}
use Rattle.penalty_sheet.specs.Weights.{weight_of}
use Rattle.fux_judge.specs.Rules.{rules_read, tolls_read, all_sets, is_broken, is_settled, cost_at, is_cost_settled}
use Rattle.fux_judge.specs.Penalties.{is_strict_at, price_at_place, is_strictly_broken, has_break_settled_in, settled_tolls, settled_prices, charges_settled_in, tolls_at, prices_at, charges_of}
use Rattle.fux_judge.specs.Lawful.{breaks_strictly}
use Rattle.fux_judge.proofs.Facts.{rule_settles_at_end, toll_settles_at_end}

below_other : (i n : ℕ) → i < suc n → (i == n) ≡ false → i < n
below_other i n k q = grind (arith, nat_tests)

at_or_below : (f : ℕ → Bool) (n i : ℕ) (t : Bool) → (i == n) ≡ t → f n ≡ false → ((i == n) ≡ false → f i ≡ false) → f i
    ≡ false
at_or_below f n i true q here below = ap f (eqb-true i n q) ∙ here
at_or_below f n i false q here below = below q

-- no number below n passes, each by each
pub none_below : (f : ℕ → Bool) (n : ℕ) → any_below f n ≡ false → (i : ℕ) → i < n → f i ≡ false
none_below f zero h i k = absurd (omega arith)
none_below f (suc n) h i k =
    let both = or_parts (any_below f n) (f n) h in
    at_or_below f n i (i == n) refl both.1 (λ q. none_below f n both.0 i (below_other i n k q))

pub from_none_below : (f : ℕ → Bool) (n : ℕ) → ((i : ℕ) → i < n → f i ≡ false) → any_below f n ≡ false
from_none_below f zero h = refl
from_none_below f (suc n) h = ap (λ b. any_below f n || b) (h n (omega arith))
    ∙ ap (λ b. b || false) (from_none_below f n (λ i k. h i (omega arith)))

module _ (ex : Exercise) (s : List (List Cell)) (whole : length s ≡ columns_in ex) where
  settled_break : (i : ℕ) → i < length s → list_any
      (λ rule. list_any (λ voices. is_strictly_broken rule ex voices s i) all_sets) rules_read ≡ breaks_strictly ex s i
  settled_break i h =
      list_any-same (λ rule. list_any (λ voices. is_strictly_broken rule ex voices s i) all_sets)
      (λ rule. list_any (λ voices. is_broken rule ex voices s i && is_strict_at rule ex voices i) all_sets)
      rules_read
      (λ rule. list_any-same (λ voices. is_strictly_broken rule ex voices s i)
      (λ voices. is_broken rule ex voices s i && is_strict_at rule ex voices i) all_sets
      (λ voices. ap (λ b. b && is_broken rule ex voices s i && is_strict_at rule ex voices i)
      (rule_settles_at_end rule ex voices s i whole h)))

  -- a list of all columns in which no strict break is settled has none
  pub unbroken_if_none_settled : has_break_settled_in ex s ≡ false → (i : ℕ) → i < length s → breaks_strictly ex s i
      ≡ false
  unbroken_if_none_settled h i k =
      sym (settled_break i k) ∙ none_below
      (λ i. list_any (λ rule. list_any (λ voices. is_strictly_broken rule ex voices s i) all_sets) rules_read)
      (length s) h i k

  pub none_settled_if_unbroken : ((i : ℕ) → i < length s → breaks_strictly ex s i ≡ false) → has_break_settled_in ex s
      ≡ false
  none_settled_if_unbroken h =
      from_none_below (λ i. list_any (λ rule. list_any (λ voices. is_strictly_broken rule ex voices s i) all_sets)
      rules_read) (length s) (λ i k. settled_break i k ∙ h i k)

  -- the charges settled in a list of all columns are its penalty
  pub settled_at_end : (sheet : Sheet) → charges_settled_in ex sheet s ≡ charges_of ex sheet s
  settled_at_end sheet =
      sum_below-same (λ i. settled_tolls ex sheet s i + settled_prices ex s i)
      (λ i. tolls_at ex sheet s i + prices_at ex s i) (length s)
      (λ i h.
      ap (λ n. n + settled_prices ex s i)
      (sum_by-same (λ toll. if is_cost_settled toll ex s i then cost_at toll ex s i * weight_of sheet toll else 0)
      (λ toll. cost_at toll ex s i * weight_of sheet toll) tolls_read
      (λ toll. ap (λ b. if b then cost_at toll ex s i * weight_of sheet toll else 0)
      (toll_settles_at_end toll ex s i whole h)))
      ∙ ap (λ n. tolls_at ex sheet s i + n)
      (sum_by-same (λ rule. sum_by (λ voices. if is_settled rule ex voices s i
      then (if is_broken rule ex voices s i then price_at_place rule ex voices i else 0) else 0) all_sets)
      (λ rule. sum_by (λ voices. if is_broken rule ex voices s i then price_at_place rule ex voices i else 0)
      all_sets) rules_read
      (λ rule. sum_by-same (λ voices. if is_settled rule ex voices s i
      then (if is_broken rule ex voices s i then price_at_place rule ex voices i else 0) else 0)
      (λ voices. if is_broken rule ex voices s i then price_at_place rule ex voices i else 0) all_sets
      (λ voices. ap (λ b. if b then (if is_broken rule ex voices s i then price_at_place rule ex voices i else 0)
      else 0) (rule_settles_at_end rule ex voices s i whole h)))))
