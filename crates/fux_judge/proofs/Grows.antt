-- A strict break is settled in a longer prefix where one was before or its last column settles one
-- (`strict_break_grows`), and what is paid of it is what was before and what that column settles
-- (`paid_grows`). After an orderly prefix the same holds of what is settled in the list itself, so
-- in prefixes that were orderly before their last column both are one.
use Rattle.std.specs.Prelude.{◌≡◌, ℕ, suc, ◌+◌, ◌*◌, ◌<◌, ◌≤◌, Bool, true, false, ◌&&◌, ◌||◌, List, [], ◌∷◌, ◌++◌, length, take, slice_index_or, if◌then◌else◌, refl}
use Rattle.std.specs.List.{list_any, sum_by}
use Rattle.std.proofs.Common.{ap, ◌∙◌, arith, add-one}
use Rattle.std.proofs.Math.ListN.{get_or-append}
use Rattle.std.proofs.Math.Seq.{get_or-append_seam}
use Rattle.std.proofs.lemmas.List.{length-append, take-append-le, take_all}
use Rattle.fux_grid.specs.declared.cell.Cell.{Cell}
use Rattle.fux_grid.specs.declared.exercise.Exercise.{Exercise}
use Rattle.rule_law.specs.Forms as forms
use Rattle.rule_law.specs.Places.{IsLocal}
use Rattle.rule_law.specs.Prefixes.{GoesOn}
use Rattle.rule_law.specs.Growth.{any_below, sum_below, newly, any_below-same, any_below-or, any_below-list_any, sum_below-same, sum_below-plus, list_any-same, list_any-or, sum_by-same, sum_by-plus, sum_by-none, test_grows, charge_grows, unsettled_at_end}
use Rattle.penalty_sheet.specs.declared.sheet.Sheet.{Sheet}
use Rattle.penalty_sheet.specs.Weights.{weight_of}
use Rattle.fux_judge.specs.Rules.{rules_read, tolls_read, all_sets, is_broken, is_settled, cost_at, is_cost_settled}
use Rattle.fux_judge.specs.Penalties.{is_strict_at, price_at_place, is_strictly_broken, newly_broken_at, newly_broken, new_tolls, new_prices, newly_paid, breaks_by_column, has_strict_break, paid_by_column, paid, has_break_settled_in, settled_tolls, settled_prices, charges_settled_in}
use Rattle.fux_judge.proofs.Facts.{rule_is_local, rule_stays, rule_needs_place, toll_is_local, toll_stays, toll_needs_place}

module _ (ex : Exercise) (p : List (List Cell)) (col : List Cell) where
  pub one_more : length (p ++ col ∷ []) ≡ length p + 1
  one_more = length-append p (col ∷ [])

  -- the columns of the prefix settle in the longer one what they did
  same_start : (k : ℕ) → k ≤ length p → take k (p ++ col ∷ []) ≡ take k p
  same_start k h = take-append-le k p (col ∷ []) h

  same_column : (k : ℕ) → k < length p → slice_index_or (p ++ col ∷ []) k [] ≡ slice_index_or p k []
  same_column k h = get_or-append p (col ∷ []) [] k h

  start_at_end : take (length p) (p ++ col ∷ []) ≡ p
  start_at_end = same_start (length p) (omega arith) ∙ take_all (length p) p (omega arith)

  pub column_at_end : slice_index_or (p ++ col ∷ []) (length p) [] ≡ col
  column_at_end = get_or-append_seam p col [] []

  -- a strict break is settled in the longer prefix where one was before, or where the column
  -- settles one
  pub strict_break_grows : has_strict_break ex (p ++ col ∷ [])
      ≡ (has_strict_break ex p || list_any (newly_broken ex p col) rules_read)
  strict_break_grows =
      ap (any_below (breaks_by_column ex (p ++ col ∷ []))) (one_more ∙ add-one (length p))
      ∙ ap (λ b. b || breaks_by_column ex (p ++ col ∷ []) (length p))
      (any_below-same (breaks_by_column ex (p ++ col ∷ [])) (breaks_by_column ex p) (length p)
      (λ k h. ap (λ q. list_any (newly_broken ex q (slice_index_or (p ++ col ∷ []) k [])) rules_read)
      (same_start k (omega arith))
      ∙ ap (λ c. list_any (newly_broken ex (take k p) c) rules_read) (same_column k h)))
      ∙ ap (λ b. has_strict_break ex p || b)
      (ap (λ q. list_any (newly_broken ex q (slice_index_or (p ++ col ∷ []) (length p) [])) rules_read) start_at_end
      ∙ ap (λ c. list_any (newly_broken ex p c) rules_read) column_at_end)

  -- what is paid in the longer prefix is what was before, and what the column settles
  pub paid_grows : (sheet : Sheet) → paid ex sheet (p ++ col ∷ []) ≡ paid ex sheet p + newly_paid ex sheet p col
  paid_grows sheet =
      ap (sum_below (paid_by_column ex sheet (p ++ col ∷ []))) (one_more ∙ add-one (length p))
      ∙ ap (λ n. n + paid_by_column ex sheet (p ++ col ∷ []) (length p))
      (sum_below-same (paid_by_column ex sheet (p ++ col ∷ [])) (paid_by_column ex sheet p) (length p)
      (λ k h. ap (λ q. newly_paid ex sheet q (slice_index_or (p ++ col ∷ []) k [])) (same_start k (omega arith))
      ∙ ap (newly_paid ex sheet (take k p)) (same_column k h)))
      ∙ ap (λ n. paid ex sheet p + n)
      (ap (λ q. newly_paid ex sheet q (slice_index_or (p ++ col ∷ []) (length p) [])) start_at_end
      ∙ ap (newly_paid ex sheet p) column_at_end)

  broken_grows : GoesOn ex p (col ∷ []) → (i : ℕ)
      → list_any (λ rule. list_any (λ voices. is_strictly_broken rule ex voices (p ++ col ∷ []) i) all_sets) rules_read
      ≡ (list_any (λ rule. list_any (λ voices. is_strictly_broken rule ex voices p i) all_sets) rules_read
      || list_any (λ rule. list_any (λ voices. newly_broken_at rule ex voices p col i) all_sets) rules_read)
  broken_grows on i =
      list_any-same (λ rule. list_any (λ voices. is_strictly_broken rule ex voices (p ++ col ∷ []) i) all_sets)
      (λ rule. list_any (λ voices. is_strictly_broken rule ex voices p i) all_sets
      || list_any (λ voices. newly_broken_at rule ex voices p col i) all_sets) rules_read
      (λ rule.
      list_any-same (λ voices. is_strictly_broken rule ex voices (p ++ col ∷ []) i)
      (λ voices. is_strictly_broken rule ex voices p i || newly_broken_at rule ex voices p col i) all_sets
      (λ voices. test_grows (is_settled rule ex voices) (rule_stays rule ex voices) (rule_needs_place rule ex voices) p
      col ex (is_broken rule ex voices) (is_strict_at rule ex voices) (rule_is_local rule ex voices) on i)
      ∙ list_any-or (λ voices. is_strictly_broken rule ex voices p i) (λ voices. newly_broken_at rule ex voices p col i)
      all_sets)
      ∙ list_any-or (λ rule. list_any (λ voices. is_strictly_broken rule ex voices p i) all_sets)
      (λ rule. list_any (λ voices. newly_broken_at rule ex voices p col i) all_sets) rules_read

  none_at_end : list_any (λ rule. list_any (λ voices. is_strictly_broken rule ex voices p (length p)) all_sets)
      rules_read ≡ false
  unfolding forms.all_sets rules_read
  none_at_end =
      list_any-same (λ rule. list_any (λ voices. is_strictly_broken rule ex voices p (length p)) all_sets)
      (λ rule. false) rules_read
      (λ rule. list_any-same (λ voices. is_strictly_broken rule ex voices p (length p)) (λ voices. false) all_sets
      (λ voices. ap (λ s. s && is_broken rule ex voices p (length p) && is_strict_at rule ex voices (length p))
      (unsettled_at_end (is_settled rule ex voices) (rule_stays rule ex voices) (rule_needs_place rule ex voices) p
      col)))

  or_none : (a b : Bool) → b ≡ false → (a || b) ≡ a
  or_none true b h = refl
  or_none false b h = h

  -- after an orderly prefix the same holds of what is settled in the list itself
  pub break_settled_grows : GoesOn ex p (col ∷ []) → has_break_settled_in ex (p ++ col ∷ [])
      ≡ (has_break_settled_in ex p || list_any (newly_broken ex p col) rules_read)
  break_settled_grows on =
      let before : ℕ → Bool = λ i. list_any
      (λ rule. list_any (λ voices. is_strictly_broken rule ex voices p i) all_sets) rules_read in
      let after : ℕ → Bool = λ i. list_any
      (λ rule. list_any (λ voices. is_strictly_broken rule ex voices (p ++ col ∷ []) i) all_sets) rules_read in
      let fresh : ℕ → Bool = λ i. list_any
      (λ rule. list_any (λ voices. newly_broken_at rule ex voices p col i) all_sets) rules_read in
      let n : length p + 1 ≡ suc (length p) = add-one (length p) in
      ap (any_below after) one_more
      ∙ any_below-same after (λ i. before i || fresh i) (length p + 1) (λ i h. broken_grows on i)
      ∙ any_below-or before fresh (length p + 1)
      ∙ ap (λ k. any_below before k || any_below fresh (length p + 1)) n
      ∙ ap (λ b. b || any_below fresh (length p + 1))
      (or_none (any_below before (length p)) (before (length p)) none_at_end)
      ∙ ap (λ b. any_below before (length p) || b)
      (any_below-list_any (λ rule i. list_any (λ voices. newly_broken_at rule ex voices p col i) all_sets) rules_read
      (length p + 1)
      ∙ list_any-same (λ rule. any_below (λ i. list_any (λ voices. newly_broken_at rule ex voices p col i) all_sets)
      (length p + 1)) (newly_broken ex p col) rules_read
      (λ rule. any_below-list_any (λ voices. newly_broken_at rule ex voices p col) all_sets (length p + 1)))

module _ (ex : Exercise) (sheet : Sheet) (p : List (List Cell)) (col : List Cell) where
  weighed : (toll : ℕ) → IsLocal ex (λ s i. cost_at toll ex s i * weight_of sheet toll) (is_cost_settled toll ex)
  weighed toll q t i on h = ap (λ c. c * weight_of sheet toll) (toll_is_local toll ex q t i on h)

  priced : (rule voices : ℕ) → IsLocal ex (λ s i. if is_broken rule ex voices s i then price_at_place rule ex voices i
      else 0) (is_settled rule ex voices)
  priced rule voices q t i on h =
      ap (λ b. if b then price_at_place rule ex voices i else 0) (rule_is_local rule ex voices q t i on h)

  tolls_grow : GoesOn ex p (col ∷ []) → (i : ℕ) → settled_tolls ex sheet (p ++ col ∷ []) i
      ≡ settled_tolls ex sheet p i + new_tolls ex sheet p col i
  tolls_grow on i =
      let before : ℕ → ℕ = λ toll. if is_cost_settled toll ex p i then cost_at toll ex p i * weight_of sheet toll
      else 0 in
      let after : ℕ → ℕ = λ toll. if is_cost_settled toll ex (p ++ col ∷ []) i
      then cost_at toll ex (p ++ col ∷ []) i * weight_of sheet toll else 0 in
      let fresh : ℕ → ℕ = λ toll. if newly (is_cost_settled toll ex) p col i
      then cost_at toll ex (p ++ col ∷ []) i * weight_of sheet toll else 0 in
      sum_by-same after (λ toll. before toll + fresh toll) tolls_read
      (λ toll. charge_grows (is_cost_settled toll ex) (toll_stays toll ex) (toll_needs_place toll ex) p col ex
      (λ s i. cost_at toll ex s i * weight_of sheet toll) (weighed toll) on i)
      ∙ sum_by-plus before fresh tolls_read

  prices_grow : GoesOn ex p (col ∷ []) → (i : ℕ) → settled_prices ex (p ++ col ∷ []) i
      ≡ settled_prices ex p i + new_prices ex p col i
  prices_grow on i =
      let before : ℕ → ℕ → ℕ = λ rule voices. if is_settled rule ex voices p i
      then (if is_broken rule ex voices p i then price_at_place rule ex voices i else 0) else 0 in
      let after : ℕ → ℕ → ℕ = λ rule voices. if is_settled rule ex voices (p ++ col ∷ []) i
      then (if is_broken rule ex voices (p ++ col ∷ []) i then price_at_place rule ex voices i else 0) else 0 in
      let fresh : ℕ → ℕ → ℕ = λ rule voices. if newly (is_settled rule ex voices) p col i
      then (if is_broken rule ex voices (p ++ col ∷ []) i then price_at_place rule ex voices i else 0) else 0 in
      sum_by-same (λ rule. sum_by (after rule) all_sets)
      (λ rule. sum_by (before rule) all_sets + sum_by (fresh rule) all_sets) rules_read
      (λ rule.
      sum_by-same (after rule) (λ voices. before rule voices + fresh rule voices) all_sets
      (λ voices. charge_grows (is_settled rule ex voices) (rule_stays rule ex voices) (rule_needs_place rule ex voices)
      p col ex (λ s i. if is_broken rule ex voices s i then price_at_place rule ex voices i else 0)
      (priced rule voices) on i)
      ∙ sum_by-plus (before rule) (fresh rule) all_sets)
      ∙ sum_by-plus (λ rule. sum_by (before rule) all_sets) (λ rule. sum_by (fresh rule) all_sets) rules_read

  none_due : settled_tolls ex sheet p (length p) + settled_prices ex p (length p) ≡ 0
  none_due =
      let a : settled_tolls ex sheet p (length p) ≡ 0 =
      sum_by-none (λ toll. if is_cost_settled toll ex p (length p)
      then cost_at toll ex p (length p) * weight_of sheet toll else 0) tolls_read
      (λ toll. ap (λ s. if s then cost_at toll ex p (length p) * weight_of sheet toll else 0)
      (unsettled_at_end (is_cost_settled toll ex) (toll_stays toll ex) (toll_needs_place toll ex) p col)) in
      let b : settled_prices ex p (length p) ≡ 0 =
      sum_by-none (λ rule. sum_by (λ voices. if is_settled rule ex voices p (length p)
      then (if is_broken rule ex voices p (length p) then price_at_place rule ex voices (length p) else 0) else 0)
      all_sets) rules_read
      (λ rule. sum_by-none (λ voices. if is_settled rule ex voices p (length p)
      then (if is_broken rule ex voices p (length p) then price_at_place rule ex voices (length p) else 0) else 0)
      all_sets
      (λ voices. ap (λ s. if s then (if is_broken rule ex voices p (length p)
      then price_at_place rule ex voices (length p) else 0) else 0)
      (unsettled_at_end (is_settled rule ex voices) (rule_stays rule ex voices) (rule_needs_place rule ex voices) p
      col))) in
      ap (λ n. n + settled_prices ex p (length p)) a ∙ ap (λ n. 0 + n) b

  -- and so of the charges
  pub charges_settled_grow : GoesOn ex p (col ∷ []) → charges_settled_in ex sheet (p ++ col ∷ [])
      ≡ charges_settled_in ex sheet p + newly_paid ex sheet p col
  charges_settled_grow on =
      let before : ℕ → ℕ = λ i. settled_tolls ex sheet p i + settled_prices ex p i in
      let after : ℕ → ℕ = λ i. settled_tolls ex sheet (p ++ col ∷ []) i + settled_prices ex (p ++ col ∷ []) i in
      let fresh : ℕ → ℕ = λ i. new_tolls ex sheet p col i + new_prices ex p col i in
      let grows : (i : ℕ) → after i ≡ before i + fresh i = λ i. four (settled_tolls ex sheet (p ++ col ∷ []) i)
      (settled_prices ex (p ++ col ∷ []) i) (settled_tolls ex sheet p i) (settled_prices ex p i)
      (new_tolls ex sheet p col i) (new_prices ex p col i) (tolls_grow on i) (prices_grow on i) in
      ap (sum_below after) (one_more ex p col)
      ∙ sum_below-same after (λ i. before i + fresh i) (length p + 1) (λ i h. grows i)
      ∙ sum_below-plus before fresh (length p + 1)
      ∙ ap (λ k. sum_below before k + sum_below fresh (length p + 1)) (add-one (length p))
      ∙ ap (λ k. sum_below before (length p) + k + sum_below fresh (length p + 1)) none_due
      ∙ ap (λ k. k + sum_below fresh (length p + 1)) (nothing (sum_below before (length p)))
    where
      four : (x y a b c d : ℕ) → x ≡ a + c → y ≡ b + d → x + y ≡ (a + b) + (c + d)
      four x y a b c d e f = omega arith

      nothing : (n : ℕ) → n + 0 ≡ n
      nothing n = omega arith
