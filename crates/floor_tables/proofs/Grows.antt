-- Floors don't fall: where a live prefix is longer by a column than another, that one is live too
-- (`live_before`), and its floor is no higher (`floor_grows`). At the end nothing is left to pay
-- (`rest_at_end`).
use Rattle.std.specs.Prelude.{◌≡◌, ℕ, suc, ◌+◌, ◌-◌, ◌<◌, ◌≤◌, false, List, [], ◌∷◌, ◌++◌, Option, Some, None, IsSome, IsSomeAnd, length, option_map, reverse, refl}
use Rattle.std.specs.List.{Contains, list_any}
use Rattle.std.proofs.Common.{ap, sym, ◌∙◌, subst, arith}
use Rattle.std.proofs.lemmas.List.{get_or_push, length-append}
use Rattle.std.proofs.lemmas.Bool.{or_parts}
use Rattle.fux_grid.specs.declared.cell.Cell.{Cell}
use Rattle.fux_grid.specs.declared.exercise.Exercise.{Exercise}
use Rattle.fux_grid.specs.Columns.{ColumnFollows, HistoryFollows, newest_column}
use Rattle.fux_grid.specs.Exercises.{columns_in}
use Rattle.fux_grid.specs.Menus.{IsInMenu, menu_of}
use Rattle.fux_grid.proofs.Histories.{reverse-push}
use Rattle.fux_grid.proofs.MenuLemmas.{menu_of-contains}
use Rattle.rule_law.specs.Prefixes.{GoesOn, IsPrefix}
use Rattle.penalty_sheet.specs.declared.sheet.Sheet.{Sheet}
use Rattle.fux_judge.proofs.Alive.{alive_orderly, prefix_before}
use Rattle.fux_judge.specs.Gauges.{least_of}
use Rattle.fux_judge.proofs.Grows.{paid_grows, strict_break_grows}
use Rattle.fux_judge.specs.Links.{last_column, link_of, newest_of}
use Rattle.fux_judge.specs.Penalties.{has_strict_break, newly_broken, newly_paid, paid}
use Rattle.fux_judge.specs.Rules.{rules_read}
use Rattle.fux_judge.proofs.LinkPaid.{link_is_paid}
use Rattle.chain_sums.specs.Chains.{HasSum, IsLeast, cells_of, chain_sum}
use Rattle.chain_sums.specs.Sums.{least_sum}
use Rattle.chain_sums.proofs.LeastLemmas.{plus_from}
use Rattle.chain_sums.proofs.SumLemmas.{least_sum_is}
use Rattle.floor_tables.specs.Floors.{IsLive, chains_of, floor_of, rest_of}

newest_cells : (h : List (List Cell)) → cells_of (newest_of h) ≡ newest_column h
newest_cells [] = refl
newest_cells (col ∷ cols) = refl

-- at the end the one chain is empty
pub rest_at_end : (ex : Exercise) (sheet : Sheet) (s : List (List Cell)) → length s ≡ columns_in ex → rest_of ex sheet s
    ≡ Some 0
unfolding rest_of
rest_at_end ex sheet s whole =
    let none : columns_in ex - length s ≡ 0 = omega (arith, whole) in
    ap (λ n. least_sum (chains_of ex sheet) n (length s) (last_column s)) none

-- the rest of a prefix is the least sum of the chains behind it
pub rest_is_least : (ex : Exercise) (sheet : Sheet) (p : List (List Cell)) → length p ≤ columns_in ex
    → IsLeast (chains_of ex sheet) (length p) (last_column p) (rest_of ex sheet p)
unfolding rest_of
rest_is_least ex sheet p few = least_sum_is (chains_of ex sheet) (length p) (last_column p) few

module _ (ex : Exercise) (few : ex.voices ≤ 4) (there : ex.cantus_voice < ex.voices) (sheet : Sheet)
    (p : List (List Cell)) (col : List Cell) (prefix : IsPrefix ex (p ++ col ∷ []))
    (alive : has_strict_break ex (p ++ col ∷ []) ≡ false) where
  -- the column is in its menu, and follows
  size : length (p ++ col ∷ []) ≡ length p + 1
  size = length-append p (col ∷ [])

  in_menu : Contains (menu_of ex (length p)) col
  in_menu =
      let P : List Cell → Type 0 = λ c. IsInMenu ex (length p) c in
      (menu_of-contains ex (length p) col).1
      (subst P (get_or_push p col [] (length p) refl) (prefix.menus (length p) (omega (arith, size))))

  follows : ColumnFollows (cells_of (last_column p)) col
  follows =
      let H : List (List Cell) → Type 0 = λ h. HistoryFollows h in
      let F : List Cell → Type 0 = λ before. ColumnFollows before col in
      subst F (sym (newest_cells (reverse p))) (subst H (reverse-push p col) prefix.follows).0

  -- no strict break is settled in the prefix, nor by the column
  tests : (has_strict_break ex p ≡ false) × (list_any (newly_broken ex p col) rules_read ≡ false)
  tests = or_parts (has_strict_break ex p) (list_any (newly_broken ex p col) rules_read)
      (sym (strict_break_grows ex p col) ∙ alive)

  on : GoesOn ex p (col ∷ [])
  on = record { orderly = alive_orderly ex few p tests.0; longer = prefix }

  link : IsSomeAnd (link_of ex sheet (length p) (last_column p) col) (λ cost. cost ≤ newly_paid ex sheet p col)
  link = link_is_paid ex there sheet p col on tests.1

  -- so a chain behind the column is one behind the prefix
  longer_chain : (later own : ℕ) → HasSum (chains_of ex sheet) (length (p ++ col ∷ [])) (last_column (p ++ col ∷ []))
      later
      → link_of ex sheet (length p) (last_column p) col ≡ Some own
      → HasSum (chains_of ex sheet) (length p) (last_column p) (own + later)
  longer_chain later own rest is =
      let place : length (p ++ col ∷ []) ≡ suc (length p) = omega (arith, size) in
      let last : last_column (p ++ col ∷ []) ≡ Some col = ap newest_of (reverse-push p col) in
      let there : HasSum (chains_of ex sheet) (suc (length p)) (Some col) later =
      subst (λ (b : Option (List Cell)). HasSum (chains_of ex sheet) (suc (length p)) b later) last
      (subst (λ (i : ℕ). HasSum (chains_of ex sheet) i (last_column (p ++ col ∷ [])) later) place rest) in
      record {
        chain = col ∷ there.chain;
        linked = (in_menu, follows, there.linked);
        whole = omega (arith, there.whole);
        is = plus_from (link_of ex sheet (length p) (last_column p) col)
            (chain_sum (chains_of ex sheet) (suc (length p)) (Some col) there.chain) own later (own + later) is there.is
            refl;
      }

  rest_by : (o : Option ℕ) → link_of ex sheet (length p) (last_column p) col ≡ o
      → IsSomeAnd o (λ cost. cost ≤ newly_paid ex sheet p col)
      → (later : ℕ) → rest_of ex sheet (p ++ col ∷ []) ≡ Some later
      → IsSomeAnd (rest_of ex sheet p) (λ rest. rest ≤ newly_paid ex sheet p col + later)
  rest_by None is h later e = absurd h
  rest_by (Some own) is h later e =
      let before : IsPrefix ex p = prefix_before ex p col prefix in
      let chain = longer_chain later own ((rest_is_least ex sheet (p ++ col ∷ []) prefix.few).reached later e) is in
      no_more (rest_of ex sheet p) (own + later) (newly_paid ex sheet p col + later) (omega (arith, h))
      ((rest_is_least ex sheet p before.few).lowest (own + later) chain)
    where
      no_more : (o : Option ℕ) (x y : ℕ) → x ≤ y → IsSomeAnd o (λ r. r ≤ x) → IsSomeAnd o (λ r. r ≤ y)
      no_more None x y l k = k
      no_more (Some r) x y l k = let m : r ≤ y = omega (arith, l, k) in m

  -- the rest of the prefix is at most what the column settles and the rest behind that
  pub rest_grows : (later : ℕ) → rest_of ex sheet (p ++ col ∷ []) ≡ Some later
      → IsSomeAnd (rest_of ex sheet p) (λ rest. rest ≤ newly_paid ex sheet p col + later)
  rest_grows = rest_by (link_of ex sheet (length p) (last_column p) col) refl link

some_of : (P : ℕ → Type 0) (o : Option ℕ) → IsSomeAnd o P → IsSome o
some_of P None h = absurd h
some_of P (Some x) h = refl

module _ (ex : Exercise) (few : ex.voices ≤ 4) (there : ex.cantus_voice < ex.voices) (sheet : Sheet)
    (p : List (List Cell)) (col : List Cell) (live : IsLive ex sheet (p ++ col ∷ [])) where
  -- the shorter prefix is live
  pub live_before : IsLive ex sheet p
  live_before = record {
    prefix = prefix_before ex p col live.prefix;
    unbroken = (tests ex few there sheet p col live.prefix live.unbroken).0;
    goes_on = by (rest_of ex sheet (p ++ col ∷ [])) refl live.goes_on;
  }
    where
      by : (o : Option ℕ) → rest_of ex sheet (p ++ col ∷ []) ≡ o → IsSome o → IsSome (rest_of ex sheet p)
      by None e h = cc
      by (Some later) e h =
          some_of _ (rest_of ex sheet p) (rest_grows ex few there sheet p col live.prefix live.unbroken later e)

  -- and its floor is no higher, where what the gauges come to at least doesn't fall
  pub floor_grows : least_of ex sheet p ≤ least_of ex sheet (p ++ col ∷ []) → (floor : ℕ)
      → floor_of ex sheet (p ++ col ∷ []) ≡ Some floor
      → IsSomeAnd (floor_of ex sheet p) (λ low. low ≤ floor)
  unfolding floor_of
  floor_grows least floor is = by (rest_of ex sheet (p ++ col ∷ [])) refl is
    where
      value_of : Option ℕ → ℕ
      value_of None = 0
      value_of (Some n) = n

      low : (o : Option ℕ) (later : ℕ) → paid ex sheet (p ++ col ∷ []) + least_of ex sheet (p ++ col ∷ []) + later
          ≡ floor
          → IsSomeAnd o (λ rest. rest ≤ newly_paid ex sheet p col + later)
          → IsSomeAnd (option_map (λ rest. paid ex sheet p + least_of ex sheet p + rest) o) (λ low. low ≤ floor)
      low None later e h = h
      low (Some rest) later e h =
          let k : paid ex sheet p + least_of ex sheet p + rest ≤ floor = omega
          (arith, e, h, least, paid_grows ex p col sheet) in k

      by : (o : Option ℕ) → rest_of ex sheet (p ++ col ∷ []) ≡ o
          → option_map (λ rest. paid ex sheet (p ++ col ∷ []) + least_of ex sheet (p ++ col ∷ []) + rest) o ≡ Some floor
          → IsSomeAnd (option_map (λ rest. paid ex sheet p + least_of ex sheet p + rest) (rest_of ex sheet p))
          (λ low. low ≤ floor)
      by None e h = cc
      by (Some later) e h = low (rest_of ex sheet p) later (ap value_of h)
          (rest_grows ex few there sheet p col live.prefix live.unbroken later e)
