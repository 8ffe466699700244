-- What begins a lawful setting: no strict break is settled in it (`begun_unbroken`), and where it
-- isn't whole, the setting goes on by one of the columns that may come next (`begun_longer`).
use Rattle.std.proofs.Common.{◌≡◌, ◌⊎◌, inl, inr, ℕ, zero, suc, ◌+◌, ◌<◌, ◌≤◌, ◌==◌, Bool, true, false, ◌||◌, List, [], ◌∷◌, ◌++◌, length, map, reverse, slice_index_or, take, refl, ap, sym, ◌∙◌, subst, arith, true≢false}
use Rattle.std.specs.List.{Contains, filter, list_any}
use Rattle.std.proofs.Math.ListN.{get_or-append}
use Rattle.std.proofs.Math.Seq.{get_or-append_seam}
use Rattle.std.proofs.lemmas.Bool.{and_parts, cases_Bool, cases_lt, eqb-true, or_parts}
use Rattle.std.proofs.lemmas.List.{length-append, reverse-append, take-append-le}
use Rattle.cert_tree.specs.Trees.{IsBegunByOne}
use Rattle.cert_law.specs.Certificates.{Begins}
use Rattle.cert_law.specs.Claims.{has_break_of, longer_prefixes}
use Rattle.chain_sums.specs.Sums.{column_follows}
use Rattle.chain_sums.proofs.SumLemmas.{column_follows_is}
use Rattle.fux_grid.specs.declared.cell.Cell.{Cell}
use Rattle.fux_grid.specs.declared.exercise.Exercise.{Exercise}
use Rattle.fux_grid.specs.Columns.{ColumnFollows, HistoryFollows, newest_column}
use Rattle.fux_grid.specs.Exercises.{columns_in}
use Rattle.fux_grid.specs.Menus.{IsInMenu, menu_of}
use Rattle.fux_grid.proofs.Histories.{reverse-push}
use Rattle.fux_grid.proofs.MenuLemmas.{menu_of-contains}
use Rattle.fux_judge.proofs.Alive.{alive_if_unbroken}
use Rattle.fux_judge.proofs.Ends.{from_none_below, none_below}
use Rattle.fux_judge.specs.Lawful.{IsLawful}
use Rattle.fux_judge.specs.Penalties.{breaks_by_column, has_strict_break, newly_broken}
use Rattle.fux_judge.specs.Rules.{is_read, rules_read}
use Rattle.rule_law.specs.Prefixes.{IsPrefix, IsSetting}

-- a prefix of a list without strict breaks has none
pub prefix_unbroken : (ex : Exercise) (p rest : List (List Cell)) → has_strict_break ex (p ++ rest) ≡ false
    → has_strict_break ex p ≡ false
prefix_unbroken ex p rest alive =
    from_none_below (breaks_by_column ex p) (length p)
    (λ k h. sym (same k h) ∙ none_below (breaks_by_column ex (p ++ rest)) (length (p ++ rest)) alive k
    (omega (arith, h, length-append p rest)))
  where
    same : (k : ℕ) → k < length p → breaks_by_column ex (p ++ rest) k ≡ breaks_by_column ex p k
    same k h =
        let fits : k ≤ length p = omega arith in
        ap (λ q. list_any (newly_broken ex q (slice_index_or (p ++ rest) k [])) rules_read)
        (take-append-le k p rest fits)
        ∙ ap (λ c. list_any (newly_broken ex (take k p) c) rules_read) (get_or-append p rest [] k h)

-- where no rule passes, one that is among them doesn't
none_read : (f : ℕ → Bool) (rule : ℕ) (rules : List ℕ) → list_any f rules ≡ false
    → list_any (λ read. rule == read) rules ≡ true → f rule ≡ false
none_read f rule [] h there = absurd (true≢false (sym there))
none_read f rule (x ∷ xs) h there = at (rule == x) refl there (none_read f rule xs (or_parts (f x) (list_any f xs) h).1)
  where
    at : (b : Bool) → (rule == x) ≡ b → (b || list_any (λ read. rule == read) xs) ≡ true
        → (list_any (λ read. rule == read) xs ≡ true → f rule ≡ false) → f rule ≡ false
    at true e m later = ap f (eqb-true rule x e) ∙ (or_parts (f x) (list_any f xs) h).0
    at false e m later = later m

-- where no strict break is settled in a prefix, none of any rule is
pub unbroken-each : (ex : Exercise) (p : List (List Cell)) (rule : ℕ) → has_strict_break ex p ≡ false
    → has_break_of ex p rule ≡ true → ⊥
unbroken-each ex p rule alive broken =
    let parts = and_parts (is_read rule) _ broken in
    true≢false (sym parts.1 ∙ from_none_below (λ k. newly_broken ex (take k p) (slice_index_or p k []) rule) (length p)
    (λ k h. none_read (newly_broken ex (take k p) (slice_index_or p k [])) rule rules_read
    (none_below (breaks_by_column ex p) (length p) alive k h) parts.0))

pub begun_unbroken : (ex : Exercise) (few : ex.voices ≤ 4) (p rest : List (List Cell)) → IsLawful ex (p ++ rest)
    → has_strict_break ex p ≡ false
begun_unbroken ex few p rest lawful =
    prefix_unbroken ex p rest (alive_if_unbroken ex few (p ++ rest) lawful.setting lawful.unbroken)

-- ---- how it goes on

later_follow : (new old : List (List Cell)) → HistoryFollows (new ++ old) → HistoryFollows old
later_follow [] old h = h
later_follow (col ∷ new) old h = later_follow new old h.1

reverse-middle : (p : List (List Cell)) (col : List Cell) (rest : List (List Cell)) → reverse (p ++ col ∷ rest)
    ≡ reverse rest ++ col ∷ reverse p
reverse-middle p col rest =
    reverse-append p (col ∷ rest) ∙ ap (λ r. r ++ reverse p) (reverse-append (col ∷ []) rest)
    ∙ moved (reverse rest) (reverse p)
  where
    moved : (xs ys : List (List Cell)) → (xs ++ col ∷ []) ++ ys ≡ xs ++ col ∷ ys
    moved [] ys = refl
    moved (x ∷ xs) ys = ap (λ zs. x ∷ zs) (moved xs ys)

pub append-middle : (p : List (List Cell)) (col : List Cell) (rest : List (List Cell)) → (p ++ col ∷ []) ++ rest ≡ p
    ++ col ∷ rest
append-middle [] col rest = refl
append-middle (c ∷ p) col rest = ap (λ q. c ∷ q) (append-middle p col rest)

-- one of the columns that pass begins it
among_passing : (p : List (List Cell)) (test : List Cell → Bool) (cols : List (List Cell)) (col : List Cell)
    (rest : List (List Cell)) → Contains cols col → test col ≡ true
    → IsBegunByOne Begins (map (λ c. p ++ c ∷ []) (filter test cols)) (p ++ col ∷ rest)
among_passing p test [] col rest (k, h, e) passes = absurd (omega (arith, h))
among_passing p test (c ∷ cols) col rest (zero, h, e) passes =
    rw (ap test e ∙ passes) (inl record {
      rest = rest;
      is = ap (λ d. p ++ d ∷ rest) (sym e)
          ∙ sym (append-middle p c rest);
    })
among_passing p test (c ∷ cols) col rest (suc k, h, e) passes =
    at (cases_Bool (test c)) (among_passing p test cols col rest (k, omega (arith, h), e) passes)
  where
    at : (test c ≡ true) ⊎ (test c ≡ false) → IsBegunByOne Begins (map (λ d. p ++ d ∷ []) (filter test cols)) (p ++ col ∷ rest)
        → IsBegunByOne Begins (map (λ d. p ++ d ∷ []) (filter test (c ∷ cols))) (p ++ col ∷ rest)
    at (inl t) later = rw t (inr later)
    at (inr f) later = rw f later

pub begun_longer : (ex : Exercise) (p rest : List (List Cell)) → length p < columns_in ex → IsSetting ex (p ++ rest)
    → IsBegunByOne Begins (longer_prefixes ex p) (p ++ rest)
begun_longer ex p [] shorter setting =
    let size : length (p ++ []) ≡ length p + 0 = length-append p [] in
    absurd (omega (arith, shorter, size, setting.whole))
begun_longer ex p (col ∷ rest) shorter setting =
    let size : length (p ++ col ∷ rest) ≡ length p + suc (length rest) = length-append p (col ∷ rest) in
    let at_seam : slice_index_or (p ++ col ∷ rest) (length p) [] ≡ col = get_or-append_seam p col rest [] in
    let chosen : IsInMenu ex (length p) col = subst (λ (c : List Cell). IsInMenu ex (length p) c) at_seam
    (setting.prefix.menus (length p) (omega (arith, size))) in
    let history : HistoryFollows (reverse rest ++ col ∷ reverse p) = subst (λ (h : List (List Cell)). HistoryFollows h)
    (reverse-middle p col rest) setting.prefix.follows in
    let follows : ColumnFollows (newest_column (reverse p))
    col = (later_follow (reverse rest) (col ∷ reverse p) history).0 in
    among_passing p (column_follows (newest_column (reverse p))) (menu_of ex (length p)) col rest
    ((menu_of-contains ex (length p) col).1 chosen) ((column_follows_is (newest_column (reverse p)) col).1 follows)

-- ---- how it gets longer

-- a prefix stays one with a column more that is in the menu and follows
pub prefix-push : (ex : Exercise) (p : List (List Cell)) (col : List Cell) → IsPrefix ex p → length p < columns_in ex
    → IsInMenu ex (length p) col
    → ColumnFollows (newest_column (reverse p)) col → IsPrefix ex (p ++ col ∷ [])
prefix-push ex p col prefix shorter chosen follows =
    let size : length (p ++ col ∷ []) ≡ length p + 1 = length-append p (col ∷ []) in
    record {
      few = omega (arith, size, shorter);
      menus = λ i h. at i (cases_lt i (length p)) (omega (arith, size, h));
      follows = subst (λ (h : List (List Cell)). HistoryFollows h) (sym (reverse-push p col)) (follows, prefix.follows);
    }
  where
    at : (i : ℕ) → (i < length p) ⊎ (length p ≤ i) → i < length p + 1
        → IsInMenu ex i (slice_index_or (p ++ col ∷ []) i [])
    at i (inl h) within =
        subst (λ (c : List Cell). IsInMenu ex i c) (sym (get_or-append p (col ∷ []) [] i h)) (prefix.menus i h)
    at i (inr h) within =
        let last : length p ≡ i = omega arith in
        subst (λ (k : ℕ). IsInMenu ex k (slice_index_or (p ++ col ∷ []) k [])) last
        (subst (λ (c : List Cell). IsInMenu ex (length p) c) (sym (get_or-append_seam p col [] [])) chosen)
