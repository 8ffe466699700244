-- What tails are: of a prefix that is longer by a column of its place's menu, the entry of the
-- column's number (`stated-push`), and the least sum where entries state just that
-- (`tail_is_rest`).
use Rattle.std.proofs.Common.{◌≡◌, ℕ, suc, ◌+◌, ◌-◌, ◌<◌, ◌≤◌, ◌⊎◌, inl, inr, Bool, true, List, [], ◌∷◌, ◌++◌, Option, Some, None, length, reverse, get_or, refl, sym, ap, ◌∙◌, subst, arith, true≢false}
use Rattle.std.specs.Prelude.{IfSome, option_map}
use Rattle.std.specs.List.{Contains}
use Rattle.std.specs.Ordering.{is_eq}
use Rattle.std.specs.declared.cmp.Ordering.{Ordering}
use Rattle.std.specs.declared.cmp.Ordering.TheVariants.{Less, Equal, Greater}
use Rattle.std.proofs.lemmas.Bool.{cases_lt}
use Rattle.std.proofs.lemmas.List.{length-append, reverse-append, reverse-reverse}
use Rattle.std.proofs.lemmas.List.Sums.{fails_before_first, passes_at_first, position_or_len_is}
use Rattle.cert_text.specs.declared.potential.Potential.{Potential}
use Rattle.cert_law.specs.Entries.{entry_at, entry_of, menu_column, number_in}
use Rattle.cert_law.specs.Rests.{AreRests}
use Rattle.cert_law.specs.Tails.{entry_behind, entry_for, number_of, tail_of, used_floor}
use Rattle.floor_tables.specs.Floors.{floor_of, rest_of}
use Rattle.floor_tables.proofs.RestLemmas.{last_column-push, rest_is, start_is}
use Rattle.fux_grid.specs.declared.cell.Cell.{Cell}
use Rattle.fux_grid.specs.declared.exercise.Exercise.{Exercise}
use Rattle.fux_grid.specs.Exercises.{columns_in}
use Rattle.fux_grid.specs.Menus.{IsInMenu, menu_of}
use Rattle.fux_grid.specs.Order.{column_order}
use Rattle.fux_grid.proofs.MenuLemmas.{menu_of-ascends, menu_of-contains}
use Rattle.fux_grid.proofs.OrderLemmas.{column_order-equal, column_order-itself}
use Rattle.fux_judge.specs.Gauges.{least_of}
use Rattle.fux_judge.specs.Links.{last_column}
use Rattle.fux_judge.specs.Penalties.{paid}
use Rattle.penalty_sheet.specs.declared.sheet.Sheet.{Sheet}
use Rattle.rule_law.specs.Prefixes.{IsPrefix}
use Rattle.std.proofs.Math.Seq.{get_or-append_seam}

-- ---- the last column

-- a list has a last column, or none at all
pub record HasLast (p : List (List Cell)) : Type 0 where
  pub shorter : List (List Cell)
  pub last : List Cell
  pub is : p ≡ shorter ++ last ∷ []

pub last_or_none : (p : List (List Cell)) → (p ≡ []) ⊎ HasLast p
last_or_none p = at (reverse p) refl
  where
    at : (h : List (List Cell)) → reverse p ≡ h → (p ≡ []) ⊎ HasLast p
    at [] e = inl (sym (reverse-reverse p) ∙ ap reverse e)
    at (col ∷ h) e = inr record {
      shorter = reverse h;
      last = col;
      is = sym (reverse-reverse p) ∙ ap reverse e ∙ reverse-append (col ∷ []) h;
    }

-- ---- numbers of columns

equal_from_test : (o : Ordering) → is_eq o ≡ true → o ≡ Equal
equal_from_test Less h = cc
equal_from_test Equal h = refl
equal_from_test Greater h = cc

-- a column of a menu has a number there
pub number_found : (menu : List (List Cell)) (col : List Cell) → Contains menu col
    → (number_of menu col < length menu) × (get_or menu (number_of menu col) [] ≡ col)
number_found menu col (k, within, is) = at (cases_lt k (number_of menu col))
  where
    test : List Cell → Bool
    test c = is_eq (column_order c col)

    passes : test (get_or menu k col) ≡ true
    passes = ap test is ∙ ap is_eq (column_order-itself col)

    here : number_of menu col < length menu
        → (number_of menu col < length menu) × (get_or menu (number_of menu col) [] ≡ col)
    here short = (
      short,
      column_order-equal (get_or menu (number_of menu col) []) col
          (equal_from_test (column_order (get_or menu (number_of menu col) []) col) (passes_at_first test menu [] short)),
    )

    at : (k < number_of menu col) ⊎ (number_of menu col ≤ k)
        → (number_of menu col < length menu) × (get_or menu (number_of menu col) [] ≡ col)
    at (inl before) = absurd (true≢false (sym passes ∙ fails_before_first test menu k col before))
    at (inr behind) = here (omega (arith, behind, within))

-- and no other
pub number_is : (ex : Exercise) (i k : ℕ) → k < length (menu_of ex i)
    → number_of (menu_of ex i) (menu_column ex i k) ≡ k
number_is ex i k within =
    position_or_len_is (λ c. is_eq (column_order c (menu_column ex i k))) (menu_of ex i) k [] (omega arith)
    (λ j before. ap is_eq (menu_of-ascends ex i j k [] before within))
    (λ short. ap is_eq (column_order-itself (menu_column ex i k)))

-- ---- what is stated

-- of a prefix that is longer by a column
entry-push : (ex : Exercise) (entries : List Potential) (p : List (List Cell)) (col : List Cell)
    → entry_for ex entries (p ++ col ∷ []) ≡ entry_of ex entries (length p) (number_of (menu_of ex (length p)) col)
entry-push ex entries p col =
    let size : length (p ++ col ∷ []) ≡ suc (length p) = omega (arith, length-append p (col ∷ [])) in
    let back : suc (length p) - 1 ≡ length p = omega arith in
    ap (λ n. entry_behind ex entries n (last_column (p ++ col ∷ []))) size
    ∙ ap (entry_behind ex entries (suc (length p))) (last_column-push p col)
    ∙ ap (λ n. entry_of ex entries n (number_of (menu_of ex n) col)) back

pub stated-push : (ex : Exercise) (sheet : Sheet) (entries : List Potential) (p : List (List Cell)) (i k : ℕ)
    → length p ≡ i → k < length (menu_of ex i)
    → tail_of ex sheet (Some entries) (p ++ menu_column ex i k ∷ []) ≡ number_in (entry_of ex entries i k)
stated-push ex sheet entries p i k size within =
    ap number_in (entry-push ex entries p (menu_column ex i k)
    ∙ ap (λ n. entry_of ex entries n (number_of (menu_of ex n) (menu_column ex i k))) size
    ∙ ap (entry_of ex entries i) (number_is ex i k within))

-- ---- a column of a prefix

-- the last column of a prefix is in the menu of its place
pub last_in_menu : (ex : Exercise) (p : List (List Cell)) (col : List Cell) → IsPrefix ex (p ++ col ∷ [])
    → Contains (menu_of ex (length p)) col
last_in_menu ex p col prefix =
    let size : length (p ++ col ∷ []) ≡ length p + 1 = length-append p (col ∷ []) in
    (menu_of-contains ex (length p) col).1
    (subst (λ (c : List Cell). IsInMenu ex (length p) c) (get_or-append_seam p col [] [])
    (prefix.menus (length p) (omega (arith, size))))

pub last_place : (ex : Exercise) (p : List (List Cell)) (col : List Cell) → IsPrefix ex (p ++ col ∷ [])
    → length p + 1 ≤ columns_in ex
last_place ex p col prefix = omega (arith, prefix.few, length-append p (col ∷ []))

-- ---- entries that state the least sums

pub tail_is_rest : (ex : Exercise) (sheet : Sheet) (stated : Option (List Potential)) → IfSome stated (AreRests ex sheet)
    → (p : List (List Cell)) → IsPrefix ex p → tail_of ex sheet stated p ≡ rest_of ex sheet p
tail_is_rest ex sheet None are p prefix = refl
tail_is_rest ex sheet (Some entries) are p prefix = at (last_or_none p)
  where
    longer : (q : List (List Cell)) (col : List Cell) → IsPrefix ex (q ++ col ∷ [])
        → tail_of ex sheet (Some entries) (q ++ col ∷ []) ≡ rest_of ex sheet (q ++ col ∷ [])
    longer q col whole =
        let found = number_found (menu_of ex (length q)) col (last_in_menu ex q col whole) in
        let k = number_of (menu_of ex (length q)) col in
        let room : length q < columns_in ex = omega (arith, last_place ex q col whole) in
        subst (λ (c : List Cell). tail_of ex sheet (Some entries) (q ++ c ∷ []) ≡ rest_of ex sheet (q ++ c ∷ [])) found.1
        (stated-push ex sheet entries q (length q) k refl found.0
        ∙ rest_is ex sheet q (menu_column ex (length q) k) (number_in (entry_of ex entries (length q) k))
        (last_place ex q col whole) (are.each (length q) k room found.0))

    at : (p ≡ []) ⊎ HasLast p → tail_of ex sheet (Some entries) p ≡ rest_of ex sheet p
    at (inl none) =
        subst (λ (q : List (List Cell)). tail_of ex sheet (Some entries) q ≡ rest_of ex sheet q) (sym none)
        (start_is ex sheet (number_in (entry_at entries 0)) are.start)
    at (inr has) =
        subst (λ (q : List (List Cell)). tail_of ex sheet (Some entries) q ≡ rest_of ex sheet q) (sym has.is)
        (longer has.shorter has.last (subst (λ (q : List (List Cell)). IsPrefix ex q) has.is prefix))

-- ---- floors by tails

pub used-floor : (ex : Exercise) (sheet : Sheet) (stated : Option (List Potential)) (p : List (List Cell))
    → tail_of ex sheet stated p ≡ rest_of ex sheet p → used_floor ex sheet stated p ≡ floor_of ex sheet p
unfolding used_floor floor_of
used-floor ex sheet stated p e = ap (option_map (λ tail. paid ex sheet p + least_of ex sheet p + tail)) e
