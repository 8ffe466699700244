-- Tables grow by a row at a time (`rows_more`), over menus that keep their numbers. A menu may be one that is kept (`number_of_other`), and a row may be the one before over again
-- (`row_of_other`), which may be known before it is computed (`same_row`).
use Rattle.std.proofs.Common.{◌≡◌, ◌⊎◌, inl, inr, ℕ, ◌+◌, ◌-◌, ◌*◌, ◌^◌, ◌<◌, ◌≤◌, List, [], ◌∷◌, ◌++◌, length, get_or, suc, Option, Some, None, refl, ap, sym, ◌∙◌, subst, arith}
use Rattle.std.proofs.lemmas.List.{get_or_append_left, get_or_default, get_or_push, length_push}
use Rattle.std.specs.Borrow.{Bor}
use Rattle.std.specs.List.{All, Contains}
use Rattle.std.specs.Prelude.{IsSomeAnd, MatchOption, ◌==◌}
use Rattle.std.specs.Option.{option_eq}
use Rattle.std.proofs.Common.{Decides}
use Rattle.std.proofs.lemmas.Bool.Decides.{Decides-eqb}
use Rattle.fux_grid.specs.declared.cell.Cell.{Cell}
use Rattle.chain_sums.specs.declared.menu.Menu.{Menu}
use Rattle.chain_sums.specs.declared.tables.Row.{Row}
use Rattle.chain_sums.specs.declared.tables.Tables.{Tables}
use Rattle.chain_sums.specs.Chains.{AreFull, Chains, IsLeast}
use Rattle.chain_sums.specs.Menus.{HaveSameColumns, IsMenuOf, IsPacked, columns_of}
use Rattle.chain_sums.specs.Rows.{AllAtMost, IsAtMost, IsRow}
use Rattle.chain_sums.specs.Still.{GoesOnFreely}
use Rattle.chain_sums.specs.Tables.{AreRows, AreSameRows, HaveRowAt, AreTablesOf, IsNumberFor, IsNumbered, IsRowAt, IsRowNumberOf}
use Rattle.chain_sums.proofs.LeastLemmas.{below_or_at, length-columns, same_value}
use Rattle.chain_sums.proofs.StillLemmas.{row_goes_on}

-- a menu may be kept under the number of another that has the same columns
pub number_of_other : (menus : List Menu) (menu : Menu) (number : ℕ) → number < length menus
    → HaveSameColumns (get_or menus number menu) menu → IsNumberFor menus menus menu number
number_of_other menus menu number h same voices are is = record {
  keep = record { longer = omega arith; same = λ k d l. refl };
  packed = are;
  within = h;
  columns = λ d. ap columns_of (get_or_default menus number d menu h) ∙ same voices (are number menu h) is;
}

-- and behind the others
pub number_of_last : (menus : List Menu) (menu : Menu) (number : ℕ) → number ≡ length menus
    → IsNumberFor menus (menus ++ menu ∷ []) menu number
number_of_last menus menu number e voices are is = record {
  keep = record {
    longer = omega (arith, length_push menus menu);
    same = λ k d h. get_or_append_left menus (menu ∷ []) d k h;
  };
  packed = λ k d h. packed k d (below_or_at k (length menus) (omega (arith, length_push menus menu)));
  within = omega (arith, length_push menus menu);
  columns = λ d. ap columns_of (get_or_push menus menu d number (sym e));
}
  where
    packed : (k : ℕ) (d : Menu) → (k < length menus) ⊎ (k ≡ length menus)
        → IsPacked voices (get_or (menus ++ menu ∷ []) k d)
    packed k d (inl h) = subst (IsPacked voices) (sym (get_or_append_left menus (menu ∷ []) d k h)) (are k d h)
    packed k d (inr f) = subst (IsPacked voices) (sym (get_or_push menus menu d k (sym f))) is

-- a row that is the same as that of a place is one of the place
row_same : (c : Chains) (i : ℕ) (menus : List Menu) (row other : Row) → AreSameRows other row → IsRowAt c i menus row
    → IsRowAt c i menus other
row_same c i menus row other same at = record {
  named = omega (arith, at.named, same.0);
  menu = λ d. subst (λ (n : ℕ). IsMenuOf (c.menu i) (get_or menus n d)) (sym same.0) (at.menu d);
  sums = subst (λ (xs : List (Option ℕ)). IsRow c i xs) (sym same.1) at.sums;
  small = subst (λ (xs : List (Option ℕ)). AllAtMost ((c.places - 1 - i) * 2 ^ 53) xs) (sym same.1) at.small;
}

pub sums-Decides : (a b : Option ℕ) → Decides (option_eq (λ (n m : ℕ). n == m) a b) (a ≡ b)
sums-Decides None None = (λ h. refl, λ e. refl)
sums-Decides None (Some y) = (λ h. cc, λ e. cc)
sums-Decides (Some x) None = (λ h. cc, λ e. cc)
sums-Decides (Some x) (Some y) = let test = Decides-eqb x y in (λ h. ap Some (test.0 h), λ e. test.1 (same_value x y e))

-- a row may be the last one over again
pub row_of_other : (rows : List Row) (row : Row) (number : ℕ) → number < length rows
    → AreSameRows (get_or rows number row) row → HaveRowAt rows rows row number
row_of_other rows row number h same = record {
  keep = record { longer = omega arith; same = λ k d l. refl };
  within = h;
  same = λ d. subst (λ (r : Row). AreSameRows r row) (get_or_default rows number row d h) same;
}

-- and it may be put behind the others
pub row_of_last : (rows : List Row) (row : Row) (number : ℕ) → number ≡ length rows
    → HaveRowAt rows (rows ++ row ∷ []) row number
row_of_last rows row number e = record {
  keep =
      record { longer = omega (arith, length_push rows row); same = λ k d h. get_or_append_left rows (row ∷ []) d k h };
  within = omega (arith, length_push rows row);
  same = λ d. subst (λ (r : Row). AreSameRows r row) (sym (get_or_push rows row d number (sym e))) (refl, refl);
}

module _ (c : Chains) (i number : ℕ) (menus : List Menu) (rows others : List Row) (row : Row) (places : List ℕ)
    (have : HaveRowAt rows others row number) (are : AreRows c menus rows places)
    (place : i + 1 + length places ≡ c.places) (here : IsRowAt c i menus row) where
  named : (j d : ℕ) → (j < length places) ⊎ (j ≡ length places) → get_or (places ++ number ∷ []) j d < length others
  named j d (inl h) = omega (arith, get_or_append_left places (number ∷ []) d j h, are.named j d h, have.keep.longer)
  named j d (inr e) = omega (arith, get_or_push places number d j (sym e), have.within)

  at : (j : ℕ) (d : Row) → (j < length places) ⊎ (j ≡ length places)
      → IsRowAt c (c.places - 1 - j) menus (get_or others (get_or (places ++ number ∷ []) j 0) d)
  at j d (inl h) =
      let old : ℕ = get_or places j 0 in
      let same : get_or others old d ≡ get_or rows old d = have.keep.same old d (are.named j 0 h) in
      subst (λ (n : ℕ). IsRowAt c (c.places - 1 - j) menus (get_or others n d))
      (sym (get_or_append_left places (number ∷ []) 0 j h))
      (subst (λ (r : Row). IsRowAt c (c.places - 1 - j) menus r) (sym same) (are.at j d h))
  at j d (inr e) =
      let last : i ≡ c.places - 1 - j = omega arith in
      subst (λ (n : ℕ). IsRowAt c (c.places - 1 - j) menus (get_or others n d))
      (sym (get_or_push places number 0 j (sym e)))
      (subst (λ (k : ℕ). IsRowAt c k menus (get_or others number d)) last
      (row_same c i menus row (get_or others number d) (have.same d) here))

  pub rows_more : AreRows c menus others (places ++ number ∷ [])
  rows_more = record {
    few = omega (arith, length_push places number);
    packed = are.packed;
    named = λ j d h. named j d (below_or_at j (length places) (omega (arith, length_push places number)));
    at = λ j d h. at j d (below_or_at j (length places) (omega (arith, length_push places number)));
  }

-- the row under a place's number
module _ (c : Chains) (menus : List Menu) (rows : List Row) (places : List ℕ) (j n : ℕ)
    (are : AreRows c menus rows places) (h : j < length places)
    (is : n ≡ get_or places j n) where
  number_within : n < length rows
  number_within = subst (λ (m : ℕ). m < length rows) (sym is) (are.named j n h)

  row_at : (row : Row) → row ≡ get_or rows n row → IsRowAt c (c.places - 1 - j) menus row
  row_at row same =
      let e : n ≡ get_or places j 0 = is ∙ get_or_default places j n 0 h in
      subst (λ (r : Row). IsRowAt c (c.places - 1 - j) menus r) (sym (same ∙ ap (λ m. get_or rows m row) e))
      (are.at j row h)

  pub row_found : (found : Option (Bor Row)) → IsNumbered rows n found
      → IsSomeAnd found (λ row. IsRowAt c (c.places - 1 - j) menus row.now)
  row_found None is_found = absurd (is_found number_within)
  row_found (Some row) is_found = row_at row.now (is_found number_within)

pub latest_found : (c : Chains) (menus : List Menu) (rows : List Row) (places : List ℕ) (last n : ℕ)
    (found : Option (Bor Row)) → AreRows c menus rows places
    → last ≡ length places → 0 < length places → n ≡ get_or places (last - 1) n → IsNumbered rows n found
    → MatchOption found (length places ≡ 0)
    (λ row. (0 < length places) × IsRowAt c (c.places - length places) menus row.now)
latest_found c menus rows places last n found are e some is is_found =
    by found (row_found c menus rows places (last - 1) n are (omega (arith, e, some)) is found is_found)
  where
    here : c.places - 1 - (last - 1) ≡ c.places - length places
    here = omega (arith, e, some, are.few)

    by : (o : Option (Bor Row)) → IsSomeAnd o (λ row. IsRowAt c (c.places - 1 - (last - 1)) menus row.now)
        → MatchOption o (length places ≡ 0)
        (λ row. (0 < length places) × IsRowAt c (c.places - length places) menus row.now)
    by None none = absurd none
    by (Some row) own = (some, subst (λ (i : ℕ). IsRowAt c i menus row.now) here own)

pub place_found : (c : Chains) (t : Tables) (i last n : ℕ) (found : Option (Bor Row)) → AreTablesOf c t → i < c.places
    → last ≡ length t.places.items
    → n ≡ get_or t.places.items (last - 1 - i) n → IsNumbered t.rows.items n found
    → IsSomeAnd found (λ row. IsRowAt c i t.menus.items row.now)
place_found c t i last n found are h e is is_found =
    let here : c.places - 1 - (last - 1 - i) ≡ i = omega (arith, are.whole, e) in
    subst (λ (k : ℕ). IsSomeAnd found (λ row. IsRowAt c k t.menus.items row.now)) here
    (row_found c t.menus.items t.rows.items t.places.items (last - 1 - i) n are.rows (omega (arith, are.whole, e)) is
    found is_found)

-- the sums of the latest row, behind which one place more comes
pub latest_small : (c : Chains) (menus : List Menu) (places : List ℕ) (row : Row) → length places ≤ c.places
    → 0 < length places
    → IsRowAt c (c.places - length places) menus row → AllAtMost ((length places - 1) * 2 ^ 53) row.sums.items
latest_small c menus places row few some at =
    let e : c.places - 1 - (c.places - length places) ≡ length places - 1 = omega (arith, few, some) in
    subst (λ (n : ℕ). AllAtMost (n * 2 ^ 53) row.sums.items) e at.small

-- what a look into the tables finds: the row of the place, and its menu, which has the column
pub record IsAsked (c : Chains) (i : ℕ) (row : Row) (menu : Menu) (col : List Cell) : Type 0 where
  pub packed : IsPacked c.voices menu
  pub are : IsMenuOf (c.menu i) menu
  pub there : Contains (columns_of menu) col
  pub sums : IsRow c i row.sums.items

pub is_asked : (c : Chains) (menus : List Menu) (i : ℕ) (row : Row) (menu : Menu) (col : List Cell)
    → All (IsPacked c.voices) menus → IsRowAt c i menus row
    → menu ≡ get_or menus row.menu menu → Contains (c.menu i) col → IsAsked c i row menu col
is_asked c menus i row menu col packed here is_menu there = record {
  packed = subst (λ (m : Menu). IsPacked c.voices m) (sym is_menu) (packed row.menu menu here.named);
  are = same;
  there = subst (λ (columns : List (List Cell)). Contains columns col) (sym same) there;
  sums = here.sums;
}
  where
    same : columns_of menu ≡ c.menu i
    same = subst (λ (m : Menu). IsMenuOf (c.menu i) m) (sym is_menu) (here.menu menu)

-- two rows beside one menu are of places with the same one
pub menus_same : (c : Chains) (i j : ℕ) (menus : List Menu) (row other : Row) → IsRowAt c i menus row
    → IsRowAt c j menus other → row.menu ≡ other.menu → c.menu i ≡ c.menu j
menus_same c i j [] row other here there same = absurd (omega (arith, here.named))
menus_same c i j (some ∷ menus) row other here there same =
    sym (here.menu some) ∙ ap (λ n. columns_of (get_or (some ∷ menus) n some)) same ∙ there.menu some

-- the least sum of the place's column
pub least_at : (c : Chains) (i k : ℕ) (row : Row) (menu : Menu) (col : List Cell) → IsAsked c i row menu col
    → k < length menu.columns.items
    → get_or (columns_of menu) k [] ≡ col → IsLeast c (suc i) (Some col) (get_or row.sums.items k None)
least_at c i k row menu col asked h e =
    subst (λ (d : List Cell). IsLeast c (suc i) (Some d) (get_or row.sums.items k None))
    (ap (λ xs. get_or xs k []) (sym asked.are) ∙ e)
    (asked.sums.least k (omega (arith, length-columns menu.columns.items (c.menu i) asked.are)))

pub sums_beside : (c : Chains) (i : ℕ) (row : Row) (menu : Menu) (col : List Cell) → IsAsked c i row menu col
    → length row.sums.items ≡ length menu.columns.items
sums_beside c i row menu col asked = asked.sums.beside ∙ sym (length-columns menu.columns.items (c.menu i) asked.are)

pub at_most_more : (most more : ℕ) (sum : Option ℕ) → most ≤ more → IsAtMost most sum → IsAtMost more sum
at_most_more most more None h is = tt
at_most_more most more (Some x) h is = omega (arith, h, is)

-- each sum of a row of the tables is small
pub small_in : (c : Chains) (menus : List Menu) (i k : ℕ) (row : Row) → IsRowAt c i menus row
    → k < length row.sums.items
    → IsAtMost (c.places * 2 ^ 53) (get_or row.sums.items k None)
small_in c menus i k row here h =
    at_most_more ((c.places - 1 - i) * 2 ^ 53) (c.places * 2 ^ 53) (get_or row.sums.items k None) (omega arith)
    (here.small k h)

-- ---- the row of the next place over again

-- it is kept under the last number
pub next_row : (c : Chains) (i : ℕ) (menus : List Menu) (rows : List Row) (places : List ℕ) (last number : ℕ)
    → AreRows c menus rows places → i + 1 + length places ≡ c.places → last ≡ length places → 0 < last
    → number ≡ get_or places (last - 1) number → IsRowNumberOf c (i + 1) menus rows number
next_row c i menus rows places last number are place e some is = record {
  within = number_within c menus rows places (last - 1) number are h is;
  row = λ d.
      subst (λ (k : ℕ). IsRowAt c k menus (get_or rows number d)) here
      (subst (λ (n : ℕ). IsRowAt c (c.places - 1 - (last - 1)) menus (get_or rows n d))
      (sym (is ∙ get_or_default places (last - 1) number 0 h)) (are.at (last - 1) d h));
}
  where
    h : last - 1 < length places
    h = omega (arith, e, some)

    here : c.places - 1 - (last - 1) ≡ i + 1
    here = omega (arith, place, e, some)

row_again : (c : Chains) (i : ℕ) (menus : List Menu) (row : Row) (some : Menu) → i + 1 < c.places
    → All (IsPacked c.voices) menus → GoesOnFreely c i → IsRowAt c (i + 1) menus row → IsRowAt c i menus row
row_again c i menus row some within packed free next = record {
  named = next.named;
  menu = λ d. next.menu d ∙ sym free.menu;
  sums = row_goes_on c i row.sums.items within full free next.sums;
  small = λ k h.
      at_most_more ((c.places - 1 - (i + 1)) * 2 ^ 53) ((c.places - 1 - i) * 2 ^ 53) (get_or row.sums.items k None)
      (omega arith) (next.small k h);
}
  where
    full : AreFull c.voices (c.menu (i + 1))
    full = subst (AreFull c.voices) (next.menu some) (packed row.menu some next.named).full

-- the place has the same one where it goes on freely
pub same_row : (c : Chains) (i : ℕ) (menus : List Menu) (rows : List Row) (number : ℕ) (some : Menu)
    → i + 1 < c.places → All (IsPacked c.voices) menus → GoesOnFreely c i → IsRowNumberOf c (i + 1) menus rows number
    → IsRowNumberOf c i menus rows number
same_row c i menus rows number some within packed free next = record {
  within = next.within;
  row = λ d. row_again c i menus (get_or rows number d) some within packed free (next.row d);
}

-- ---- a row grows by a sum at a time

pub each_pushed : {X : Type 0} (P : ℕ → X → Type 0) (k : ℕ) (items : List X) (next none : X) → length items ≡ k
    → ((j : ℕ) → j < k → P j (get_or items j none)) → P k next
    → (j : ℕ) → j < k + 1 → P j (get_or (items ++ next ∷ []) j none)
each_pushed P k items next none e old here j h = by (below_or_at j k h)
  where
    by : (j < k) ⊎ (j ≡ k) → P j (get_or (items ++ next ∷ []) j none)
    by (inl l) = subst (P j) (sym (get_or_append_left items (next ∷ []) none j (omega arith))) (old j l)
    by (inr f) =
        subst (P j) (sym (get_or_push items next none j (e ∙ sym f))) (subst (λ (n : ℕ). P n next) (sym f) here)

pub sums_pushed : (most : ℕ) (row : List (Option ℕ)) (least : Option ℕ) → AllAtMost most row → IsAtMost most least
    → AllAtMost most (row ++ least ∷ [])
sums_pushed most row least old here j h = by (below_or_at j (length row) (omega (arith, length_push row least)))
  where
    by : (j < length row) ⊎ (j ≡ length row) → IsAtMost most (get_or (row ++ least ∷ []) j None)
    by (inl l) =
        subst (λ (o : Option ℕ). IsAtMost most o) (sym (get_or_append_left row (least ∷ []) None j l)) (old j l)
    by (inr f) = subst (λ (o : Option ℕ). IsAtMost most o) (sym (get_or_push row least None j (sym f))) here
