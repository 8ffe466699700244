-- Menus are kept one by one (`menus_more`), up to the first that is too wide (`first_wide`).
use Rattle.std.proofs.Common.{◌≡◌, ◌⊎◌, inl, inr, ℕ, suc, ◌+◌, ◌<◌, ◌≤◌, Bool, true, List, [], ◌∷◌, length, get_or, sym, ap, ◌∙◌, subst, arith}
use Rattle.std.proofs.lemmas.List.{get_or-map, get_or_append_left, get_or_push, length-map, length_push}
use Rattle.arrayvec.specs.ArrayVec.{ArrayVec}
use Rattle.cert_check.specs.declared.entries.EntryFault.{EntryFault}
use Rattle.cert_check.specs.declared.entries.EntryFault.TheVariants.{TooWide, Memory}
use Rattle.cert_check.specs.declared.menus.Menus.{Menus}
use Rattle.cert_check.specs.Faults.{TellsMenu, TellsWidth}
use Rattle.cert_check.specs.Menus.{AddsMenu, Columns, HasMenu, HaveMenus}
use Rattle.cert_law.specs.Entries.{columns_before}
use Rattle.chain_sums.proofs.LeastLemmas.{below_or_at}
use Rattle.chain_sums.specs.Still.{IsStill, all_hold}
use Rattle.fux_grid.specs.declared.cell.Cell.{Cell}
use Rattle.fux_grid.specs.declared.exercise.Exercise.{Exercise}
use Rattle.fux_grid.specs.Exercises.{columns_in}
use Rattle.fux_grid.specs.Grid.{items_of}
use Rattle.fux_grid.specs.Menus.{menu_of}

-- a menu has as many columns as are kept of it
pub width_of : (ex : Exercise) (i : ℕ) (columns : Columns) → HasMenu ex i columns
    → length columns.items ≡ length (menu_of ex i)
width_of ex i columns has = sym (length-map columns.items (λ col. col.items)) ∙ ap length has.value

pub menus_more : (ex : Exercise) (count : ℕ) (old new : Menus) (columns : Columns) → HaveMenus ex count old
    → HasMenu ex count columns → AddsMenu old columns new → HaveMenus ex (suc count) new
menus_more ex count old new columns have has adds = record {
  whole = omega (arith, ap length adds.columns, length_push old.columns.items columns, have.whole);
  counted = omega (arith, ap length adds.before, length_push old.before.items old.total, have.counted);
  each = λ i d short. each i d (below_or_at i count (omega (arith, short)));
  narrow = λ i short. narrow i (below_or_at i count (omega (arith, short)));
  before = λ i d short. before i d (below_or_at i count (omega (arith, short)));
  flagged = omega (arith, ap length adds.flags, length_push old.still.items adds.flag, have.flagged);
  still = λ i d short is. still i d is (below_or_at i count (omega (arith, short)));
  total = total;
  few = omega (arith, total, have.total, have.few, has.narrow);
}
  where
    width : length columns.items ≡ length (menu_of ex count)
    width = width_of ex count columns has

    total : new.total ≡ columns_before ex (suc count)
    total = omega (arith, adds.total, have.total, width)

    each : (i : ℕ) (d : Columns) → (i < count) ⊎ (i ≡ count)
        → items_of (get_or new.columns.items i d).items ≡ menu_of ex i
    each i d (inl below) =
        ap (λ cs. items_of (get_or cs i d).items) adds.columns
        ∙ ap (λ (c : Columns). items_of c.items)
        (get_or_append_left old.columns.items (columns ∷ []) d i (omega (arith, below, have.whole)))
        ∙ have.each i d below
    each i d (inr here) =
        ap (λ cs. items_of (get_or cs i d).items) adds.columns
        ∙ ap (λ (c : Columns). items_of c.items)
        (get_or_push old.columns.items columns d i (omega (arith, here, have.whole)))
        ∙ has.value ∙ ap (menu_of ex) (sym here)

    narrow : (i : ℕ) → (i < count) ⊎ (i ≡ count) → length (menu_of ex i) ≤ 8192
    narrow i (inl below) = have.narrow i below
    narrow i (inr here) = subst (λ (n : ℕ). length (menu_of ex n) ≤ 8192) (sym here) has.narrow

    before : (i d : ℕ) → (i < count) ⊎ (i ≡ count) → get_or new.before.items i d ≡ columns_before ex i
    before i d (inl below) =
        ap (λ ns. get_or ns i d) adds.before
        ∙ get_or_append_left old.before.items (old.total ∷ []) d i (omega (arith, below, have.counted))
        ∙ have.before i d below
    before i d (inr here) =
        ap (λ ns. get_or ns i d) adds.before
        ∙ get_or_push old.before.items old.total d i (omega (arith, here, have.counted))
        ∙ have.total ∙ ap (columns_before ex) (sym here)

    still : (i : ℕ) (d : Bool) → get_or new.still.items i d ≡ true → (i < count) ⊎ (i ≡ count) → IsStill (menu_of ex i)
    still i d is (inl below) =
        have.still i d below
        (sym (ap (λ fs. get_or fs i d) adds.flags
        ∙ get_or_append_left old.still.items (adds.flag ∷ []) d i (omega (arith, below, have.flagged)))
        ∙ is)
    still i d is (inr here) =
        subst (λ (m : List (List Cell)). IsStill m) (has.value ∙ ap (menu_of ex) (sym here))
        (adds.still
        (sym (ap (λ fs. get_or fs i d) adds.flags
        ∙ get_or_push old.still.items adds.flag d i (omega (arith, here, have.flagged)))
        ∙ is))

-- where the menus before a place are kept, and that of the place is too wide, it is the first that
-- is
pub first_wide : (ex : Exercise) (i : ℕ) (menus : Menus) (fault : EntryFault) → i < columns_in ex → HaveMenus ex i menus
    → TellsMenu ex i fault → TellsWidth ex fault
first_wide ex i menus (TooWide place count) within have told = record {
  column = i;
  bar = told.0;
  slot = told.1;
  within = within;
  width = told.2;
  wide = told.3;
  first = have.narrow;
}
first_wide ex i menus Memory within have told = tt

-- a column more of a menu is known to hold all it sounds
pub still_more : (columns : List (ArrayVec Cell)) (k : ℕ) (col : ArrayVec Cell) → k < length columns
    → col ≡ get_or columns k col → all_hold col.items ≡ true
    → ((j : ℕ) → j < k → all_hold (get_or (items_of columns) j []) ≡ true) → (j : ℕ) → j < k + 1
    → all_hold (get_or (items_of columns) j []) ≡ true
still_more columns k col within is here before j short = at (below_or_at j k short)
  where
    at : (j < k) ⊎ (j ≡ k) → all_hold (get_or (items_of columns) j []) ≡ true
    at (inl less) = before j less
    at (inr same) =
        ap (λ n. all_hold (get_or (items_of columns) n [])) same
        ∙ ap all_hold (get_or-map (λ c. c.items) columns k col [] within)
        ∙ ap (λ (c : ArrayVec Cell). all_hold c.items) (sym is) ∙ here
