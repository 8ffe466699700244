-- The items of cells of any kind have these cells (`run-items`), where what goes on with a cell is
-- what is held of it.
use Rattle.std.proofs.Common.{◌≡◌, ℕ, zero, suc, ◌+◌, ◌-◌, ◌≤◌, Bool, true, false, List, [], ◌∷◌, ◌++◌, length, replicate, take, drop, refl, sym, ap, subst, ◌∙◌, append_assoc, arith}
use Rattle.std.specs.List.{AllByRecursion, flat_map, sum_by}
use Rattle.std.proofs.lemmas.List.{replicate_more}
use Rattle.std.proofs.lemmas.List.Sums.{sum_by-cons}
use Rattle.fux_text.specs.Items.{items_by, with_run_by}
use Rattle.fux_text.proofs.ItemLemmas.{GoesThrough, with_run-broken, with_run-longer}

-- cells that follow one another: one that goes on with the one before it is what is held of that,
-- and each other one begins an item
pub record AreRuns {C : Type 0} (goes : C → C → Bool) (held : C → C) (ties : C → Bool) (Follow : C → List C → Type 0)
    : Type 0 where
  pub through : GoesThrough goes
  pub held_next : (c d : C) (ds : List C) → goes c d ≡ true → Follow c (d ∷ ds) → d ≡ held c
  pub begins : (c d : C) (ds : List C) → goes c d ≡ false → Follow c (d ∷ ds) → ties d ≡ false
  pub later : (c d : C) (ds : List C) → Follow c (d ∷ ds) → Follow d ds
  pub from_held : (c : C) (ds : List C) → Follow (held c) ds → Follow c ds

-- the cells of items
abbrev pub cells_by : {C : Type 0} → (C → C) → List (C × ℕ) → List C
cells_by held items = flat_map (λ item. item.0 ∷ replicate (item.1 - 1) (held item.0)) items

-- the cells of a run: its first one, and so many that go on with it
abbrev pub run_by : {C : Type 0} → (C → C) → C → ℕ → List C
run_by held c m = c ∷ replicate m (held c)

-- the items of a run and of what follows it
pub record ItemsOfRun {C : Type 0} (held : C → C) (ties : C → Bool) (c : C) (m : ℕ) (cs : List C) (items : List (C × ℕ))
    : Type 0 where
  pub cells : cells_by held items ≡ run_by held c m ++ cs
  pub some : AllByRecursion (λ item. 1 ≤ item.1) items
  pub later : AllByRecursion (λ item. ties item.0 ≡ false) (drop 1 items)
  pub sum : sum_by (λ item. item.1) items ≡ suc m + length cs
  pub front : AllByRecursion (λ item. item.0 ≡ c) (take 1 items)

replicate-more : {C : Type 0} (k : ℕ) (x : C) (ys : List C) → replicate (suc k) x ++ ys ≡ replicate k x ++ x ∷ ys
replicate-more zero x ys = refl
replicate-more (suc k) x ys = ap (λ more. x ∷ more) (replicate-more k x ys)

-- one more cell that goes on with a run
pub run-longer : {C : Type 0} (before : List C) (first next : C) (n : ℕ) → 1 ≤ n
    → (before ++ first ∷ replicate (n - 1) next) ++ next ∷ [] ≡ before ++ first ∷ replicate (n + 1 - 1) next
run-longer before first next n some =
    let more : n + 1 - 1 ≡ n - 1 + 1 = omega (arith, some) in
    append_assoc before (first ∷ replicate (n - 1) next) (next ∷ [])
    ∙ ap (λ cells. before ++ (first ∷ cells)) (replicate_more (n - 1) next ∙ ap (λ k. replicate k next) (sym more))

run_cells : {C : Type 0} (held : C → C) (c : C) (m : ℕ) → c ∷ replicate (suc m - 1) (held c) ≡ run_by held c m
run_cells held c m = let less : suc m - 1 ≡ m = omega arith in ap (λ k. c ∷ replicate k (held c)) less

all_begin : {C : Type 0} (ties : C → Bool) (d : C) (items : List (C × ℕ)) → ties d ≡ false
    → AllByRecursion (λ item. item.0 ≡ d) (take 1 items)
    → AllByRecursion (λ item. ties item.0 ≡ false) (drop 1 items)
    → AllByRecursion (λ item. ties item.0 ≡ false) items
all_begin ties d [] e f t = tt
all_begin ties d (item ∷ items) e f t = (ap ties f.0 ∙ e, t)

pub run-items : {C : Type 0} (goes : C → C → Bool) (held : C → C) (ties : C → Bool) (Follow : C → List C → Type 0)
    → AreRuns goes held ties Follow → (cs : List C) (c : C) (m : ℕ) → Follow c cs
    → ItemsOfRun held ties c m cs (with_run_by goes c (suc m) (items_by goes cs))
run-items goes held ties Follow are [] c m f = record {
  cells = ap (λ cells. cells ++ []) (run_cells held c m);
  some = (omega arith, tt);
  later = tt;
  sum = omega arith;
  front = (refl, tt);
}
run-items {C = C} goes held ties Follow are (d ∷ ds) c m f =
    by (goes c d) refl (run-items goes held ties Follow are ds c (suc m))
    (run-items goes held ties Follow are ds d 0 (are.later c d ds f))
  where
    items : List (C × ℕ)
    items = items_by goes ds

    by : (b : Bool) → goes c d ≡ b
        → (Follow c ds → ItemsOfRun held ties c (suc m) ds (with_run_by goes c (suc (suc m)) items))
        → ItemsOfRun held ties d 0 ds (with_run_by goes d 1 items)
        → ItemsOfRun held ties c m (d ∷ ds) (with_run_by goes c (suc m) (with_run_by goes d 1 items))
    by true e longer next =
        let same : d ≡ held c = are.held_next c d ds e f in
        let n : suc m + 1 ≡ suc (suc m) = omega arith in
        let r = longer (are.from_held c ds (subst (λ x. Follow x ds) same (are.later c d ds f))) in
        subst (ItemsOfRun held ties c m (d ∷ ds))
        (sym (with_run-longer goes are.through c d (suc m) 1 items e ∙ ap (λ k. with_run_by goes c k items) n))
        (record {
          cells = r.cells ∙ ap (λ tail. c ∷ tail) (replicate-more m (held c) ds)
              ∙ ap (λ x. run_by held c m ++ x ∷ ds) (sym same);
          some = r.some;
          later = r.later;
          sum = omega (arith, r.sum);
          front = r.front;
        })
    by false e longer next =
        let rest = with_run_by goes d 1 items in
        subst (ItemsOfRun held ties c m (d ∷ ds)) (sym (with_run-broken goes c d (suc m) 1 items e))
        (record {
          cells = ap (λ cells. cells ++ cells_by held rest) (run_cells held c m)
              ∙ ap (λ tail. run_by held c m ++ tail) next.cells;
          some = (omega arith, next.some);
          later = all_begin ties d rest (are.begins c d ds e f) next.front next.later;
          sum = sum_by-cons (λ item. item.1) (c, suc m) rest ∙ omega (arith, next.sum);
          front = (refl, tt);
        })
