-- The items of cells of any kind, from the first (`items-broken`), and what holds of each of their
-- words (`items-words`).
use Rattle.std.proofs.Common.{◌≡◌, ℕ, ◌+◌, ◌<◌, ◌≤◌, Bool, true, false, List, [], ◌∷◌, length, get_or, drop, map, refl, ap, sym, subst, ◌∙◌, arith}
use Rattle.std.specs.List.{list_all}
use Rattle.std.proofs.lemmas.Bool.{and_from}
use Rattle.std.proofs.lemmas.List.{drop_more}
use Rattle.fux_text.specs.Items.{items_by, with_run_by}

-- the items of some cells begin with their first cell, so a cell with which that doesn't go on is
-- an item of its own
pub with_run-broken : {C : Type 0} (goes : C → C → Bool) (c d : C) (n m : ℕ) (items : List (C × ℕ)) → goes c d ≡ false
    → with_run_by goes c n (with_run_by goes d m items) ≡ (c, n) ∷ with_run_by goes d m items
with_run-broken goes c d n m [] h = rw h refl
with_run-broken goes c d n m (item ∷ items) h = by_test (goes d item.0) refl
  where
    by_test : (b : Bool) → goes d item.0 ≡ b → with_run_by goes c n (with_run_by goes d m (item ∷ items)) ≡ (c, n)
        ∷ with_run_by goes d m (item ∷ items)
    by_test true e = rw (e, h) refl
    by_test false e = rw (e, h) refl

-- an item ends before a cell that doesn't go on with it
pub items-broken : {C : Type 0} (goes : C → C → Bool) (cells : List C) (n : ℕ) (c x : C) → n < length cells
    → goes c (get_or cells n x) ≡ false
    → with_run_by goes c n (items_by goes (drop n cells)) ≡ (c, n) ∷ items_by goes (drop n cells)
items-broken goes cells n c x l h =
    let split : drop n cells ≡ get_or cells n x ∷ drop (n + 1) cells = drop_more cells n x l in
    rw split (with_run-broken goes c (get_or cells n x) n 1 (items_by goes (drop (n + 1) cells)) h)

-- what goes on with a cell that goes on with another one goes on with that one, too
abbrev pub GoesThrough : {C : Type 0} → (C → C → Bool) → Type 0
GoesThrough {C = C} goes = (c d x : C) → goes c d ≡ true → goes d x ≡ goes c x

-- a cell that goes on makes a run longer
pub with_run-longer : {C : Type 0} (goes : C → C → Bool) → GoesThrough goes → (c d : C) (n m : ℕ) (items : List (C × ℕ))
    → goes c d ≡ true → with_run_by goes c n (with_run_by goes d m items) ≡ with_run_by goes c (n + m) items
with_run-longer goes through c d n m [] e = rw e refl
with_run-longer goes through c d n m (item ∷ items) e = by (goes c item.0) refl
  where
    by : (b : Bool) → goes c item.0 ≡ b → with_run_by goes c n (with_run_by goes d m (item ∷ items))
        ≡ with_run_by goes c (n + m) (item ∷ items)
    by true f =
        let g : goes d item.0 ≡ true = through c d item.0 e ∙ f in
        rw (f, g, e) (ap (λ k. (c, k) ∷ items) (omega arith))
    by false f =
        let g : goes d item.0 ≡ false = through c d item.0 e ∙ f in
        rw (f, g, e) refl

-- what holds of the words of all short items holds of those of the items of some cells
run-words : {C : Type 0} (goes : C → C → Bool) → GoesThrough goes → (word : C × ℕ → List ℕ) (test : List ℕ → Bool)
    → ((c : C) (n : ℕ) → n ≤ 9999999 → test (word (c, n)) ≡ true) → (cs : List C) (c : C) (n : ℕ) → n + length cs ≤ 9999999
    → list_all test (map word (with_run_by goes c n (items_by goes cs))) ≡ true
run-words goes through word test each [] c n few =
    and_from (test (word (c, n))) true (each c n (omega (arith, few))) refl
run-words {C = C} goes through word test each (d ∷ ds) c n few =
    by (goes c d) refl (run-words goes through word test each ds c (n + 1) (omega (arith, few)))
    (run-words goes through word test each ds d 1 (omega (arith, few)))
  where
    Passes : List (C × ℕ) → Type 0
    Passes items = list_all test (map word items) ≡ true

    items : List (C × ℕ)
    items = items_by goes ds

    by : (b : Bool) → goes c d ≡ b → Passes (with_run_by goes c (n + 1) items) → Passes (with_run_by goes d 1 items)
        → Passes (with_run_by goes c n (with_run_by goes d 1 items))
    by true e longer rest = subst Passes (sym (with_run-longer goes through c d n 1 items e)) longer
    by false e longer rest =
        subst Passes (sym (with_run-broken goes c d n 1 items e))
        (and_from (test (word (c, n))) (list_all test (map word (with_run_by goes d 1 items)))
        (each c n (omega (arith, few))) rest)

pub items-words : {C : Type 0} (goes : C → C → Bool) → GoesThrough goes → (word : C × ℕ → List ℕ) (test : List ℕ → Bool)
    → ((c : C) (n : ℕ) → n ≤ 9999999 → test (word (c, n)) ≡ true) → (cs : List C) → length cs ≤ 9999999
    → list_all test (map word (items_by goes cs)) ≡ true
items-words goes through word test each [] few = refl
items-words goes through word test each (c ∷ cs) few =
    run-words goes through word test each cs c 1 (omega (arith, few))

-- the items of other cells that go on where these do
pub with_run-mapped : {C D : Type 0} (goes : C → C → Bool) (other : D → D → Bool) (f : C → D)
    → ((c d : C) → other (f c) (f d) ≡ goes c d) → (c : C) (n : ℕ) (items : List (C × ℕ))
    → with_run_by other (f c) n (map (λ item. (f item.0, item.1)) items)
    ≡ map (λ item. (f item.0, item.1)) (with_run_by goes c n items)
with_run-mapped goes other f same c n [] = refl
with_run-mapped {C = C} {D = D} goes other f same c n (item ∷ items) = by (goes c item.0) refl
  where
    seen : C × ℕ → D × ℕ
    seen i = (f i.0, i.1)

    by : (b : Bool) → goes c item.0 ≡ b
        → with_run_by other (f c) n (seen item ∷ map seen items) ≡ map seen (with_run_by goes c n (item ∷ items))
    by true e = rw (same c item.0, e) refl
    by false e = rw (same c item.0, e) refl

pub items-mapped : {C D : Type 0} (goes : C → C → Bool) (other : D → D → Bool) (f : C → D)
    → ((c d : C) → other (f c) (f d) ≡ goes c d) → (cs : List C)
    → items_by other (map f cs) ≡ map (λ item. (f item.0, item.1)) (items_by goes cs)
items-mapped goes other f same [] = refl
items-mapped goes other f same (c ∷ cs) =
    ap (with_run_by other (f c) 1) (items-mapped goes other f same cs)
    ∙ with_run-mapped goes other f same c 1 (items_by goes cs)
