-- How many paths an arena holds.
use Rattle.std.proofs.Common.{◌≡◌, ◌≢◌, ℕ, ◌+◌, ◌-◌, ◌<◌, ◌≤◌, ◌⊎◌, ⊎_elim, List, [], ◌∷◌, ◌++◌, length, Option, Some, IsSome, is_some, Bool, true, false, ◌||◌, eqb, zero, suc, refl, sym, ap, subst, ◌∙◌, arith}
use Rattle.std.specs.List.{AllByRecursion, IsDistinct, list_any}
use Rattle.std.proofs.lemmas.Map.Steps.{length-le_from_distinct_below}
use Rattle.std.proofs.lemmas.Bool.{eqb-true}
use Rattle.tree_search.specs.Answer.{IsLoaded, IsLiveBelowRoot, AllDiffer, Many, AtMost}
use Rattle.tree_search.specs.Fronts.{IsFront, IsOpening}
use Rattle.tree_search.proofs.Counts.{Many-add, Many-one, Many-by, each_by}
use Rattle.tree_search.specs.Space.{FloorsGrow}
use Rattle.tree_search.proofs.Frontier.{InArena, loaded_met, met, child_not_root}
use Rattle.tree_search.proofs.Trails.{some_of}

module _ (n : ℕ) (P : ℕ → List ℕ) where
  -- the path is of an entry that is not the root
  abbrev pub InTail : List ℕ → Type 0
  InTail path = (m : ℕ) × (0 < m) × (m < n) × (P m ≡ path)

  abbrev places : (xs : List (List ℕ)) → AllByRecursion InTail xs → List ℕ
  places [] h = []
  places (x ∷ xs) h = (h.0.0 - 1) ∷ places xs h.1

  length-places : (xs : List (List ℕ)) (h : AllByRecursion InTail xs) → length (places xs h) ≡ length xs
  length-places [] h = refl
  length-places (x ∷ xs) h = omega (arith, length-places xs h.1)

  places_below : (xs : List (List ℕ)) (h : AllByRecursion InTail xs) (q : ℕ)
      → list_any (eqb q) (places xs h) ≡ true → q < n - 1
  places_below [] h q is = cc
  places_below (x ∷ xs) h q is = by_test (places_below xs h.1 q) (eqb q (h.0.0 - 1)) refl is
    where
      by_test : (list_any (eqb q) (places xs h.1) ≡ true → q < n - 1) → (b : Bool) → eqb q (h.0.0 - 1) ≡ b
          → (b || list_any (eqb q) (places xs h.1)) ≡ true → q < n - 1
      by_test on true e is = let same : q ≡ h.0.0 - 1 = eqb-true q (h.0.0 - 1) e in
          omega (arith, same, h.0.1, h.0.2)
      by_test on false e is = on is

  apart_places : (x : List ℕ) (at : InTail x) (xs : List (List ℕ)) (h : AllByRecursion InTail xs)
      → AllByRecursion (λ y. x ≢ y) xs → AllByRecursion (λ y. eqb (at.0 - 1) y ≡ false) (places xs h)
  apart_places x at [] h d = tt
  apart_places x at (y ∷ ys) h d = (differs (eqb (at.0 - 1) (h.0.0 - 1)) refl, apart_places x at ys h.1 d.1)
    where
      differs : (b : Bool) → eqb (at.0 - 1) (h.0.0 - 1) ≡ b → b ≡ false
      differs false e = refl
      differs true e =
          let less : at.0 - 1 ≡ h.0.0 - 1 = eqb-true (at.0 - 1) (h.0.0 - 1) e in
          let same : at.0 ≡ h.0.0 = omega (arith, less, at.1, h.0.1) in
          absurd (d.0 (sym at.3 ∙ ap P same ∙ h.0.3))

  IsDistinct-places : (xs : List (List ℕ)) (h : AllByRecursion InTail xs) → AllDiffer xs
      → IsDistinct eqb (places xs h)
  unfolding IsDistinct
  IsDistinct-places [] h d = tt
  IsDistinct-places (x ∷ xs) h d = (apart_places x h.0 xs h.1 d.0, IsDistinct-places xs h.1 d.1)

  -- no more than the entries without the root
  pub at_most : (Kind : List ℕ → Type 0) → ((x : List ℕ) → Kind x → InTail x) → AtMost Kind (n - 1)
  at_most Kind of xs differ kind =
      let h = each_by Kind InTail of xs kind in
      omega (
        arith,
        length-places xs h,
        length-le_from_distinct_below (places xs h) (n - 1)
            (IsDistinct-places xs h differ) (places_below xs h),
      )

  -- the arena without its root
  abbrev tail_paths : ℕ → List (List ℕ)
  tail_paths zero = []
  tail_paths (suc k) = P (suc k) ∷ tail_paths k

  length-tail_paths : (k : ℕ) → length (tail_paths k) ≡ k
  length-tail_paths zero = refl
  length-tail_paths (suc k) = omega (arith, length-tail_paths k)

module _ {live : List ℕ → Option ℕ} {width : List ℕ → ℕ} {height : ℕ} (grows : FloorsGrow live width height)
    {n : ℕ} {P : ℕ → List ℕ} {F waits : ℕ → ℕ} {Spared : ℕ → Type 0} {Covered : List ℕ → ℕ → Type 0} {reached : ℕ}
    (front : IsFront live height n P F waits Spared Covered reached) where
  in_tail : (x : List ℕ) → (x ≡ [] → ⊥) → InArena n P x → InTail n P x
  in_tail x some (zero, within, is) = absurd (some (sym is ∙ front.root))
  in_tail x some (suc m, within, is) = (suc m, omega arith, within, is)

  -- no entry that is not done is as low as x: what is loaded at x is of entries
  pub at_most_loaded : (x : ℕ) → ((i : ℕ) → i < n → (0 < waits i) ⊎ Spared i → x < F i)
      → AtMost (IsLoaded live x) (n - 1)
  at_most_loaded x higher = at_most n P (IsLoaded live x) (λ path loaded.
      in_tail path (λ e. child_not_root loaded.parent loaded.child (sym loaded.is ∙ e))
      (⊎_elim (λ found. found)
      (λ pending. absurd
      (omega (arith, higher pending.entry pending.within pending.open_yet, pending.low)))
      (loaded_met grows front x path loaded)))

  -- all entries are done: what is live is of entries
  pub at_most_live : ((i : ℕ) → i < n → (0 < waits i) ⊎ Spared i → ⊥) → AtMost (IsLiveBelowRoot live) (n - 1)
  at_most_live none = at_most n P (IsLiveBelowRoot live) (λ path it.
      let floor = some_of (live path) it.0 in
      in_tail path it.1
      (⊎_elim (λ found. found) (λ pending. absurd (none pending.entry pending.within pending.open_yet))
      (met grows front path floor.0 floor.1)))

  -- an entry is loaded by its parent
  loaded_entry : (m : ℕ) → 0 < m → m < n → IsLoaded live reached (P m)
  loaded_entry m some within =
      let h = front.parents m some within in
      record {
        is_live = ap is_some (front.floors m within);
        parent = P h.parent;
        child = h.child;
        is = h.is;
        own_floor = F h.parent;
        parent_live = front.floors h.parent h.within;
        low = h.low;
      }

  tail_kind : (k : ℕ) → k < n → AllByRecursion (λ x. IsLoaded live reached x × InArena n P x) (tail_paths n P k)
  tail_kind zero within = tt
  tail_kind (suc k) within =
      ((loaded_entry (suc k) (omega arith) within, (suc k, within, refl)), tail_kind k (omega arith))

  tail_apart : (m k : ℕ) → m < n → k < m → AllByRecursion (λ x. P m ≢ x) (tail_paths n P k)
  tail_apart m zero within less = tt
  tail_apart m (suc k) within less = (
    (λ e. omega (arith, front.differ m (suc k) within (omega arith) e, less)),
    tail_apart m k within
        (omega arith),
  )

  tail_differ : (k : ℕ) → k < n → AllDiffer (tail_paths n P k)
  tail_differ zero within = tt
  tail_differ (suc k) within = (tail_apart (suc k) k within (omega arith), tail_differ k (omega arith))

  -- a child more than the arena holds is loaded
  pub many_loaded : (c k f budget : ℕ) → IsOpening live n P waits c k → F c ≡ reached
      → live (P c ++ k ∷ []) ≡ Some f → n ≡ budget + 1 → Many (IsLoaded live reached) (budget + 1)
  many_loaded c k f budget opening level is full =
      let all : Many (λ x. IsLoaded live reached x × InArena n P x) budget = record {
        paths = tail_paths n P budget;
        counted = length-tail_paths n P budget;
        differ = tail_differ budget (omega (arith, full));
        kind = tail_kind budget (omega (arith, full));
      } in
      let one = Many-one (λ x. x ≡ P c ++ k ∷ []) (P c ++ k ∷ []) refl in
      Many-add (λ x. IsLoaded live reached x × InArena n P x) (λ x. x ≡ P c ++ k ∷ []) (IsLoaded live reached)
      (λ x y it same e. omega (arith, opening.yet it.1.0 k it.1.1 (it.1.2 ∙ e ∙ same)))
      (λ x it. it.0)
      (λ x same. record {
        is_live = subst (λ (p : List ℕ). IsSome (live p)) (sym same) (ap is_some is);
        parent = P c;
        child = k;
        is = same;
        own_floor = F c;
        parent_live = front.floors c opening.here;
        low = omega (arith, level);
      })
      budget 1 (budget + 1) refl all one

-- a higher floor's load is no smaller
pub loaded_higher : (live : List ℕ → Option ℕ) (x y n : ℕ) → x ≤ y → Many (IsLoaded live x) n → Many (IsLoaded live y) n
loaded_higher live x y n le =
    Many-by (IsLoaded live x) (IsLoaded live y)
    (λ path h. record {
      is_live = h.is_live;
      parent = h.parent;
      child = h.child;
      is = h.is;
      own_floor =
          h.own_floor;
      parent_live = h.parent_live;
      low = omega (arith, h.low, le);
    })
    n n refl

-- what is loaded is live
pub loaded_live : (live : List ℕ → Option ℕ) (x n : ℕ) → Many (IsLoaded live x) n → Many (IsLiveBelowRoot live) n
loaded_live live x n =
    Many-by (IsLoaded live x) (IsLiveBelowRoot live)
    (λ path h. (h.is_live, λ none. child_not_root h.parent h.child (sym h.is ∙ none))) n n refl
