-- Lists that are made from lists: what they contain, and in which order.
use Rattle.std.proofs.Common.{◌≡◌, inl, inr, ℕ, zero, suc, ◌+◌, ◌==◌, ◌<◌, Bool, true, false, ◌&&◌, ◌||◌, List, [], ◌∷◌, ◌++◌, get_or, map, refl, ap, sym, ◌∙◌, subst, arith}
use Rattle.std.specs.List.{AllPairs, Contains, flat_map, list_all, list_any, range_with_len}
use Rattle.std.proofs.lemmas.Bool.{eqb-true, and_parts}
use Rattle.std.proofs.lemmas.List.Elements.{Contains-append_cases, Contains-append_left, Contains-append_right, Contains-get_or}
use Rattle.std.proofs.lemmas.List.FromFn.{get_or-range_with_len, length-range_with_len}
use Rattle.fux_grid.proofs.Combinations.{AllPairs-append, AllPairs-head, AllPairs-tail, Contains-cons_cases}

pub Contains-head : {X : Type 0} (x : X) (xs : List X) → Contains (x ∷ xs) x
Contains-head x xs = (0, omega arith, refl)

pub Contains-behind : {X : Type 0} (x : X) (xs : List X) (y : X) → Contains xs y → Contains (x ∷ xs) y
Contains-behind x xs y (k, h, e) = (suc k, omega arith, e)

pub Contains-nil : {X : Type 0} (y : X) → Contains [] y → ⊥
Contains-nil y (k, h, e) = omega arith

-- the one item of a list
pub Contains-one : {X : Type 0} (x y : X) → Contains (x ∷ []) y → x ≡ y
Contains-one x y (zero, h, e) = e
Contains-one x y (suc k, h, e) = absurd (omega arith)

pub Contains-map : {X Y : Type 0} (f : X → Y) (xs : List X) (x : X) → Contains xs x → Contains (map f xs) (f x)
Contains-map f [] x h = absurd (Contains-nil x h)
Contains-map f (z ∷ zs) x h = elim (Contains-cons_cases z zs x h) [
  | inl e ↦ (0, omega arith, ap f e)
  | inr k ↦ Contains-behind (f z) (map f zs) (f x) (Contains-map f zs x k)
]

module _ {X Y : Type 0} (f : X → List Y) where
  pub Contains-flat_map : (xs : List X) (x : X) (y : Y) → Contains xs x → Contains (f x) y → Contains (flat_map f xs) y
  Contains-flat_map [] x y h k = absurd (Contains-nil x h)
  Contains-flat_map (z ∷ zs) x y h k = elim (Contains-cons_cases z zs x h) [
    | inl e ↦ let P : X → Type 0 =
        λ x. Contains (f x) y in Contains-append_left (f z) (flat_map f zs) y (subst P (sym e) k)
    | inr l ↦ Contains-append_right (f z) (flat_map f zs) y (Contains-flat_map zs x y l k)
  ]

  -- each item of a joined list is one of those of an item
  pub Contains-flat_map_only : (xs : List X) (y : Y) → Contains (flat_map f xs) y → (x : X) × Contains xs x
      × Contains (f x) y
  Contains-flat_map_only [] y h = absurd (Contains-nil y h)
  Contains-flat_map_only (x ∷ xs) y h = elim (Contains-append_cases (f x) (flat_map f xs) y h) [
    | inl k ↦ (x, Contains-head x xs, k)
    | inr k ↦ let below = Contains-flat_map_only xs y k in (below.0, Contains-behind x xs below.0 below.1, below.2)
  ]

  -- a list joined from ascending lists of ascending items ascends
  pub AllPairs-flat_map : (R : X → X → Type 0) (S : Y → Y → Type 0) (xs : List X) → AllPairs R xs
      → ((x : X) → AllPairs S (f x)) → ((x x' : X) (y y' : Y) → R x x' → Contains (f x) y → Contains (f x') y' → S y y')
      → AllPairs S (flat_map f xs)
  AllPairs-flat_map R S [] h each across = λ i j d k l. absurd (omega arith)
  AllPairs-flat_map R S (x ∷ xs) h each across =
      AllPairs-append S (f x) (flat_map f xs) (each x) (AllPairs-flat_map R S xs (AllPairs-tail R x xs h) each across)
      (λ y y' in_first in_others.
      let found = Contains-flat_map_only xs y' in_others in
      across x found.0 y y' (AllPairs-head R x xs found.0 h found.1) in_first found.2)

-- ---- lists whose items can be tried

tested : (xs : List ℕ) (x : ℕ) → list_any (λ y. y == x) xs ≡ true → Contains xs x
tested [] x h = absurd (cc)
tested (y ∷ ys) x h = by_test (y == x) refl h (tested ys x)
  where
    by_test : (b : Bool) → (y == x) ≡ b → (b || list_any (λ y. y == x) ys) ≡ true
        → (list_any (λ y. y == x) ys ≡ true → Contains ys x) → Contains (y ∷ ys) x
    by_test true e k below = (0, omega arith, eqb-true y x e)
    by_test false e k below = Contains-behind y ys x (below k)

all_passes : {X : Type 0} (test : X → Bool) (xs : List X) (x : X) → list_all test xs ≡ true → Contains xs x → test x
    ≡ true
all_passes test [] x h k = absurd (Contains-nil x k)
all_passes test (y ∷ ys) x h k = elim (Contains-cons_cases y ys x k) [
  | inl e ↦ ap test (sym e) ∙ (and_parts (test y) (list_all test ys) h).0
  | inr l ↦ all_passes test ys x (and_parts (test y) (list_all test ys) h).1 l
]

-- each number of a list stands in another
pub within_by_test : (xs ys : List ℕ) → list_all (λ x. list_any (λ y. y == x) ys) xs ≡ true → (x : ℕ) → Contains xs x
    → Contains ys x
within_by_test xs ys h x k = tested ys x (all_passes (λ x. list_any (λ y. y == x) ys) xs x h k)

-- each item passes the test with all later ones
abbrev pub passes_pairwise : {X : Type 0} → (X → X → Bool) → List X → Bool
passes_pairwise test [] = true
passes_pairwise test (x ∷ xs) = list_all (test x) xs && passes_pairwise test xs

pub AllPairs-by_test : {X : Type 0} (test : X → X → Bool) (xs : List X) → passes_pairwise test xs ≡ true
    → AllPairs (λ x y. test x y ≡ true) xs
AllPairs-by_test test [] h i j d k l = absurd (omega arith)
AllPairs-by_test test (x ∷ xs) h zero zero d k l = absurd (omega arith)
AllPairs-by_test test (x ∷ xs) h (suc i) zero d k l = absurd (omega arith)
AllPairs-by_test test (x ∷ xs) h zero (suc j) d k l =
    all_passes (test x) xs (get_or xs j d) (and_parts (list_all (test x) xs) (passes_pairwise test xs) h).0
    (Contains-get_or xs j d (omega arith))
AllPairs-by_test test (x ∷ xs) h (suc i) (suc j) d k l = AllPairs-by_test test xs
    (and_parts (list_all (test x) xs) (passes_pairwise test xs) h).1 i j d (omega arith) (omega arith)

-- ---- the numbers below n

pub Contains-range : (n k : ℕ) → k < n → Contains (range_with_len 0 n) k
Contains-range n k h = (k, omega (arith, length-range_with_len 0 n), get_or-range_with_len 0 n k k h ∙ omega arith)

pub Contains-range_only : (n k : ℕ) → Contains (range_with_len 0 n) k → k < n
Contains-range_only n k (j, h, e) = omega (
  arith,
  length-range_with_len 0 n,
  e,
  get_or-range_with_len 0 n j k
      (omega (arith, length-range_with_len 0 n)),
)

pub AllPairs-range : (n : ℕ) → AllPairs (λ a b. a < b) (range_with_len 0 n)
AllPairs-range n i j d h k =
    let long = length-range_with_len 0 n in
    omega (
      arith,
      get_or-range_with_len 0 n i d (omega (arith, long)),
      get_or-range_with_len 0 n j d
          (omega (arith, long)),
    )

range_from-more : (a n : ℕ) → range_with_len a (suc n) ≡ range_with_len a n ++ (a + n) ∷ []
range_from-more a zero = let e : a ≡ a + 0 = omega arith in ap (λ k. k ∷ []) e
range_from-more a (suc n) = let e : a + 1 + n ≡ a + suc n = omega arith in ap (λ ks. a ∷ ks) (range_from-more (a + 1) n)
    ∙ ap (λ k. a ∷ (range_with_len (a + 1) n ++ k ∷ [])) e

pub range-more : (n : ℕ) → range_with_len 0 (n + 1) ≡ range_with_len 0 n ++ n ∷ []
range-more n = let e : n + 1 ≡ suc n = omega arith in let f : 0 + n ≡ n = omega arith in ap (range_with_len 0) e
    ∙ range_from-more 0 n ∙ ap (λ k. range_with_len 0 n ++ k ∷ []) f
