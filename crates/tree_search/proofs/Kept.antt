-- The leaves that a search keeps: their order (`Precedes-other`, `last_of_bound`), that none stands
-- twice (`paths_differ`), and what a leaf more makes of them (`taken_met`, `taken_once`,
-- `taken_covers`, `taken_keeps`). What the heap of them tells (`let_go`).
use Rattle.std.proofs.Common.{◌≡◌, ◌≢◌, ℕ, ◌+◌, ◌<◌, ◌≤◌, ◌⊎◌, inl, inr, ⊎_elim, List, [], ◌∷◌, length, map, get_or, Option, Some, None, IfSome, IfNone, All, Contains, IsPermutation, Less, Equal, is_lt, nat_cmp, true, true≢false, zero, suc, refl, sym, ap, subst, subst₂, ◌∙◌, arith}
use Rattle.std.specs.BinaryHeap.{IsHeap, IsUpperBound}
use Rattle.std.specs.Cmp.{nat_cmp_is}
use Rattle.std.specs.Cmp.Lexicographic.{slice_cmp}
use Rattle.std.specs.Ordering.{ordering_then}
use Rattle.std.proofs.lemmas.Bool.{cases_lt, cases_eq}
use Rattle.std.proofs.lemmas.List.Elements.{All-nil, All-cons, All-head, All-tail, All-map, All-contains, Contains-get_or, recursion_from_All}
use Rattle.std.proofs.lemmas.List.Sorted.{All-permutation, Contains-permutation, IsPermutation-map, IsPermutation-sym, IsPermutation-trans, length_permutation}
use Rattle.tree_search.specs.Answer.{AllDiffer, IsBefore}
use Rattle.tree_search.specs.Walks.{IsAmong}
use Rattle.tree_search.specs.Nth.{Precedes}
use Rattle.tree_search.specs.Finds.{Leaf, ComesBefore, Covers, IsLastOf, LetsGo, TakesIn, leaf_cmp, leaf_numbers, path_of}
use Rattle.tree_search.specs.Fronts.{IsMet, times}
use Rattle.tree_search.proofs.Order.{IsBefore-self, IsBefore-trans, compared}
use Rattle.tree_search.proofs.Waits.{times-same, times-other, times-permutation}

-- ---- order

path_less : (p q : List ℕ) → IsBefore p q → slice_cmp nat_cmp p q ≡ Less
path_less [] [] h = absurd h
path_less (a ∷ p) [] h = absurd h
path_less [] (b ∷ q) h = refl
path_less (a ∷ p) (b ∷ q) (inl less) =
    ap (λ o. ordering_then o (slice_cmp nat_cmp p q)) (sym (nat_cmp_is a b Less less))
path_less (a ∷ p) (b ∷ q) (inr same) =
    ap (λ o. ordering_then o (slice_cmp nat_cmp p q)) (sym (nat_cmp_is a b Equal same.0)) ∙ path_less p q same.1

comes_less : (x y : Leaf) → ComesBefore x y → is_lt (leaf_cmp x y) ≡ true
comes_less x y (inl less) =
    ap (λ o. is_lt (ordering_then o
    (ordering_then (slice_cmp nat_cmp (path_of x) (path_of y)) (nat_cmp x.1.1 y.1.1))))
    (sym (nat_cmp_is x.0 y.0 Less less))
comes_less x y (inr same) =
    ap (λ o. is_lt (ordering_then o
    (ordering_then (slice_cmp nat_cmp (path_of x) (path_of y)) (nat_cmp x.1.1 y.1.1))))
    (sym (nat_cmp_is x.0 y.0 Equal same.0))
    ∙ ap (λ o. is_lt (ordering_then o (nat_cmp x.1.1 y.1.1))) (path_less (path_of x) (path_of y) same.1)

-- what no other is greater than comes before none
pub last_of_bound : (last : Leaf) (others : List Leaf) → IsUpperBound leaf_cmp last others
    → All (λ other. ComesBefore last other → ⊥) others
last_of_bound last [] h = All-nil (λ other. ComesBefore last other → ⊥)
last_of_bound last (y ∷ ys) h =
    All-cons (λ other. ComesBefore last other → ⊥) y ys
    (λ before. true≢false (sym (comes_less last y before) ∙ h.0)) (last_of_bound last ys h.1)

pub Precedes-self : (v : ℕ) (p : List ℕ) → Precedes v p v p → ⊥
Precedes-self v p (inl less) = omega (arith, less)
Precedes-self v p (inr same) = IsBefore-self p same.1

pub Precedes-low : (u v : ℕ) (p q : List ℕ) → Precedes u p v q → u ≤ v
Precedes-low u v p q (inl less) = omega (arith, less)
Precedes-low u v p q (inr same) = omega (arith, same.0)

pub Precedes-trans : (u v w : ℕ) (p q r : List ℕ) → Precedes u p v q → Precedes v q w r → Precedes u p w r
Precedes-trans u v w p q r (inl h) (inl k) = inl (omega (arith, h, k))
Precedes-trans u v w p q r (inl h) (inr k) = inl (omega (arith, h, k.0))
Precedes-trans u v w p q r (inr h) (inl k) = inl (omega (arith, h.0, k))
Precedes-trans u v w p q r (inr h) (inr k) = inr (h.0 ∙ k.0, IsBefore-trans p q r h.1 k.1)

-- of two leaves one comes before the other
pub Precedes-other : (u v : ℕ) (p q : List ℕ) → length p ≡ length q → (p ≡ q → ⊥) → (Precedes u p v q → ⊥)
    → Precedes v q u p
Precedes-other u v p q long apart never =
    ⊎_elim (λ less. absurd (never (inl less)))
    (λ high. ⊎_elim (λ less. inl less)
    (λ low. let level : u ≡ v = omega (arith, high, low) in
    ⊎_elim (λ same. absurd (apart same))
    (λ other. ⊎_elim (λ before. absurd (never (inr (level, before)))) (λ after. inr (sym level, after)) other)
    (compared p q long))
    (cases_lt v u))
    (cases_lt u v)

-- ---- what stands in a list

pub contains_first : (x : Leaf) (xs : List Leaf) → Contains (x ∷ xs) x
contains_first x xs = (0, omega arith, refl)

contains_rest : (x y : Leaf) (xs : List Leaf) → Contains xs y → Contains (x ∷ xs) y
contains_rest x y xs h = (suc h.0, omega (arith, h.1), h.2)

pub in_cons : (x y : Leaf) (xs : List Leaf) → Contains (x ∷ xs) y → (x ≡ y) ⊎ Contains xs y
in_cons x y xs (zero, within, is) = inl is
in_cons x y xs (suc k, within, is) = inr (k, omega (arith, within), is)

pub among_map : (xs : List Leaf) (x : Leaf) → Contains xs x → IsAmong (map path_of xs) (path_of x)
among_map xs x here = at xs here.0 here.1 here.2
  where
    at : (ys : List Leaf) (k : ℕ) → k < length ys → get_or ys k x ≡ x → IsAmong (map path_of ys) (path_of x)
    at [] k within is = absurd (omega (arith, within))
    at (y ∷ ys) zero within is = inl (ap path_of (sym is))
    at (y ∷ ys) (suc k) within is = inr (at ys k (omega (arith, within)) is)

-- ---- each once

times_more : (i x : ℕ) (xs : List ℕ) → times i xs ≤ times i (x ∷ xs)
times_more i x xs = ⊎_elim
    (λ e. subst (λ (j : ℕ). times i xs ≤ times i (j ∷ xs)) (sym e) (omega (arith, times-same i xs)))
    (λ ne. omega (arith, times-other i x xs ne))
    (cases_eq x i)

pub has_number : (xs : List Leaf) (x : Leaf) → Contains xs x → 0 < times x.1.1 (leaf_numbers xs)
has_number xs x here = at xs here.0 here.1 here.2
  where
    at : (ys : List Leaf) (k : ℕ) → k < length ys → get_or ys k x ≡ x → 0 < times x.1.1 (leaf_numbers ys)
    at [] k within is = absurd (omega (arith, within))
    at (y ∷ ys) zero within is =
        subst (λ (z : Leaf). 0 < times z.1.1 (leaf_numbers (y ∷ ys))) is
        (omega (arith, times-same y.1.1 (leaf_numbers ys)))
    at (y ∷ ys) (suc k) within is =
        omega (arith, times_more x.1.1 y.1.1 (leaf_numbers ys), at ys k (omega (arith, within)) is)

-- no entry's number stands twice
abbrev pub IsOnce : List Leaf → Type 0
IsOnce leaves = (i : ℕ) → times i (leaf_numbers leaves) ≤ 1

number : Leaf → ℕ
number leaf = leaf.1.1

pub moved_once : (xs ys : List Leaf) → IsPermutation xs ys → IsOnce xs → IsOnce ys
unfolding number
moved_once xs ys moved once i =
    omega (arith, once i, times-permutation i (leaf_numbers xs) (leaf_numbers ys) (IsPermutation-map number xs ys moved))

pub rest_once : (x : Leaf) (xs : List Leaf) → IsOnce (x ∷ xs) → IsOnce xs
rest_once x xs once i = omega (arith, once i, times_more i x.1.1 (leaf_numbers xs))

module _ {live : List ℕ → Option ℕ} {height n : ℕ} {P : ℕ → List ℕ} {waits : ℕ → ℕ} {Spared : ℕ → Type 0} {reached : ℕ}
    (differ : (i j : ℕ) → i < n → j < n → P i ≡ P j → i ≡ j) where
  -- the first has another path than one of the rest
  pub apart : (x y : Leaf) (xs : List Leaf) → IsMet live height n P waits Spared reached x
      → IsMet live height n P waits Spared reached y → Contains xs y → IsOnce (x ∷ xs) → path_of x ≡ path_of y → ⊥
  apart x y xs own its here once e =
      let same : x.1.1 ≡ y.1.1 = differ x.1.1 y.1.1 own.within its.within (own.is ∙ e ∙ sym its.is) in
      let more : 0 < times x.1.1 (leaf_numbers xs) =
      subst (λ (i : ℕ). 0 < times i (leaf_numbers xs)) (sym same) (has_number xs y here) in
      omega (arith, more, once x.1.1, times-same x.1.1 (leaf_numbers xs))

  pub paths_differ : (xs : List Leaf) → All (IsMet live height n P waits Spared reached) xs → IsOnce xs
      → AllDiffer (map path_of xs)
  paths_differ [] met once = tt
  paths_differ (x ∷ xs) met once =
      let Met : Leaf → Type 0 = IsMet live height n P waits Spared reached in
      let rest = All-tail Met x xs met in (
        recursion_from_All (λ q. path_of x ≢ q) (map path_of xs)
            (All-map (λ q. path_of x ≢ q) path_of xs
            (λ k d inside e. apart x (get_or xs k d) xs (All-head Met x xs met) (rest k d inside)
            (Contains-get_or xs k d inside) once e)),
        paths_differ xs rest (rest_once x xs once),
      )

-- ---- the last of all

module _ {live : List ℕ → Option ℕ} {height n : ℕ} {P : ℕ → List ℕ} {waits : ℕ → ℕ} {Spared : ℕ → Type 0} {reached : ℕ}
    (differ : (i j : ℕ) → i < n → j < n → P i ≡ P j → i ≡ j) {leaves others : List Leaf} {last : Leaf}
    (is_last : IsLastOf leaves last others) (met : All (IsMet live height n P waits Spared reached) leaves)
    (once : IsOnce leaves) where
  pub last_met : All (IsMet live height n P waits Spared reached) (last ∷ others)
  last_met = All-permutation (IsMet live height n P waits Spared reached) leaves (last ∷ others) is_last.moved met

  pub last_once : IsOnce (last ∷ others)
  last_once = moved_once leaves (last ∷ others) is_last.moved once

  -- each of the others comes before it
  pub before_last : (other : Leaf) → Contains others other → ComesBefore other last
  before_last other here =
      let Met : Leaf → Type 0 = IsMet live height n P waits Spared reached in
      let own = All-head Met last others last_met in
      let its = All-contains Met others other (All-tail Met last others last_met) here in
      Precedes-other last.0 other.0 (path_of last) (path_of other) (own.leads.0 ∙ sym its.leads.0)
      (apart differ last other others own its here last_once)
      (All-contains (λ other. ComesBefore last other → ⊥) others other is_last.last_of here)

-- ---- a leaf more

module _ {live : List ℕ → Option ℕ} {height n most : ℕ} {P : ℕ → List ℕ} {waits : ℕ → ℕ} {reached : ℕ}
    (differ : (i j : ℕ) → i < n → j < n → P i ≡ P j → i ≡ j) {old new : List Leaf} {value entry : ℕ} {path : List ℕ}
    (more : TakesIn most old new value path entry)
    (met : All (IsMet live height n P waits (λ _. ⊥) reached) old)
    (own : IsMet live height n P waits (λ _. ⊥) reached more.leaf)
    (once : IsOnce old) (fresh : times entry (leaf_numbers old) ≡ 0) where
  abbrev Met : Leaf → Type 0
  Met = IsMet live height n P waits (λ _. ⊥) reached

  both_met : All Met (more.leaf ∷ old)
  both_met = All-cons Met more.leaf old own met

  both_once : IsOnce (more.leaf ∷ old)
  both_once i = ⊎_elim
      (λ e.
      let none = subst (λ (j : ℕ). times j (leaf_numbers old) ≡ 0) (sym more.entry_is ∙ e) fresh in
      let one = subst (λ (j : ℕ). times i (j ∷ leaf_numbers old) ≡ 1 + times i (leaf_numbers old)) (sym e)
      (times-same i (leaf_numbers old)) in
      omega (arith, none, one))
      (λ ne. omega (arith, once i, times-other i more.leaf.1.1 (leaf_numbers old) ne))
      (cases_eq more.leaf.1.1 i)

  -- the last was let go
  module _ (go : LetsGo most old more.leaf new) where
    new_full : length new ≡ most
    new_full = omega (arith, go.full, length_permutation (more.leaf ∷ old) (go.last ∷ new) go.is_last.moved)

    before : (other : Leaf) → Contains new other → ComesBefore other go.last
    before = before_last differ go.is_last both_met both_once

    -- it is covered
    gone : (q : List ℕ) (w : ℕ) → path_of go.last ≡ q → go.last.0 ≡ w → Covers most new q w
    gone q w p v = inr (
      new_full,
      subst₂ (λ (r : List ℕ) (u : ℕ). All (λ other. Precedes other.0 (path_of other) u r) new) p v
          (λ k d inside. before (get_or new k d) (Contains-get_or new k d inside)),
    )

    -- what all of the old come before, all of the new do too
    still_before : (q : List ℕ) (w : ℕ) → All (λ leaf. Precedes leaf.0 (path_of leaf) w q) old
        → (other : Leaf) → Contains new other → Precedes other.0 (path_of other) w q
    still_before q w all other here = ⊎_elim
        (λ same. ⊎_elim
        (λ e. absurd (Precedes-self go.last.0 (path_of go.last)
        (subst (λ (x : Leaf). ComesBefore x go.last) (sym e ∙ same) (before other here))))
        (λ inside. All-contains (λ leaf. Precedes leaf.0 (path_of leaf) w q) old other all inside)
        (in_cons more.leaf other old
        (Contains-permutation (go.last ∷ new) (more.leaf ∷ old) other
        (IsPermutation-sym (more.leaf ∷ old) (go.last ∷ new) go.is_last.moved) (contains_rest go.last other new here))))
        (λ inside. Precedes-trans other.0 go.last.0 w (path_of other) (path_of go.last) q (before other here)
        (All-contains (λ leaf. Precedes leaf.0 (path_of leaf) w q) old go.last all inside))
        (in_cons more.leaf go.last old
        (Contains-permutation (go.last ∷ new) (more.leaf ∷ old) go.last
        (IsPermutation-sym (more.leaf ∷ old) (go.last ∷ new) go.is_last.moved) (contains_first go.last new)))

  pub taken_met : All Met new
  taken_met = by more.taken
    where
      by : ((length old < most) × IsPermutation (more.leaf ∷ old) new) ⊎ LetsGo most old more.leaf new → All Met new
      by (inl room) = All-permutation Met (more.leaf ∷ old) new room.1 both_met
      by (inr go) = All-tail Met go.last new (last_met differ go.is_last both_met both_once)

  pub taken_once : IsOnce new
  taken_once = by more.taken
    where
      by : ((length old < most) × IsPermutation (more.leaf ∷ old) new) ⊎ LetsGo most old more.leaf new → IsOnce new
      by (inl room) = moved_once (more.leaf ∷ old) new room.1 both_once
      by (inr go) = rest_once go.last new (last_once differ go.is_last both_met both_once)

  -- a leaf of the old or the new one is covered
  still_covered : (x : Leaf) → Contains (more.leaf ∷ old) x → Covers most new (path_of x) x.0
  still_covered x here = by more.taken
    where
      by : ((length old < most) × IsPermutation (more.leaf ∷ old) new) ⊎ LetsGo most old more.leaf new
          → Covers most new (path_of x) x.0
      by (inl room) = inl (record {
        leaf = x;
        here = Contains-permutation (more.leaf ∷ old) new x room.1 here;
        path_is = refl;
        value_is = refl;
      })
      by (inr go) = ⊎_elim
          (λ e. gone go (path_of x) x.0 (ap path_of e) (ap (λ (y : Leaf). y.0) e))
          (λ inside. inl (record { leaf = x; here = inside; path_is = refl; value_is = refl }))
          (in_cons go.last x new (Contains-permutation (more.leaf ∷ old) (go.last ∷ new) x go.is_last.moved here))

  pub taken_covers : Covers most new path value
  taken_covers = subst₂ (λ (q : List ℕ) (w : ℕ). Covers most new q w) more.path_is more.value_is
      (still_covered more.leaf (contains_first more.leaf old))

  pub taken_keeps : (q : List ℕ) (w : ℕ) → Covers most old q w → Covers most new q w
  taken_keeps q w (inl holds) = subst₂ (λ (r : List ℕ) (u : ℕ). Covers most new r u) holds.path_is holds.value_is
      (still_covered holds.leaf (contains_rest more.leaf holds.leaf old holds.here))
  taken_keeps q w (inr full) = by more.taken
    where
      by : ((length old < most) × IsPermutation (more.leaf ∷ old) new) ⊎ LetsGo most old more.leaf new
          → Covers most new q w
      by (inl room) = absurd (omega (arith, room.0, full.0))
      by (inr go) = inr (
        new_full go,
        λ k d inside. still_before go q w full.1 (get_or new k d) (Contains-get_or new k d inside),
      )

-- ---- at the heap

-- the last is let go
pub let_go : (most size : ℕ) (old mid new : List Leaf) (leaf : Leaf) (popped : Option Leaf) → length old ≤ most
    → size ≡ length mid → most < size → IsPermutation (leaf ∷ old) mid → IsHeap leaf_cmp mid → IfNone popped (size ≡ 0)
    → IfSome popped (λ x. IsPermutation mid (x ∷ new))
    → IfSome popped (λ x. IsHeap leaf_cmp mid → IsUpperBound leaf_cmp x new) → LetsGo most old leaf new
let_go most size old mid new leaf None few sized more pushed heap none moved bound = absurd (omega (arith, more, none))
let_go most size old mid new leaf (Some x) few sized more pushed heap none moved bound = record {
  full = omega (arith, few, sized, more, length_permutation (leaf ∷ old) mid pushed);
  last = x;
  is_last = record {
    moved = IsPermutation-trans (leaf ∷ old) mid (x ∷ new) pushed moved;
    last_of = last_of_bound x new (bound heap);
  };
}
