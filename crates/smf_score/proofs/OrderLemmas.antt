-- Notes have one order (`one_order`).
use Rattle.std.proofs.Common.{◌≡◌, ℕ, suc, ◌+◌, ◌≤◌, Bool, true, false, List, [], ◌∷◌, get_or, refl, sym, ◌∙◌, ap, arith, cond, subst}
use Rattle.std.specs.Prelude.{All, filter}
use Rattle.std.specs.Cmp.{IsStrictWeakOrder, on_total, then_total}
use Rattle.std.specs.List.Sorted.{IsSortedBy, ties}
use Rattle.std.proofs.lemmas.Bool.Decides.{nat_tests}
use Rattle.std.proofs.lemmas.Cmp.{nat_cmp_total}
use Rattle.std.proofs.lemmas.List.Elements.{All-filter, All-head}
use Rattle.std.proofs.lemmas.List.MinMax.{ranks_by}
use Rattle.std.proofs.lemmas.List.Sorted.{sorted_far}
use Rattle.smf_score.specs.declared.played.Played.{Played}
use Rattle.smf_score.specs.Order.{IsInOrder, is_before}

-- which note is before which is an order in which any two compare
before_order : IsStrictWeakOrder is_before
before_order =
    ranks_by (then_total (on_total (λ (n : ℕ × ℕ). n.0) nat_cmp_total) (on_total (λ (n : ℕ × ℕ). n.1) nat_cmp_total))
    (λ (note : Played). (note.rank, note.start))

not_own : (a : Played) → is_before a a ≡ false
not_own a = at (is_before a a) refl
  where
    at : (t : Bool) → is_before a a ≡ t → t ≡ false
    at false e = refl
    at true e = let other = before_order.one_way a a e in absurd cc

-- a note isn't before another of no higher voice, of the same voice if it doesn't start earlier
pub not_before_from : (a b : Played) → b.rank ≤ a.rank → (b.rank ≡ a.rank → b.start ≤ a.start) → is_before a b ≡ false
not_before_from a b higher late = grind (arith, nat_tests)

abbrev Sorted : List Played → Type 0
Sorted xs = IsSortedBy is_before xs

sorted_tail : (x : Played) (xs : List Played) → Sorted (x ∷ xs) → Sorted xs
sorted_tail x xs sorted k d from within =
    let next : suc (k + 1) ≡ suc k + 1 = omega arith in
    ap (λ n. is_before (get_or (x ∷ xs) n d) (get_or xs k d)) next ∙ sorted (suc k) d (omega arith) (omega arith)

ties_own : (x : Played) → ties is_before x x ≡ true
ties_own x = rw (not_own x) refl

abbrev SameTies : List Played → List Played → Type 0
SameTies xs ys = (x : Played) → filter (ties is_before x) xs ≡ filter (ties is_before x) ys

-- a first note isn't before another first note
not_first : (x y : Played) (xs ys : List Played) → Sorted (y ∷ ys) → SameTies (x ∷ xs) (y ∷ ys) → is_before x y ≡ false
not_first x y xs ys sorted same =
    let own : filter (ties is_before x) (y ∷ ys) ≡ x ∷ filter (ties is_before x) xs = sym (same x) ∙ rw (ties_own x) refl in
    let Late : Played → Type 0 = λ z. is_before z y ≡ false in
    All-head Late x (filter (ties is_before x) xs) (subst (All Late) own (All-filter (ties is_before x) Late (y ∷ ys)
    (λ i d within. sorted_far is_before before_order (y ∷ ys) sorted 0 i d (omega arith) within)))

same_order : (xs ys : List Played) → Sorted xs → Sorted ys → SameTies xs ys → xs ≡ ys
same_order [] [] a b same = refl
same_order [] (y ∷ ys) a b same =
    let some : [] ≡ y ∷ filter (ties is_before y) ys = same y ∙ rw (ties_own y) refl in
    absurd cc
same_order (x ∷ xs) [] a b same =
    let some : x ∷ filter (ties is_before x) xs ≡ [] = sym (rw (ties_own x) refl) ∙ same x in
    absurd cc
same_order (x ∷ xs) (y ∷ ys) a b same =
    let first = not_first x y xs ys b same in
    let second = not_first y x ys xs a (λ w. sym (same w)) in
    let tied : ties is_before x y ≡ true = rw (first, second) refl in
    let cons : x ∷ filter (ties is_before x) xs ≡ y ∷ filter (ties is_before x) ys =
    sym (rw (ties_own x) refl) ∙ same x ∙ rw tied refl in
    let equal : x ≡ y = cc in
    let rest = same_order xs ys (sorted_tail x xs a) (sorted_tail y ys b)
    (λ w. behind (ties is_before w x) x _ _
    (same w ∙ ap (λ (z : Played). filter (ties is_before w) (z ∷ ys)) (sym equal))) in
    ap (λ (z : Played). z ∷ xs) equal ∙ ap (λ (zs : List Played). y ∷ zs) rest
  where
    behind : (t : Bool) (z : Played) (xs ys : List Played) → cond t (z ∷ xs) xs ≡ cond t (z ∷ ys) ys → xs ≡ ys
    behind true z xs ys e = cc
    behind false z xs ys e = e

-- notes have one order
pub one_order : (notes a b : List Played) → IsInOrder notes a → IsInOrder notes b → a ≡ b
one_order notes a b first second =
    same_order a b first.sorted second.sorted (λ x. first.stable x ∙ sym (second.stable x))
