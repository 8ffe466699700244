-- Checked numbers give floors (`floors_from_numbers`), and floors of several cases do
-- (`floors_from_cases`). A tree whose floors are sharpened by floors keeps the law of floors
-- (`sharpened_grows`) and has the same leaves (`leaf_to_sharpened`, `leaf_from_sharpened`).
use Rattle.std.specs.Prelude.{◌≡◌, ℕ, zero, suc, ◌+◌, ◌-◌, ◌*◌, ◌/◌, ◌<◌, ◌≤◌, ◌++◌, [], ◌∷◌, List, Option, Some, None, IsSome, IsSomeAnd, option_map, max}
use Rattle.std.proofs.Common.{⊎_elim, refl, sym, ap, ap₂, subst, ◌∙◌, arith, append_assoc, append-nil}
use Rattle.std.proofs.Math.Nat.{div-lt_iff_lt-mul}
use Rattle.std.proofs.lemmas.Bool.{cases_lt}
use Rattle.tree_search.specs.Answer.{IsLeaf}
use Rattle.tree_search.specs.Space.{FloorsGrow}
use Rattle.tree_search.proofs.Floors.{live_above}
use Rattle.tree_search.proofs.Trails.{some_of}
use Rattle.floor_graphs.specs.Graphs.{AreChecked, Rate, AreMapped, units_of, sum_at, AreFloors}
use Rattle.floor_graphs.specs.Numbers.{lesser_low-first, lesser_low-second}
use Rattle.floor_graphs.specs.Cases.{least_below, least_of_cases}
use Rattle.floor_graphs.specs.Sharper.{greater, greatest_from, greater_at, sharpened}

-- the greater of two floors, where both are there
pub record IsGreater (one other : Option ℕ) (most : ℕ) : Type 0 where
  pub first : ℕ
  pub second : ℕ
  pub one_is : one ≡ Some first
  pub other_is : other ≡ Some second
  pub greater_is : most ≡ max first second

-- ---- what holds of numbers

pub some_from : (o : Option ℕ) (x : ℕ) → o ≡ Some x → IsSome o
some_from None x h = cc
some_from (Some y) x h = refl

-- the sum before an edge is no higher than behind it
sum_before : (from behind : Option ℕ) (before after cost value : ℕ) → before + cost ≤ after
    → ((x : ℕ) → behind ≡ Some x → IsSomeAnd from (λ own. own ≤ cost + x))
    → IsSomeAnd (option_map (λ own. after + own) behind) (λ floor. floor ≤ value)
    → IsSomeAnd (option_map (λ own. before + own) from) (λ floor. floor ≤ value)
sum_before from None before after cost value paid low h = absurd h
sum_before None (Some x) before after cost value paid low h = absurd (low x refl)
sum_before (Some y) (Some x) before after cost value paid low h = omega (arith, low x refl, paid, h)

-- what is paid at most at the rate is in units no more than the value
units_below : (rate : Rate) → 0 < rate.scale → (paid value : ℕ) (number : Option ℕ)
    → IsSomeAnd (option_map (λ own. paid + own) number) (λ sum. sum ≤ rate.scale * value + rate.debt)
    → IsSomeAnd (option_map (λ own. units_of rate (paid + own)) number) (λ floor. floor ≤ value)
units_below rate some paid value None h = absurd h
units_below rate some paid value (Some own) h =
    let n = paid + own - rate.debt + (rate.scale - 1) in
    let less : n < (value + 1) * rate.scale = omega (arith, h, some) in
    let quotient : n / rate.scale < value + 1 = (div-lt_iff_lt-mul some).1 less in omega (arith, quotient)

-- the least of some cases is no higher than any of them
least_low : (sum : ℕ → Option ℕ) (count k : ℕ) → k < count → (value : ℕ) → IsSomeAnd (sum k) (λ floor. floor ≤ value)
    → IsSomeAnd (least_below sum count) (λ floor. floor ≤ value)
least_low sum zero k within value h = absurd (omega (arith, within))
least_low sum (suc count) k within value h =
    ⊎_elim
    (λ before. lesser_low-first (least_below sum count) (sum count) value (least_low sum count k before value h))
    (λ after.
    let same : k ≡ count = omega (arith, after, within) in
    lesser_low-second (least_below sum count) (sum count) value
    (subst (λ (j : ℕ). IsSomeAnd (sum j) (λ floor. floor ≤ value)) same h))
    (cases_lt k count)

module _ {live : List ℕ → Option ℕ} {height : ℕ} where
  -- no leaf below a path has paid less, at the rate, than the path with its node's number
  paid_below : (rate : Rate) (paid place : List ℕ → ℕ) (edge : ℕ → ℕ → ℕ → Type 0) (is_end : ℕ → Type 0)
      (number : ℕ → Option ℕ) → AreChecked edge is_end number → AreMapped live height rate paid place edge is_end
      → (path rest : List ℕ) (value : ℕ) → IsLeaf live height (path ++ rest) value
      → IsSomeAnd (option_map (λ own. paid path + own) (number (place path)))
      (λ sum. sum ≤ rate.scale * value + rate.debt)
  paid_below rate paid place edge is_end number checked mapped path [] value leaf =
      let here = mapped.leaves path value
      (subst (λ (p : List ℕ). IsLeaf live height p value) (append-nil path) leaf) in
      let at_end : number (place path) ≡ Some 0 = checked.ends (place path) here.0 in
      rw at_end (omega (arith, here.1))
  paid_below rate paid place edge is_end number checked mapped path (k ∷ rest) value leaf =
      let child = path ++ k ∷ [] in
      let same : path ++ k ∷ rest ≡ child ++ rest = sym (append_assoc path (k ∷ []) rest) in
      let below = subst (λ (p : List ℕ). IsLeaf live height p value) same leaf in
      let step = mapped.steps path rest k value below in
      sum_before (number (place path)) (number (place child)) (paid path) (paid child) step.cost
      (rate.scale * value + rate.debt) step.paid
      (λ x is. checked.low (place path) (place child) step.cost x step.is_edge is)
      (paid_below rate paid place edge is_end number checked mapped child rest value below)

  -- what a path has paid with its node's number is a floor that every leaf below reaches
  pub floors_from_numbers : (rate : Rate) → 0 < rate.scale → (paid place : List ℕ → ℕ)
      (edge : ℕ → ℕ → ℕ → Type 0) (is_end : ℕ → Type 0) (number : ℕ → Option ℕ)
      → AreChecked edge is_end number → AreMapped live height rate paid place edge is_end
      → AreFloors live height (sum_at rate paid place number)
  floors_from_numbers rate some paid place edge is_end number checked mapped path rest value leaf =
      units_below rate some (paid path) value (number (place path))
      (paid_below rate paid place edge is_end number checked mapped path rest value leaf)

-- ---- what holds of several trees

-- where each leaf of a tree is one of a case of it, and each case has floors, the least of these
-- are floors of the tree
pub floors_from_cases : (live : List ℕ → Option ℕ) (height count : ℕ) (case sum : ℕ → List ℕ → Option ℕ)
    → ((path : List ℕ) (value : ℕ) → IsLeaf live height path value
    → (k : ℕ) × (k < count) × IsLeaf (case k) height path value)
    → ((k : ℕ) → k < count → AreFloors (case k) height (sum k)) → AreFloors live height (least_of_cases sum count)
floors_from_cases live height count case sum covers floors path rest value leaf =
    let its = covers (path ++ rest) value leaf in
    least_low (λ k. sum k path) count its.0 its.1 value (floors its.0 its.1 path rest value its.2)

-- ---- what holds of sharpened floors

greater_parts : (one other : Option ℕ) (most : ℕ) → greater one other ≡ Some most → IsGreater one other most
greater_parts None other most h = cc
greater_parts (Some x) None most h = cc
greater_parts (Some x) (Some y) most h = record {
  first = x;
  second = y;
  one_is = refl;
  other_is = refl;
  greater_is = cc;
}

greater-associates : (a b c : Option ℕ) → greater a (greater b c) ≡ greater (greater a b) c
greater-associates None b c = refl
greater-associates (Some x) None c = refl
greater-associates (Some x) (Some y) None = refl
greater-associates (Some x) (Some y) (Some z) =
    let e : max x (max y z) ≡ max (max x y) z = omega arith in ap (λ n. Some n) e

-- the second of two floors is the greater where the first is no higher
greater-second : (one other : Option ℕ) (value : ℕ) → IsSomeAnd one (λ x. x ≤ value) → other ≡ Some value
    → greater one other ≡ Some value
greater-second None other value low is = absurd low
greater-second (Some x) None value low is = cc
greater-second (Some x) (Some y) value low is =
    let same : y ≡ value = cc in
    let e : max x y ≡ value = omega (arith, low, same) in ap (λ n. Some n) e

-- the first of two floors is the greater where the second is no higher
greater-first : (one other : Option ℕ) (value : ℕ) → one ≡ Some value → IsSomeAnd other (λ y. y ≤ value)
    → greater one other ≡ Some value
greater-first None other value is low = cc
greater-first (Some x) None value is low = absurd low
greater-first (Some x) (Some y) value is low =
    let same : x ≡ value = cc in
    let e : max x y ≡ value = omega (arith, low, same) in ap (λ n. Some n) e

-- a child's greatest floor is the greater of its parent's and its own
greatest_from-append : (floor : List ℕ → Option ℕ) (start path : List ℕ) (k : ℕ)
    → greatest_from floor start (path ++ k ∷ [])
    ≡ greater (greatest_from floor start path) (floor (start ++ (path ++ k ∷ [])))
greatest_from-append floor start [] k = refl
greatest_from-append floor start (c ∷ path) k =
    ap (greater (floor start)) (greatest_from-append floor (start ++ c ∷ []) path k
    ∙ ap (λ p. greater (greatest_from floor (start ++ c ∷ []) path) (floor p))
    (append_assoc start (c ∷ []) (path ++ k ∷ [])))
    ∙ greater-associates (floor start) (greatest_from floor (start ++ c ∷ []) path)
    (floor (start ++ (c ∷ (path ++ k ∷ []))))

greater-none : (one : Option ℕ) → greater one None ≡ None
greater-none None = refl
greater-none (Some x) = refl

-- a path whose greatest floor is there has one of its own, which is no higher
own_from : (floor : List ℕ → Option ℕ) (start path : List ℕ) (most : ℕ) → greatest_from floor start path ≡ Some most
    → (own : ℕ) × (floor (start ++ path) ≡ Some own) × (own ≤ most)
own_from floor start [] most h = (most, ap floor (append-nil start) ∙ h, omega arith)
own_from floor start (c ∷ path) most h =
    let parts = greater_parts (floor start) (greatest_from floor (start ++ c ∷ []) path) most h in
    let own = own_from floor (start ++ c ∷ []) path parts.second parts.other_is in (
      own.0,
      sym (ap floor (append_assoc start (c ∷ []) path)) ∙ own.1,
      omega (arith, parts.greater_is, own.2),
    )

module _ (live sum : List ℕ → Option ℕ) where
  pub sharpened-append : (path : List ℕ) (k : ℕ) → sharpened live sum (path ++ k ∷ [])
      ≡ greater (sharpened live sum path) (greater_at live sum (path ++ k ∷ []))
  sharpened-append path k = greatest_from-append (greater_at live sum) [] path k

  -- a child is dead where it is dead in the tree
  pub dead_in_tree : (path : List ℕ) (k : ℕ) → live (path ++ k ∷ []) ≡ None → sharpened live sum (path ++ k ∷ []) ≡ None
  dead_in_tree path k dead =
      sharpened-append path k ∙ ap (λ own. greater (sharpened live sum path) (greater own (sum (path ++ k ∷ [])))) dead
      ∙ greater-none (sharpened live sum path)

  -- and where it has no sum
  pub dead_by_sum : (path : List ℕ) (k : ℕ) → sum (path ++ k ∷ []) ≡ None → sharpened live sum (path ++ k ∷ []) ≡ None
  dead_by_sum path k dead =
      sharpened-append path k
      ∙ ap (λ own. greater (sharpened live sum path) (greater (live (path ++ k ∷ [])) own)) dead
      ∙ ap (greater (sharpened live sum path)) (greater-none (live (path ++ k ∷ [])))
      ∙ greater-none (sharpened live sum path)

  -- else its floor is the greatest of its parent's and its own two
  pub floor_of_child : (path : List ℕ) (k before own its_sum most : ℕ) → sharpened live sum path ≡ Some before
      → live (path ++ k ∷ []) ≡ Some own → sum (path ++ k ∷ []) ≡ Some its_sum → most ≡ max (max before own) its_sum
      → sharpened live sum (path ++ k ∷ []) ≡ Some most
  floor_of_child path k before own its_sum most at is sum_is e =
      let same : max before (max own its_sum) ≡ most = omega (arith, e) in
      sharpened-append path k
      ∙ ap₂ greater at (ap₂ greater is sum_is) ∙ ap (λ n. Some n) same

  -- the root's floor is the greater of its two
  pub floor_of_root : (own its_sum most : ℕ) → live [] ≡ Some own → sum [] ≡ Some its_sum → most ≡ max own its_sum
      → sharpened live sum [] ≡ Some most
  floor_of_root own its_sum most is sum_is e = ap₂ greater is sum_is ∙ ap (λ n. Some n) (sym e)

  -- what is live in the sharpened tree is live in the tree, and its floor there is no higher
  pub live_from_sharpened : (path : List ℕ) (floor : ℕ) → sharpened live sum path ≡ Some floor
      → (own : ℕ) × (live path ≡ Some own) × (own ≤ floor)
  live_from_sharpened path floor h =
      let own = own_from (greater_at live sum) [] path floor h in
      let parts = greater_parts (live path) (sum path) own.0 own.1 in
      (parts.first, parts.one_is, omega (arith, parts.greater_is, own.2))

  pub tree_from_sharpened : (path : List ℕ) → IsSome (sharpened live sum path) → IsSome (live path)
  tree_from_sharpened path is =
      let floor = some_of (sharpened live sum path) is in
      let own = live_from_sharpened path floor.0 floor.1 in some_from (live path) own.0 own.1

module _ (live sum : List ℕ → Option ℕ) (width : List ℕ → ℕ) (height : ℕ) (grows : FloorsGrow live width height) where
  -- the law of the sharpened tree
  pub sharpened_grows : FloorsGrow (sharpened live sum) width height
  sharpened_grows path child floor h =
      let grown = greater_parts (sharpened live sum path) (greater_at live sum (path ++ child ∷ [])) floor
      (sym (sharpened-append live sum path child) ∙ h) in
      let own = greater_parts (live (path ++ child ∷ [])) (sum (path ++ child ∷ [])) grown.second grown.other_is in
      let parent = grows path child own.first own.one_is in
      record {
        own_floor = grown.first;
        is_live = grown.one_is;
        no_higher = omega (arith, grown.greater_is);
        within = parent.within;
        above = parent.above;
      }

  -- no leaf below a path has a lower value than the path's own floor and its sum
  own_low : AreFloors live height sum → (start rest : List ℕ) (value : ℕ) → IsLeaf live height (start ++ rest) value
      → IsSomeAnd (greater_at live sum start) (λ floor. floor ≤ value)
  own_low floors start rest value leaf =
      let above = live_above grows rest start value leaf.1 in
      both (live start) (sum start) above.0 above.1 above.2 (floors start rest value leaf)
    where
      both : (one other : Option ℕ) (own : ℕ) → one ≡ Some own → own ≤ value → IsSomeAnd other (λ floor. floor ≤ value)
          → IsSomeAnd (greater one other) (λ floor. floor ≤ value)
      both None other own is low h = cc
      both (Some x) None own is low h = absurd h
      both (Some x) (Some y) own is low h = let same : x ≡ own = cc in omega (arith, low, h, same)

  leaf_reached : AreFloors live height sum → (start rest : List ℕ) (value : ℕ)
      → IsLeaf live height (start ++ rest) value → greatest_from (greater_at live sum) start rest ≡ Some value
  leaf_reached floors start [] value leaf =
      greater-first (live start) (sum start) value (ap live (sym (append-nil start)) ∙ leaf.1)
      (floors start [] value leaf)
  leaf_reached floors start (k ∷ rest) value leaf =
      greater-second (greater_at live sum start) (greatest_from (greater_at live sum) (start ++ k ∷ []) rest) value
      (own_low floors start (k ∷ rest) value leaf)
      (leaf_reached floors (start ++ k ∷ []) rest value
      (subst (λ (p : List ℕ). IsLeaf live height p value) (sym (append_assoc start (k ∷ []) rest)) leaf))

  -- each leaf of the tree is one of the sharpened tree, of the same value
  pub leaf_to_sharpened : AreFloors live height sum → (path : List ℕ) (value : ℕ) → IsLeaf live height path value
      → IsLeaf (sharpened live sum) height path value
  leaf_to_sharpened floors path value leaf = (leaf.0, leaf_reached floors [] path value leaf)

  -- each leaf of the sharpened tree is one of the tree, of the same value
  pub leaf_from_sharpened : AreFloors live height sum → (path : List ℕ) (value : ℕ)
      → IsLeaf (sharpened live sum) height path value → IsLeaf live height path value
  leaf_from_sharpened floors path value leaf =
      let own = live_from_sharpened live sum path value leaf.1 in
      let other = leaf_to_sharpened floors path own.0 (leaf.0, own.1) in
      let same : own.0 ≡ value = let e = sym other.1 ∙ leaf.1 in cc in
      (leaf.0, own.1 ∙ ap (λ n. Some n) same)
