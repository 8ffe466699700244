-- Which paths are opened, and how many.
use Rattle.std.proofs.Common.{◌≡◌, ◌≢◌, ℕ, ◌+◌, ◌-◌, ◌<◌, ◌≤◌, ◌⊎◌, inl, inr, ⊎_elim, List, [], ◌∷◌, ◌++◌, length, Option, Some, None, IsSomeAnd, is_some, refl, sym, ap, subst, ◌∙◌, arith, append_assoc, append-nil, length-append}
use Rattle.std.proofs.lemmas.List.{append_cancel_left}
use Rattle.std.proofs.lemmas.Bool.{cases_lt}
use Rattle.tree_search.specs.Answer.{IsLeaf, IsBefore, Many, IsLiveBelowRoot, IsOpened}
use Rattle.tree_search.specs.Space.{AreNoBetter, FloorsGrow}
use Rattle.tree_search.specs.Walks.{BeginsWith, IsOpenedFrom, IsOpenedBelow, IsBestBefore, Exactly, HasOpened}
use Rattle.tree_search.proofs.Order.{IsBefore-below, IsBefore-on}
use Rattle.tree_search.proofs.Floors.{child_within, nothing_past, start_live, floor_from, none_from, better}
use Rattle.tree_search.proofs.Counts.{Many-one, Many-by, Many-add, Exactly-none, Exactly-one, Exactly-by, Exactly-add}

-- paths by two children differ
apart : (start : List ℕ) (j k : ℕ) (x y : List ℕ) → j < k → BeginsWith (start ++ j ∷ []) x
    → BeginsWith (start ++ k ∷ []) y → x ≢ y
apart start j k x y less one other same =
    let e = append_cancel_left start (j ∷ one.0) (k ∷ other.0)
    (sym (append_assoc start (j ∷ []) one.0) ∙ sym one.1 ∙ same ∙ other.1 ∙ append_assoc start (k ∷ []) other.0) in
    let f : j ≡ k = cc in
    omega arith

-- a path differs from those below it
not_below : (start : List ℕ) (k : ℕ) (x y : List ℕ) → x ≡ start → BeginsWith (start ++ k ∷ []) y → x ≢ y
not_below start k x y same from e =
    omega (
      arith,
      ap length same,
      ap length e,
      ap length from.1,
      length-append (start ++ k ∷ []) from.0,
      length-append
          start (k ∷ []),
    )

module _ (live : List ℕ → Option ℕ) (height : ℕ) (start : List ℕ) where
  -- one child more
  pub many_more : (k a b n : ℕ) → n ≡ a + b → Many (IsOpenedBelow live height start k) a
      → Many (IsOpenedFrom live height (start ++ k ∷ [])) b →
      Many (IsOpenedBelow live height start (k + 1)) n
  many_more k a b n sum =
      Many-add (IsOpenedBelow live height start k) (IsOpenedFrom live height (start ++ k ∷ []))
      (IsOpenedBelow live height start (k + 1))
      (λ x y below from. apart start below.1.0 k x y below.1.1 below.1.2 from.1)
      (λ x below. (below.0, (below.1.0, omega (arith, below.1.1), below.1.2)))
      (λ x from. (from.0, (k, omega arith, from.1)))
      a b n sum

  pub exactly_more : (k a b n : ℕ) → n ≡ a + b → Exactly (IsOpenedBelow live height start k) a
      → Exactly (IsOpenedFrom live height (start ++ k ∷ [])) b →
      Exactly (IsOpenedBelow live height start (k + 1)) n
  exactly_more k a b n sum =
      Exactly-add (IsOpenedBelow live height start k) (IsOpenedFrom live height (start ++ k ∷ []))
      (IsOpenedBelow live height start (k + 1))
      (λ x y below from. apart start below.1.0 k x y below.1.1 below.1.2 from.1)
      (λ x below. (below.0, (below.1.0, omega (arith, below.1.1), below.1.2)))
      (λ x from. (from.0, (k, omega arith, from.1)))
      (λ x below. ⊎_elim
      (λ less. inl (below.0, (below.1.0, less, below.1.2)))
      (λ more. let same : below.1.0 ≡ k = omega (arith, below.1.1) in
      inr (below.0, subst (λ (j : ℕ). BeginsWith (start ++ j ∷ []) x) same below.1.2))
      (cases_lt below.1.0 k))
      a b n sum

  -- by more children
  pub many_wider : (k w n m : ℕ) → k ≤ w → n ≡ m → Many (IsOpenedBelow live height start k) n
      → Many (IsOpenedBelow live height start w) m
  many_wider k w n m le same =
      Many-by (IsOpenedBelow live height start k) (IsOpenedBelow live height start w)
      (λ x it. (it.0, (it.1.0, omega (arith, it.1.1, le), it.1.2))) n m same

  -- the path itself
  pub many_itself : (n : ℕ) → n ≡ 1 → IsOpened live height start → Many (IsOpenedFrom live height start) n
  many_itself n one is =
      Many-by (IsOpenedFrom live height start) (IsOpenedFrom live height start) (λ x h. h) 1 n (sym one)
      (Many-one (IsOpenedFrom live height start) start (is, ([], sym (append-nil start))))

  itself_from : IsOpened live height start → (x : List ℕ) → x ≡ start → IsOpenedFrom live height start x
  itself_from is x same =
      (subst (λ (y : List ℕ). IsOpened live height y) (sym same) is, ([], same ∙ sym (append-nil start)))

  below_from : (w : ℕ) (x : List ℕ) → IsOpenedBelow live height start w x → IsOpenedFrom live height start x
  below_from w x it = (it.0, (it.1.0 ∷ it.1.2.0, it.1.2.1 ∙ append_assoc start (it.1.0 ∷ []) it.1.2.0))

  -- a path and what is below it
  pub many_from : (w a n : ℕ) → n ≡ 1 + a → IsOpened live height start → Many (IsOpenedBelow live height start w) a
      → Many (IsOpenedFrom live height start) n
  many_from w a n sum is =
      Many-add (λ x. x ≡ start) (IsOpenedBelow live height start w) (IsOpenedFrom live height start)
      (λ x y same it. not_below start it.1.0 x y same it.1.2)
      (itself_from is) (below_from w) 1 a n sum (Many-one (λ x. x ≡ start) start refl)

-- what is below the root is no root
pub many_live : (live : List ℕ → Option ℕ) (height w n : ℕ) → Many (IsOpenedBelow live height [] w) n
    → Many (IsLiveBelowRoot live) n
many_live live height w n = Many-by (IsOpenedBelow live height [] w) (IsLiveBelowRoot live)
    (λ x it. (ap is_some it.0.is_live, it.0.below_root)) n n refl

-- where none is opened, all is left
pub all_left : (Kind : List ℕ → Type 0) (budget : ℕ) → Exactly Kind 0 → HasOpened Kind budget budget
all_left Kind budget none =
    let zero : 0 ≡ budget - budget = omega arith in
    (omega arith, subst (λ (n : ℕ). Exactly Kind n) zero none)

pub many_opened : (live : List ℕ → Option ℕ) (height w n : ℕ) → Many (IsOpenedBelow live height [] w) n
    → Many (IsOpened live height) n
many_opened live height w n = Many-by (IsOpenedBelow live height [] w) (IsOpened live height) (λ x it. it.0) n n refl

module _ {live : List ℕ → Option ℕ} {width : List ℕ → ℕ} {height : ℕ} (grows : FloorsGrow live width height) where
  -- a child that is live and better is opened
  pub opened_child : (start : List ℕ) (k floor : ℕ) (best : Option ℕ) (path : List ℕ) → live (start ++ k ∷ [])
      ≡ Some floor →
      ((v : ℕ) → best ≡ Some v → floor < v) → IsBestBefore live height (start ++ k ∷ []) best path
      → IsOpened live height (start ++ k ∷ [])
  opened_child start k floor best path own lower h = record {
    below_root = λ e. omega (arith, ap length e, length-append start (k ∷ []));
    floor = floor;
    is_live = own;
    lower = better grows (start ++ k ∷ []) best path floor lower h;
  }

  -- nothing is opened from a dead child
  pub none_dead : (start : List ℕ) (n : ℕ) → n ≡ 0 → live start ≡ None → Exactly (IsOpenedFrom live height start) n
  none_dead start n zero dead =
      Exactly-none (IsOpenedFrom live height start) n zero
      (λ x it. none_from grows start x it.0.floor dead it.0.is_live it.1)

  -- nor from one that is no better than a leaf before it
  not_pruned : (start : List ℕ) (floor v : ℕ) (path : List ℕ) → live start ≡ Some floor → v ≤ floor
      → IsLeaf live height path v → IsBefore path start →
      (x : List ℕ) → IsOpenedFrom live height start x → ⊥
  not_pruned start floor v path own no_better leaf before x it =
      let earlier = subst (λ (y : List ℕ). IsBefore path y) (sym it.1.1) (IsBefore-below start it.1.0 path before) in
      omega (
        arith,
        it.0.lower path v leaf earlier,
        no_better,
        floor_from grows start x floor it.0.floor own
            it.0.is_live it.1,
      )

  pub none_pruned : (start : List ℕ) (floor n : ℕ) (best : Option ℕ) (path : List ℕ) → n ≡ 0 → live start ≡ Some floor
      → IsSomeAnd best (λ v. v ≤ floor) →
      IsBestBefore live height start best path → Exactly (IsOpenedFrom live height start) n
  none_pruned start floor n None path zero own no_better h = absurd no_better
  none_pruned start floor n (Some v) path zero own no_better h =
      Exactly-none (IsOpenedFrom live height start) n zero (not_pruned start floor v path own no_better h.leaf h.before)

  -- nor below a leaf
  leaf_alone : (start rest : List ℕ) (floor : ℕ) → length start ≡ height → live (start ++ rest) ≡ Some floor → start
      ++ rest ≡ start
  leaf_alone start [] floor long own = append-nil start
  leaf_alone start (k ∷ rest) floor long own = absurd (nothing_past grows start rest k floor long own)

  pub exactly_leaf : (start : List ℕ) (n : ℕ) → n ≡ 1 → length start ≡ height → IsOpened live height start
      → Exactly (IsOpenedFrom live height start) n
  exactly_leaf start n one long is =
      Exactly-one (IsOpenedFrom live height start) start n one (is, ([], sym (append-nil start)))
      (λ x it. it.1.1 ∙ leaf_alone start it.1.0 it.0.floor long (ap live (sym it.1.1) ∙ it.0.is_live))

  -- nor from children that are dead or no better
  not_passed : (start : List ℕ) (from to : ℕ) (best : Option ℕ) (path : List ℕ) → AreNoBetter live start best from to
      → IsBestBefore live height (start ++ from ∷ []) best path →
      (child : ℕ) → from ≤ child → child < to → (x : List ℕ) → IsOpenedFrom live height (start ++ child ∷ []) x → ⊥
  not_passed start from to None path passed h child low high x it =
      let own = start_live grows (start ++ child ∷ []) x it.0.floor it.0.is_live it.1 in
      passed child own.0 low high own.1
  not_passed start from to (Some v) path passed h child low high x it =
      let own = start_live grows (start ++ child ∷ []) x it.0.floor it.0.is_live it.1 in
      not_pruned (start ++ child ∷ []) own.0 v path own.1 (passed child own.0 low high own.1) h.leaf
      (IsBefore-on start path from child low h.before) x it

  pub exactly_passed : (start : List ℕ) (from to n m : ℕ) (best : Option ℕ) (path : List ℕ) → from ≤ to → n ≡ m
      → AreNoBetter live start best from to →
      IsBestBefore live height (start ++ from ∷ []) best path → Exactly (IsOpenedBelow live height start from) n
      → Exactly (IsOpenedBelow live height start to) m
  exactly_passed start from to n m best path le same passed h =
      Exactly-by (IsOpenedBelow live height start from) (IsOpenedBelow live height start to)
      (λ x it. (it.0, (it.1.0, omega (arith, it.1.1, le), it.1.2)))
      (λ x it. ⊎_elim
      (λ less. (it.0, (it.1.0, less, it.1.2)))
      (λ more. absurd (not_passed start from to best path passed h it.1.0 more it.1.1 x (it.0, it.1.2)))
      (cases_lt it.1.0 from))
      n m same

  -- what goes on from a path is the path, or goes by one of its children
  parts_from : (start rest x : List ℕ) → IsOpened live height x → x ≡ start ++ rest → (x ≡ start)
      ⊎ IsOpenedBelow live height start (width start) x
  parts_from start [] x is from = inl (from ∙ append-nil start)
  parts_from start (k ∷ rest) x is from =
      inr (
        is,
        (
          k,
          child_within grows start rest k is.floor (ap live (sym from) ∙ is.is_live),
          (rest, from ∙ sym (append_assoc start (k ∷ []) rest)),
        ),
      )

  pub exactly_from : (start : List ℕ) (a n : ℕ) → n ≡ 1 + a → IsOpened live height start
      → Exactly (IsOpenedBelow live height start (width start)) a →
      Exactly (IsOpenedFrom live height start) n
  exactly_from start a n sum is =
      Exactly-add (λ x. x ≡ start) (IsOpenedBelow live height start (width start)) (IsOpenedFrom live height start)
      (λ x y same it. not_below start it.1.0 x y same it.1.2)
      (itself_from live height start is) (below_from live height start (width start))
      (λ x it. parts_from start it.1.0 x it.0 it.1.1)
      1 a n sum (Exactly-one (λ x. x ≡ start) start 1 refl refl (λ x same. same))

  -- all that is opened is below the root
  pub exactly_opened : (n : ℕ) → Exactly (IsOpenedBelow live height [] (width [])) n → Exactly (IsOpened live height) n
  exactly_opened n =
      Exactly-by (IsOpenedBelow live height [] (width [])) (IsOpened live height) (λ x it. it.0)
      (λ x is. ⊎_elim (λ root. absurd (is.below_root root)) (λ below. below) (parts_from [] x x is refl)) n n refl

  -- nothing is below a dead root, nor below one that is a leaf
  pub none_opened_dead : live [] ≡ None → Exactly (IsOpened live height) 0
  none_opened_dead dead =
      Exactly-none (IsOpened live height) 0 refl (λ x is. none_from grows [] x is.floor dead is.is_live (x, refl))

  past_leaf : height ≡ 0 → (x : List ℕ) → IsOpened live height x → ⊥
  past_leaf low [] is = is.below_root refl
  past_leaf low (k ∷ rest) is = nothing_past grows [] rest k is.floor (sym low) is.is_live

  pub none_opened_leaf : height ≡ 0 → Exactly (IsOpened live height) 0
  none_opened_leaf low = Exactly-none (IsOpened live height) 0 refl (past_leaf low)
