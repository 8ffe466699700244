-- What the law of floors gives, and how the best leaf so far is kept.
use Rattle.std.proofs.Common.{◌≡◌, ℕ, ◌+◌, ◌<◌, ◌≤◌, ⊎_elim, List, [], ◌∷◌, ◌++◌, length, Option, Some, None, IsSomeAnd, refl, sym, ap, subst, ◌∙◌, arith, append_assoc, append-nil, length-append}
use Rattle.tree_search.specs.Answer.{IsLeaf, IsBefore, HasNoLeaf, IsFirstLeast}
use Rattle.tree_search.specs.Space.{AreNoBetter, FloorsGrow}
use Rattle.tree_search.specs.Walks.{BeginsWith, IsBest, IsBestBefore}
use Rattle.tree_search.proofs.Order.{IsBefore-later, IsBefore-next, IsBefore-from, IsBefore-below, IsBefore-first, IsBefore-on, IsBefore-up}

module _ {live : List ℕ → Option ℕ} {width : List ℕ → ℕ} {height : ℕ} (grows : FloorsGrow live width height) where
  -- what is above a live path is live, and its floor no higher
  pub live_above : (rest start : List ℕ) (floor : ℕ) → live (start ++ rest) ≡ Some floor → (own : ℕ)
      × (live start ≡ Some own) × (own ≤ floor)
  live_above [] start floor h = (floor, ap live (sym (append-nil start)) ∙ h, omega arith)
  live_above (k ∷ rest) start floor h =
      let below = live_above rest (start ++ k ∷ []) floor (ap live (append_assoc start (k ∷ []) rest) ∙ h) in
      let parent = grows start k below.0 below.1 in
      (parent.own_floor, parent.is_live, omega (arith, parent.no_higher, below.2))

  -- a live path goes on by a child that is there
  pub child_within : (start rest : List ℕ) (k floor : ℕ) → live (start ++ k ∷ rest) ≡ Some floor → k < width start
  child_within start rest k floor h =
      let below = live_above rest (start ++ k ∷ []) floor (ap live (append_assoc start (k ∷ []) rest) ∙ h) in
      (grows start k below.0 below.1).within

  -- a live path is no longer than the height
  pub nothing_past : (start rest : List ℕ) (k floor : ℕ) → length start ≡ height → live (start ++ k ∷ rest) ≡ Some floor
      → ⊥
  nothing_past start rest k floor long h =
      let below = live_above rest (start ++ k ∷ []) floor (ap live (append_assoc start (k ∷ []) rest) ∙ h) in
      omega (arith, (grows start k below.0 below.1).above)

  -- a path from which a live one goes on is live, and its floor no higher
  pub start_live : (start other : List ℕ) (floor : ℕ) → live other ≡ Some floor → BeginsWith start other → (own : ℕ)
      × (live start ≡ Some own) × (own ≤ floor)
  start_live start other floor its from = live_above from.0 start floor (ap live (sym from.1) ∙ its)

  -- what is from a path has no lower floor
  pub floor_from : (start other : List ℕ) (floor its_floor : ℕ) → live start ≡ Some floor → live other ≡ Some its_floor
      → BeginsWith start other → floor ≤ its_floor
  floor_from start other floor its_floor own its from =
      let above = start_live start other its_floor its from in
      let same : floor ≡ above.0 = let e = sym own ∙ above.1 in cc in
      omega (arith, above.2)

  -- nothing is from a dead path
  pub none_from : (start other : List ℕ) (value : ℕ) → live start ≡ None → live other ≡ Some value
      → BeginsWith start other → ⊥
  none_from start other value dead its from =
      let above = start_live start other value its from in
      let e = sym dead ∙ above.1 in cc

  -- the same leaves are before
  best_moves : (bound next : List ℕ) (best : Option ℕ) (path : List ℕ) →
      ((other : List ℕ) (value : ℕ) → IsLeaf live height other value → IsBefore other next → IsBefore other bound) →
      ((other : List ℕ) → IsBefore other bound → IsBefore other next) →
      IsBestBefore live height bound best path → IsBestBefore live height next best path
  best_moves bound next None path back on h =
      λ other value leaf before. h other value leaf (back other value leaf before)
  best_moves bound next (Some v) path back on h = record {
    leaf = h.leaf;
    before = on path h.before;
    least = λ other value leaf before. h.least other value leaf (back other value leaf before);
    first = h.first;
  }

  -- into the first child
  pub best_first : (start : List ℕ) (best : Option ℕ) (path : List ℕ) → length start < height →
      IsBestBefore live height start best path → IsBestBefore live height (start ++ 0 ∷ []) best path
  best_first start best path above =
      best_moves start (start ++ 0 ∷ []) best path
      (λ other value leaf before. ⊎_elim (λ h. h) (λ short. absurd (omega (arith, leaf.0)))
      (IsBefore-first start other before))
      (λ other before. IsBefore-below start (0 ∷ []) other before)

  -- past children that are dead or no better
  pub best_passed : (start : List ℕ) (from to : ℕ) (best : Option ℕ) (path : List ℕ) → from ≤ to
      → AreNoBetter live start best from to →
      IsBestBefore live height (start ++ from ∷ []) best path → IsBestBefore live height (start ++ to ∷ []) best path
  best_passed start from to None path le passed h = λ other value leaf before. ⊎_elim (h other value leaf)
      (λ by. let child = start_live (start ++ by.0 ∷ []) other value leaf.1 by.3 in
      passed by.0 child.0 by.1 by.2 child.1)
      (IsBefore-later start other from to before)
  best_passed start from to (Some v) path le passed h = record {
    leaf = h.leaf;
    before = IsBefore-on start path from to le h.before;
    least = λ other value leaf before. ⊎_elim (h.least other value leaf)
        (λ by. let child = start_live (start ++ by.0 ∷ []) other value leaf.1 by.3 in
        omega (arith, passed by.0 child.0 by.1 by.2 child.1, child.2))
        (IsBefore-later start other from to before);
    first = h.first;
  }

  -- a leaf below is before the end of the children
  pub leaf_seen : (start other : List ℕ) (value : ℕ) → length start < height → IsLeaf live height other value
      → BeginsWith start other → IsBefore other (start ++ width start ∷ [])
  leaf_seen start other value above leaf ([], is) = absurd (omega (arith, leaf.0, ap length is, length-append start []))
  leaf_seen start other value above leaf (j ∷ rest, is) =
      IsBefore-from start other j (width start) (child_within start rest j value (ap live (sym is) ∙ leaf.1))
      (rest, is ∙ sym (append_assoc start (j ∷ []) rest))

  -- past the last child of the root
  pub all_seen_none : (path : List ℕ) → 0 < height → IsBestBefore live height (width [] ∷ []) None path
      → HasNoLeaf live height
  all_seen_none path above h other value leaf = h other value leaf (leaf_seen [] other value above leaf (other, refl))

  pub all_seen_some : (path : List ℕ) (v : ℕ) → 0 < height → IsBestBefore live height (width [] ∷ []) (Some v) path
      → IsFirstLeast live height path v
  all_seen_some path v above h = record {
    leaf = h.leaf;
    least = λ other value leaf. h.least other value leaf (leaf_seen [] other value above leaf (other, refl));
    first = h.first;
  }

  -- past a child all below which was seen
  pub best_up : (start : List ℕ) (k : ℕ) (best : Option ℕ) (path : List ℕ) → length (start ++ k ∷ []) < height →
      IsBestBefore live height ((start ++ k ∷ []) ++ width (start ++ k ∷ []) ∷ []) best path →
      IsBestBefore live height (start ++ (k + 1) ∷ []) best path
  best_up start k best path above =
      let child = start ++ k ∷ [] in
      best_moves (child ++ width child ∷ []) (start ++ (k + 1) ∷ []) best path
      (λ other value leaf before. ⊎_elim (λ h. IsBefore-below child (width child ∷ []) other h)
      (λ from. leaf_seen child other value above leaf from) (IsBefore-next start other k before))
      (λ other before. IsBefore-up start (width child ∷ []) other k before)

  -- past one such child
  best_one : (start : List ℕ) (k : ℕ) (best : Option ℕ) (path : List ℕ)
      → ((floor : ℕ) → live (start ++ k ∷ []) ≡ Some floor → IsSomeAnd best (λ v. v ≤ floor)) →
      IsBestBefore live height (start ++ k ∷ []) best path → IsBestBefore live height (start ++ (k + 1) ∷ []) best path
  best_one start k best path passed =
      best_passed start k (k + 1) best path (omega arith)
      (λ child floor low high own. let same : child ≡ k = omega (arith, low, high) in
      passed floor (ap (λ (j : ℕ). live (start ++ j ∷ [])) (sym same) ∙ own))

  pub best_dead : (start : List ℕ) (k : ℕ) (best : Option ℕ) (path : List ℕ) → live (start ++ k ∷ []) ≡ None →
      IsBestBefore live height (start ++ k ∷ []) best path → IsBestBefore live height (start ++ (k + 1) ∷ []) best path
  best_dead start k best path dead = best_one start k best path (λ floor own. let e = sym dead ∙ own in cc)

  pub best_pruned : (start : List ℕ) (k floor : ℕ) (best : Option ℕ) (path : List ℕ) → live (start ++ k ∷ [])
      ≡ Some floor → IsSomeAnd best (λ v. v ≤ floor) →
      IsBestBefore live height (start ++ k ∷ []) best path → IsBestBefore live height (start ++ (k + 1) ∷ []) best path
  best_pruned start k floor best path own no_better =
      best_one start k best path
      (λ its_floor its. let same : floor ≡ its_floor = let e = sym own ∙ its in cc in
      subst (λ (f : ℕ). IsSomeAnd best (λ v. v ≤ f)) same no_better)

  -- a leaf's value is below those before it
  pub better : (bound : List ℕ) (best : Option ℕ) (path : List ℕ) (floor : ℕ) → ((v : ℕ) → best ≡ Some v → floor < v) →
      IsBestBefore live height bound best path → (other : List ℕ) (value : ℕ) → IsLeaf live height other value
      → IsBefore other bound → floor < value
  better bound None path floor lower h other value leaf before = absurd (h other value leaf before)
  better bound (Some v) path floor lower h other value leaf before =
      omega (arith, lower v refl, h.least other value leaf before)

  -- past a leaf that is better
  best_leaf : (start : List ℕ) (k floor : ℕ) (best : Option ℕ) (path : List ℕ) → length (start ++ k ∷ []) ≡ height
      → live (start ++ k ∷ []) ≡ Some floor →
      ((v : ℕ) → best ≡ Some v → floor < v) → IsBestBefore live height (start ++ k ∷ []) best path →
      IsBest live height (start ++ (k + 1) ∷ []) (start ++ k ∷ []) floor
  best_leaf start k floor best path long own lower h =
      let child = start ++ k ∷ [] in
      record {
        leaf = (long, own);
        before = IsBefore-from start child k (k + 1) (omega arith) ([], sym (append-nil child));
        least = λ other value leaf before. ⊎_elim
            (λ earlier. let less = better child best path floor lower h other value leaf earlier in omega (arith, less))
            (λ from. floor_from child other floor value own leaf.1 from)
            (IsBefore-next start other k before);
        first = λ other leaf before. let less = better child best path floor lower h other floor leaf before in
            omega (arith, less);
      }

  -- the same, of a copy of its path
  pub best_leaf_at : (start : List ℕ) (k floor : ℕ) (best : Option ℕ) (path copy : List ℕ) → copy ≡ start ++ k ∷ []
      → length (start ++ k ∷ []) ≡ height → live (start ++ k ∷ []) ≡ Some floor →
      ((v : ℕ) → best ≡ Some v → floor < v) → IsBestBefore live height (start ++ k ∷ []) best path →
      IsBestBefore live height (start ++ (k + 1) ∷ []) (Some floor) copy
  best_leaf_at start k floor best path copy same long own lower h =
      subst (λ (other : List ℕ). IsBest live height (start ++ (k + 1) ∷ []) other floor) (sym same)
      (best_leaf start k floor best path long own lower h)
