-- A node's number is the least sum of what is left from what is kept at its spot on
-- (`sum` of `PathSums`).
use Rattle.std.proofs.Common.{◌≡◌, ℕ, zero, suc, ◌+◌, ◌-◌, ◌*◌, ◌<◌, ◌≤◌, ◌==◌, ◌&&◌, ◌||◌, nat_lt, ◌⊎◌, inl, inr, Bool, true, false, List, Option, Some, None, option_map, option_and_then, length, refl, sym, ap, ap₂, subst, ◌∙◌, arith, slice_get, if◌then◌else◌}
use Rattle.std.specs.Prelude.{IsSomeAnd, min}
use Rattle.std.proofs.lemmas.Bool.{eq-eqb}
use Rattle.std.proofs.lemmas.Bool.Decides.{nat_tests}
use Rattle.std.proofs.lemmas.Option.{slice_get_within}
use Rattle.floor_graphs.specs.Cases.{least_below}
use Rattle.floor_graphs.specs.Numbers.{AreLeast, IsLeastBelow, IsNumber, Step, lesser_of, number_in, sum_behind}
use Rattle.priced_paths.specs.declared.web.Edge.{Edge}
use Rattle.priced_paths.specs.declared.web.Spot.{Spot}
use Rattle.priced_paths.specs.declared.web.TheConstants.{MOST_COST}
use Rattle.priced_paths.specs.declared.web.Web.{Web}
use Rattle.priced_paths.specs.CaseGraphs.{Case, case_edge, case_ends, case_width, charged_edge, edge_by, is_reached, node_at, nodes_of, spot_of}
use Rattle.priced_paths.specs.Tolls.{sum_of}
use Rattle.priced_paths.specs.Webs.{IsEdgeOf, IsWeb, depth_in, edge_in, labels_in, labels_or}
use Rattle.priced_paths.proofs.Mapped.{node_parts}
use Rattle.priced_paths.proofs.Spots.{depth-of, edge-within}
use Rattle.priced_paths.specs.LeastRests.{Breadth, Steps, least_rest, sum_through, through}
use Rattle.priced_paths.proofs.RestLaws.{least_low}

-- ---- least sums

-- what is no higher than a number of two has
lesser_reached : (one other : Option ℕ) (m : ℕ) → lesser_of one other ≡ Some m → (one ≡ Some m) ⊎ (other ≡ Some m)
lesser_reached None other m e = inr e
lesser_reached (Some x) None m e = inl e
lesser_reached (Some x) (Some y) m e = at (nat_lt x y) refl
  where
    same : min x y ≡ m
    same = cc

    at : (b : Bool) → nat_lt x y ≡ b → (Some x ≡ Some m) ⊎ (Some y ≡ Some m)
    at true f =
        let less : x < y = grind (arith, nat_tests) in
        let it : x ≡ m = omega (arith, less, same) in
        inl (ap (λ n. Some n) it)
    at false f =
        let more : y ≤ x = grind (arith, nat_tests) in
        let it : y ≡ m = omega (arith, more, same) in
        inr (ap (λ n. Some n) it)

least_reached : (sum : ℕ → Option ℕ) (count m : ℕ) → least_below sum count ≡ Some m
    → (k : ℕ) × (k < count) × (sum k ≡ Some m)
least_reached sum zero m e = cc
least_reached sum (suc count) m e =
    at (lesser_reached (least_below sum count) (sum count) m e) (λ f. least_reached sum count m f)
  where
    at : (least_below sum count ≡ Some m) ⊎ (sum count ≡ Some m)
        → (least_below sum count ≡ Some m → (k : ℕ) × (k < count) × (sum k ≡ Some m))
        → (k : ℕ) × (k < suc count) × (sum k ≡ Some m)
    at (inl f) before = let its = before f in (its.0, omega (arith, its.1), its.2)
    at (inr f) before = (count, omega arith, f)

-- what has a number is no higher than it
at_most : (o : Option ℕ) (x : ℕ) → o ≡ Some x → IsSomeAnd o (λ n. n ≤ x)
at_most None x e = cc
at_most (Some y) x e = let same : y ≡ x = cc in omega (arith, same)

-- the least of the sums that labels have is the least of them all
least_is : (sum : ℕ → Option ℕ) (count : ℕ) (own : Option ℕ) → IsLeastBelow sum count own → own ≡ least_below sum count
least_is sum count own its = at own (least_below sum count) refl refl
  where
    both : (a b : Option ℕ) (x y : ℕ) → a ≡ Some x → b ≡ Some y → IsSomeAnd a (λ n. n ≤ y) → IsSomeAnd b (λ n. n ≤ x)
        → a ≡ b
    both None b x y e f low high = cc
    both (Some n) None x y e f low high = cc
    both (Some n) (Some m) x y e f low high =
        let one : n ≡ x = cc in
        let two : m ≡ y = cc in
        let it : n ≡ m = omega (arith, low, high, one, two) in
        ap (λ k. Some k) it

    never : (o : Option ℕ) (x : ℕ) → o ≡ None → IsSomeAnd o (λ n. n ≤ x) → ⊥
    never None x e h = h
    never (Some n) x e h = cc

    at : (a b : Option ℕ) → own ≡ a → least_below sum count ≡ b → own ≡ least_below sum count
    at None None e f = e ∙ sym f
    at (Some x) None e f =
        let found = its.reached x e in
        absurd (never (least_below sum count) x f
        (least_low sum count found.0 found.1 x (at_most (sum found.0) x found.2)))
    at None (Some y) e f =
        let found = least_reached sum count y f in
        absurd (never own y e (its.low found.0 y found.1 found.2))
    at (Some x) (Some y) e f =
        let one = its.reached x e in
        let two = least_reached sum count y f in
        both own (least_below sum count) x y e f (its.low two.0 y two.1 two.2)
        (least_low sum count one.0 one.1 x (at_most (sum one.0) x one.2))

-- sums that are the same have the same least one
pub least_same : (sum other : ℕ → Option ℕ) (count : ℕ) → ((k : ℕ) → k < count → sum k ≡ other k)
    → least_below sum count ≡ least_below other count
least_same sum other zero same = refl
least_same sum other (suc count) same =
    ap₂ lesser_of (least_same sum other count (λ k within. same k (omega (arith, within)))) (same count (omega arith))

-- ---- a spot

-- what is behind an edge that is charged is what is behind its step
charged_sum : (scale cost toll capped : ℕ) (rest : Option ℕ) → cost ≡ capped
    → option_map (λ behind. (scale * cost + toll) + behind) rest ≡ option_map (λ sum. scale * capped + sum) (sum_of (Some toll) rest)
charged_sum scale cost toll capped None e = refl
charged_sum scale cost toll capped (Some r) e =
    let scaled : scale * cost ≡ scale * capped = ap (λ n. scale * n) e in
    let all : (scale * cost + toll) + r ≡ scale * capped + (toll + r) = omega (arith, scaled) in
    ap (λ n. Some n) all

module _ {K : Type 0} (start : K) (height : ℕ) (breadth : Breadth) (step : Steps K) (web : Web K)
    (h : IsWeb start height breadth step web) (case : Case) (numbers : List (Option ℕ))
    (least : AreLeast (case_edge web case) (case_width web) (case_ends web height) (nodes_of web) numbers) where
  abbrev count : ℕ
  count = length web.spots.items

  -- the numbers at the spots of a depth are these
  abbrev AreRests : ℕ → Type 0
  AreRests left =
      (at : ℕ) (spot : Spot K) (reached : Bool) → slice_get web.spots.items at ≡ Some spot → spot.depth + left ≡ height
      → number_in numbers (node_at count at reached) ≡ least_rest breadth step case left spot.depth spot.kept reached

  -- what is known of a spot's node
  record IsNodeAt (at : ℕ) (spot : Spot K) (reached : Bool) : Type 0 where
    number : IsNumber (reached && (spot.depth == height)) (λ label. edge_by web case spot.depth at reached label) spot.labels
        (number_in numbers) (number_in numbers (node_at count at reached))

  node_known : (at : ℕ) (spot : Spot K) (reached : Bool) → slice_get web.spots.items at ≡ Some spot
      → IsNodeAt at spot reached
  node_known at spot reached is =
      let node = node_at count at reached in
      let parts = node_parts count at reached (slice_get_within web.spots.items at spot is) in
      let inside = parts.within in
      let test : nat_lt node (nodes_of web) ≡ true = grind (arith, nat_tests) in
      let deep : depth_in web at ≡ spot.depth = depth-of web at spot is in
      let edges : case_edge web case node ≡ (λ label. edge_by web case spot.depth at reached label) =
      ap (λ (b : Bool). λ (label : ℕ). if b then edge_by web case (depth_in web (spot_of count node)) (spot_of count node)
      (is_reached count node) label else None) test
      ∙ ap (λ (s : ℕ). λ (label : ℕ). edge_by web case (depth_in web s) s (is_reached count node) label) parts.back
      ∙ ap (λ (b : Bool). λ (label : ℕ). edge_by web case (depth_in web at) at b label) parts.same
      ∙ ap (λ (d : ℕ). λ (label : ℕ). edge_by web case d at reached label) deep in
      let width : case_width web node ≡ spot.labels = ap (labels_in web) parts.back ∙ ap labels_or is in
      let ends : case_ends web height node ≡ (reached && (spot.depth == height)) =
      ap₂ (λ b s. b && (depth_in web s == height)) parts.same parts.back ∙ ap (λ d. reached && (d == height)) deep in
      let own = least.each node inside in
      let first : IsNumber (reached && (spot.depth == height)) (case_edge web case node) (case_width web node)
      (number_in numbers) (number_in numbers node) = subst (λ (b : Bool). IsNumber b (case_edge web case node)
      (case_width web node) (number_in numbers) (number_in numbers node)) ends own in
      let second : IsNumber (reached && (spot.depth == height)) (λ label. edge_by web case spot.depth at reached label)
      (case_width web node) (number_in numbers) (number_in numbers node) = subst (λ (f : ℕ → Option Step).
      IsNumber (reached && (spot.depth == height)) f (case_width web node) (number_in numbers) (number_in numbers node))
      edges first in
      record {
        number = subst (λ (n : ℕ). IsNumber (reached && (spot.depth == height))
            (λ label. edge_by web case spot.depth at reached label) n (number_in numbers) (number_in numbers node)) width second;
      }

  -- ---- at the end

  none_below : (sum : ℕ → Option ℕ) (own : Option ℕ) → IsLeastBelow sum 0 own → own ≡ None
  none_below sum own its = least_is sum 0 own its

  rests_at_end : AreRests 0
  rests_at_end at spot reached is deep =
      let whole : spot.depth ≡ height = omega (arith, deep) in
      let ends : (spot.depth == height) ≡ true = eq-eqb spot.depth height whole in
      let none : spot.labels ≡ 0 = (h.spots at spot is).ends (omega (arith, whole)) in
      by reached ends none (node_known at spot reached is).number
    where
      by : (r : Bool) → (spot.depth == height) ≡ true → spot.labels ≡ 0
          → IsNumber (r && (spot.depth == height)) (λ label. edge_by web case spot.depth at r label) spot.labels
          (number_in numbers) (number_in numbers (node_at count at r))
          → number_in numbers (node_at count at r) ≡ (if r then Some 0 else None)
      by true ends none its =
          let P : Bool → Type 0 = λ b. IsNumber b (λ label. edge_by web case spot.depth at true label) spot.labels
          (number_in numbers) (number_in numbers (node_at count at true)) in
          subst P ends its
      by false ends none its =
          let P : ℕ → Type 0 = λ n. IsLeastBelow (λ label. sum_behind (number_in numbers)
          (edge_by web case spot.depth at false label)) n (number_in numbers (node_at count at false)) in
          none_below _ (number_in numbers (node_at count at false)) (subst P none its)

  -- ---- above it

  module _ (left : ℕ) (below : AreRests left) where
    -- what is left behind a step, and behind its edge
    abbrev rest_behind : ℕ → ℕ → Bool → K → Option ℕ
    rest_behind depth label reached next =
        least_rest breadth step case left (depth + 1) next (reached || case.reaches depth label)

    edge_is : (at : ℕ) (spot : Spot K) (reached : Bool) (label : ℕ) → slice_get web.spots.items at ≡ Some spot
        → spot.depth + suc left ≡ height → (o : Option Edge) (s : Option (K × ℕ)) → edge_in web at label ≡ o
        → step spot.depth spot.kept label ≡ s → IsEdgeOf web at spot.depth o s
        → sum_behind (number_in numbers) (option_and_then (λ edge. charged_edge count case.rate.scale
        (reached || case.reaches spot.depth label) edge (case.toll spot.depth label)) o)
        ≡ through case (case.toll spot.depth label) (rest_behind spot.depth label reached) s
    edge_is at spot reached label is deep None None e f leads = refl
    edge_is at spot reached label is deep None (Some next) e f leads = absurd leads
    edge_is at spot reached label is deep (Some edge) None e f leads = absurd leads
    edge_is at spot reached label is deep (Some edge) (Some next) e f leads = by (case.toll spot.depth label)
      where
        same : number_in numbers (node_at count edge.to (reached || case.reaches spot.depth label))
            ≡ rest_behind spot.depth label reached next.0
        same =
            below edge.to leads.next (reached || case.reaches spot.depth label) leads.is_next
            (omega (arith, leads.deeper, deep))
            ∙ ap₂ (λ d k. least_rest breadth step case left d k (reached || case.reaches spot.depth label)) leads.deeper
            leads.same

        by : (toll : Option ℕ)
            → sum_behind (number_in numbers) (charged_edge count case.rate.scale
            (reached || case.reaches spot.depth label) edge toll)
            ≡ sum_through case next.1 toll (rest_behind spot.depth label reached next.0)
        by None = refl
        by (Some toll) =
            ap (option_map (λ behind. (case.rate.scale * edge.cost + toll) + behind)) same
            ∙ charged_sum case.rate.scale edge.cost toll (min next.1 MOST_COST)
            (rest_behind spot.depth label reached next.0) leads.costs

    rests_above : AreRests (suc left)
    rests_above at spot reached is deep =
        let above : spot.depth < height = omega (arith, deep) in
        let has = (h.spots at spot is).above above in
        let more : (spot.depth == height) ≡ false = grind (arith, nat_tests) in
        let its = (node_known at spot reached is).number in
        let P : Bool → Type 0 = λ b. IsNumber (reached && b) (λ label. edge_by web case spot.depth at reached label)
        spot.labels (number_in numbers) (number_in numbers (node_at count at reached)) in
        let own = open_node reached spot.labels (λ label. edge_by web case spot.depth at reached label)
        (number_in numbers (node_at count at reached)) (subst P more its) in
        least_is (λ label. sum_behind (number_in numbers) (edge_by web case spot.depth at reached label)) spot.labels
        (number_in numbers (node_at count at reached)) own
        ∙ least_same (λ label. sum_behind (number_in numbers) (edge_by web case spot.depth at reached label))
        (λ label. through case (case.toll spot.depth label) (rest_behind spot.depth label reached)
        (step spot.depth spot.kept label)) spot.labels
        (λ label within. edge_is at spot reached label is deep (edge_in web at label) (step spot.depth spot.kept label) refl
        refl (subst (λ (o : Option Edge). IsEdgeOf web at spot.depth o (step spot.depth spot.kept label))
        (sym (edge-within web at label spot is within)) (has.each label within)))
        ∙ ap (least_below (λ label. through case (case.toll spot.depth label) (rest_behind spot.depth label reached)
        (step spot.depth spot.kept label))) has.all
      where
        open_node : (r : Bool) (labels : ℕ) (f : ℕ → Option Step) (number : Option ℕ)
            → IsNumber (r && false) f labels (number_in numbers) number
            → IsLeastBelow (λ label. sum_behind (number_in numbers) (f label)) labels number
        open_node true labels f number its = its
        open_node false labels f number its = its

  pub rests : (left : ℕ) → AreRests left
  rests zero = rests_at_end
  rests (suc left) = rests_above left (rests left)
