-- On the way to a leaf each step is an edge of the leaf's case (`case_is_mapped`), so the numbers
-- of the cases give floors (`priced_floors`).
use Rattle.std.proofs.Common.{◌≡◌, ℕ, ◌+◌, ◌-◌, ◌*◌, ◌<◌, ◌≤◌, ◌||◌, ◌&&◌, nat_lt, nat_le, List, [], ◌∷◌, ◌++◌, length, Option, Some, None, option_map, option_and_then, Bool, true, false, refl, sym, ap, ap₂, subst, ◌∙◌, arith, append_assoc, append-nil, length-append, slice_get, if◌then◌else◌}
use Rattle.std.proofs.Math.Nat.{mul-add, mul-le-mul_left}
use Rattle.std.proofs.lemmas.Bool.{and_from, and_parts, eq-eqb}
use Rattle.std.proofs.lemmas.Option.{slice_get_within}
use Rattle.std.proofs.lemmas.Bool.Decides.{nat_tests}
use Rattle.tree_search.specs.Answer.{IsLeaf}
use Rattle.floor_graphs.specs.Graphs.{AreFloors, AreMapped, IsPaidEdge, Rate}
use Rattle.floor_graphs.specs.Laws.{floors_from_cases, floors_from_numbers}
use Rattle.floor_graphs.specs.Numbers.{IsEndBelow, is_edge_by, number_in}
use Rattle.priced_paths.specs.declared.web.Edge.{Edge}
use Rattle.priced_paths.specs.declared.web.Spot.{Spot}
use Rattle.priced_paths.specs.declared.web.Web.{Web}
use Rattle.priced_paths.specs.Tolls.{sum_of, charged_to, has_reached}
use Rattle.priced_paths.specs.Pricings.{IsOfCase, IsPriced, IsPricedStep}
use Rattle.priced_paths.specs.Webs.{IsWeb, depth_in, edge_in, slot_edge, spot_at}
use Rattle.priced_paths.specs.CaseGraphs.{Case, case_edge, case_ends, case_of, charged_edge, edge_by, is_reached, node_at, nodes_of, spot_of}
use Rattle.priced_paths.specs.Places.{AreNumbersOf, case_sum, charge_or, node_in, node_or, numbers_of, paid_in, priced_sum, standing}
use Rattle.priced_paths.proofs.TollSteps.{charged-append, charged_start, reached-append}
use Rattle.priced_paths.proofs.Spots.{depth-of, edge-within, edge_of_step, spot-append}

-- ---- nodes

-- a spot's node is one of the graph's, and has that spot
pub record IsNodeOf (count at : ℕ) (reached : Bool) (node : ℕ) : Type 0 where
  pub within : node < 2 * count
  pub back : spot_of count node ≡ at
  pub same : is_reached count node ≡ reached

pub node_parts : (count at : ℕ) (reached : Bool) → at < count → IsNodeOf count at reached (node_at count at reached)
node_parts count at true within =
    let test : nat_lt (count - 1 - at) count ≡ true = grind (arith, nat_tests) in
    record {
      within = omega (arith, within);
      back = ap (λ b. if b then count - 1 - (count - 1 - at) else 2 * count - 1 - (count - 1 - at)) test ∙
          omega (arith, within);
      same = test;
    }
node_parts count at false within =
    let test : nat_lt (2 * count - 1 - at) count ≡ false = grind (arith, nat_tests) in
    record {
      within = omega (arith, within);
      back = ap (λ b. if b then count - 1 - (2 * count - 1 - at) else 2 * count - 1 - (2 * count - 1 - at))
          test ∙ omega (arith, within);
      same = test;
    }

-- an edge of a spot is one of its node
pub edge_of_node : {K : Type 0} (web : Web K) (case : Case) (at label depth charge : ℕ) (reached : Bool) (edge : Edge)
    → at < length web.spots.items → edge_in web at label ≡ Some edge → depth_in web at ≡ depth
    → case.toll depth label ≡ Some charge
    → case_edge web case (node_at (length web.spots.items) at reached) label
    ≡ Some (
      node_at (length web.spots.items) edge.to (reached || case.reaches depth label),
      case.rate.scale *
          edge.cost + charge,
    )
edge_of_node web case at label depth charge reached edge within leads deep toll =
    let count = length web.spots.items in
    let node = node_at count at reached in
    let parts = node_parts count at reached within in
    let inside = parts.within in
    let test : nat_lt node (nodes_of web) ≡ true = grind (arith, nat_tests) in
    ap (λ b. if b then edge_by web case (depth_in web (spot_of count node)) (spot_of count node) (is_reached
    count node) label else None) test
    ∙ ap (λ (s : ℕ). edge_by web case (depth_in web s) s (is_reached count node) label) parts.back
    ∙ ap (λ b. edge_by web case (depth_in web at) at b label) parts.same
    ∙ ap (λ (d : ℕ). edge_by web case d at reached label) deep
    ∙ ap (option_and_then (λ e. charged_edge count case.rate.scale (reached || case.reaches depth label) e
    (case.toll depth label))) leads
    ∙ ap (charged_edge count case.rate.scale (reached || case.reaches depth label) edge) toll

-- the graph ends at the leaves where what is asked for was reached
ends_at : {K : Type 0} (web : Web K) (height at : ℕ) → at < length web.spots.items → depth_in web at ≡ height
    → IsEndBelow (case_ends web height) (nodes_of web) (node_at (length web.spots.items) at true)
ends_at web height at within deep =
    let count = length web.spots.items in
    let parts = node_parts count at true within in
    let its : depth_in web (spot_of count (node_at count at true)) ≡ height = ap (depth_in web) parts.back ∙ deep in
    (parts.within, and_from (is_reached count (node_at count at true)) _ parts.same (eq-eqb _ height its))

-- ---- charges

-- the parts of a sum
record AreParts (one other : Option ℕ) (sum : ℕ) : Type 0 where
  first : ℕ
  second : ℕ
  one_is : one ≡ Some first
  other_is : other ≡ Some second
  sums : sum ≡ first + second

sum_parts : (one other : Option ℕ) (sum : ℕ) → sum_of one other ≡ Some sum → AreParts one other sum
sum_parts None other sum h = cc
sum_parts (Some x) None sum h = cc
sum_parts (Some x) (Some y) sum h = record { first = x; second = y; one_is = refl; other_is = refl; sums = cc }

-- what is paid for a step is no less than its edge costs
paid_more : (scale own next cost before toll after paid all : ℕ) → own + cost ≤ next → after ≡ before + toll
    → paid ≡ scale * own + before → all ≡ scale * next + after → paid + (scale * cost + toll) ≤ all
paid_more scale own next cost before toll after paid all low sums paid_is all_is =
    let most : scale * (own + cost) ≤ scale * next = mul-le-mul_left scale low in
    let both : scale * (own + cost) ≡ scale * own + scale * cost = mul-add scale own cost in
    omega (arith, most, both, sums, paid_is, all_is)

-- ---- the way to a leaf

-- the path's spot keeps what is kept of it
pub record IsSpotAt {K : Type 0} (web : Web K) (kept : List ℕ → K) (path : List ℕ) (at : ℕ) : Type 0 where
  pub spot : Spot K
  pub is_spot : slice_get web.spots.items at ≡ Some spot
  pub deep : spot.depth ≡ length path
  pub keeps : spot.kept ≡ kept path
  pub leads : spot_at web path ≡ Some at

-- and its edge under a label leads to that of the child
pub record IsEdgeAt {K : Type 0} (web : Web K) (kept : List ℕ → K) (path : List ℕ) (child cost at : ℕ) : Type 0 where
  pub edge : Edge
  pub is_edge : edge_in web at child ≡ Some edge
  pub low : edge.cost ≤ cost
  pub next : IsSpotAt web kept (path ++ child ∷ []) edge.to

module _ {K : Type 0} {live : List ℕ → Option ℕ} {height : ℕ} {kept : List ℕ → K} {settled : List ℕ → ℕ}
    {breadth : ℕ → ℕ} {step : ℕ → K → ℕ → Option (K × ℕ)} {toll : ℕ → ℕ → ℕ → Option ℕ} {reaches : ℕ → ℕ → ℕ → Bool}
    {count : ℕ} {rate : ℕ → Rate} (priced : IsPriced live height kept settled breadth step toll reaches count rate)
    (web : Web K) (h : IsWeb (kept []) height breadth step web) where
  -- a step on the way to a leaf is an edge
  edge_at : (path rest : List ℕ) (child value at : ℕ) → IsLeaf live height ((path ++ child ∷ []) ++ rest) value
      → (its : IsPricedStep kept settled breadth step path child) → IsSpotAt web kept path at
      → IsEdgeAt web kept path child its.cost at
  edge_at path rest child value at leaf its here =
      let spot = here.spot in
      let above : spot.depth < height = omega (
        arith,
        here.deep,
        leaf.0,
        length-append (path ++ child ∷ []) rest,
        length-append path (child ∷ []),
      ) in
      let has = (h.spots at spot here.is_spot).above above in
      let wide : breadth spot.depth ≡ breadth (length path) = ap breadth here.deep in
      let within : child < spot.labels = omega (arith, has.all, wide, its.within) in
      let steps : step spot.depth spot.kept child ≡ Some (kept (path ++ child ∷ []), its.cost) =
      ap₂ (λ d k. step d k child) here.deep here.keeps ∙ its.is_step in
      let found = edge_of_step web at spot.depth (slot_edge web.edges.items spot child)
      (step spot.depth spot.kept child) (kept (path ++ child ∷ []), its.cost) steps (has.each child within) in
      let is_edge = edge-within web at child spot here.is_spot within ∙ found.is in
      record {
        edge = found.edge;
        is_edge = is_edge;
        low = omega (arith, found.leads.costs);
        next = record {
          spot = found.leads.next;
          is_spot = found.leads.is_next;
          deep = omega (arith, found.leads.deeper, here.deep, length-append path (child ∷ []));
          keeps = found.leads.same;
          leads = spot-append web path child at found.edge here.leads is_edge;
        };
      }

  -- so a path on the way to a leaf has the spot of what is kept of it
  spot_on : (rest start more : List ℕ) (value at : ℕ) → IsLeaf live height ((start ++ rest) ++ more) value
      → IsSpotAt web kept start at → (s : ℕ) × IsSpotAt web kept (start ++ rest) s
  spot_on [] start more value at leaf here =
      (at, subst (λ (p : List ℕ). IsSpotAt web kept p at) (sym (append-nil start)) here)
  spot_on (k ∷ rest) start more value at leaf here =
      let child = start ++ k ∷ [] in
      let one : start ++ k ∷ rest ≡ child ++ rest = sym (append_assoc start (k ∷ []) rest) in
      let onward = subst (λ (p : List ℕ). IsLeaf live height (p ++ more) value) one leaf in
      let below = subst (λ (p : List ℕ). IsLeaf live height p value) (append_assoc child rest more) onward in
      let its = priced.steps start (rest ++ more) k value below in
      let edge = edge_at start (rest ++ more) k value at below its here in
      let last = spot_on rest child more value edge.edge.to onward edge.next in
      (last.0, subst (λ (p : List ℕ). IsSpotAt web kept p last.0) (sym one) last.1)

  spot_of_path : (path more : List ℕ) (value : ℕ) → IsLeaf live height (path ++ more) value
      → (s : ℕ) × IsSpotAt web kept path s
  spot_of_path path more value leaf =
      spot_on path [] more value 0 leaf record {
        spot = h.root;
        is_spot = h.is_root;
        deep = h.first;
        keeps = h.begins;
        leads = refl;
      }

  -- ---- a case

  module _ (case : Case) where
    -- the leaves of a case
    abbrev due : ℕ → List ℕ → Option ℕ → Option ℕ
    due value path None = None
    due value path (Some charged) =
        if has_reached case.reaches path
        && nat_le (case.rate.scale * settled path + charged) (case.rate.scale * value + case.rate.debt)
        then Some value
        else None

    abbrev case_live : List ℕ → Option ℕ
    case_live path = option_and_then (λ value. due value path (charged_to case.toll path)) (live path)

    record IsCaseLeaf (path : List ℕ) (value : ℕ) : Type 0 where
      is_live : live path ≡ Some value
      of : IsOfCase case.toll case.reaches case.rate (settled path) path value

    leaf_parts : (path : List ℕ) (value : ℕ) → case_live path ≡ Some value → IsCaseLeaf path value
    leaf_parts path value e = by (live path) refl e
      where
        test : (own charged : ℕ) (b : Bool)
            → (has_reached case.reaches path
            && nat_le (case.rate.scale * settled path + charged) (case.rate.scale * own + case.rate.debt)) ≡ b
            → live path ≡ Some own → charged_to case.toll path ≡ Some charged
            → (if b then Some own else None) ≡ Some value → IsCaseLeaf path value
        test own charged false t is_live is_charged e = cc
        test own charged true t is_live is_charged e =
            let same : own ≡ value = cc in
            let both = and_parts (has_reached case.reaches path) _ t in
            let low : case.rate.scale * settled path + charged ≤ case.rate.scale * own + case.rate.debt =
            grind (arith, nat_tests, both.1) in
            record {
              is_live = is_live ∙ ap (λ n. Some n) same;
              of = record {
                charged = charged;
                is_charged = is_charged;
                reached = both.0;
                due = subst (λ (n : ℕ). case.rate.scale * settled path + charged ≤ case.rate.scale * n + case.rate.debt)
                    same low;
              };
            }

        of_charge : (own : ℕ) (o : Option ℕ) → live path ≡ Some own → charged_to case.toll path ≡ o
            → due own path o ≡ Some value → IsCaseLeaf path value
        of_charge own None is_live is_charged e = cc
        of_charge own (Some charged) is_live is_charged e = test own charged _ refl is_live is_charged e

        by : (o : Option ℕ) → live path ≡ o
            → option_and_then (λ own. due own path (charged_to case.toll path)) o ≡ Some value → IsCaseLeaf path value
        by None is_live e = cc
        by (Some own) is_live e = of_charge own (charged_to case.toll path) is_live refl e

    leaf_from : (path : List ℕ) (value : ℕ) → live path ≡ Some value
        → IsOfCase case.toll case.reaches case.rate (settled path) path value → case_live path ≡ Some value
    leaf_from path value is_live of =
        let low = of.due in
        let test : nat_le (case.rate.scale * settled path + of.charged) (case.rate.scale * value +
        case.rate.debt) ≡ true =
        grind (arith, nat_tests) in
        let both = and_from (has_reached case.reaches path) _ of.reached test in
        ap (option_and_then (λ own. due own path (charged_to case.toll path))) is_live
        ∙ ap (due value path) of.is_charged ∙ ap (λ b. if b then Some value else None) both

    -- the node of a path that is charged so much
    node_is : (path : List ℕ) (at charged : ℕ) → spot_at web path ≡ Some at → charged_to case.toll path ≡ Some charged
        → node_in web case path ≡ node_at (length web.spots.items) at (has_reached case.reaches path)
    node_is path at charged leads is_charged =
        ap₂ (λ o c. node_or web o (option_map (standing (has_reached case.reaches path)) c)) leads is_charged

    paid_is : (path : List ℕ) (charged : ℕ) → charged_to case.toll path ≡ Some charged
        → paid_in case settled path ≡ case.rate.scale * settled path + charged
    paid_is path charged is_charged =
        ap (λ c. case.rate.scale * settled path + charge_or (option_map (standing (has_reached case.reaches path)) c))
        is_charged

    step_paid : (path rest : List ℕ) (child value : ℕ) → IsLeaf live height ((path ++ child ∷ []) ++ rest) value
        → (charged : ℕ) → charged_to case.toll ((path ++ child ∷ []) ++ rest) ≡ Some charged
        → IsPaidEdge (is_edge_by (case_edge web case)) (node_in web case path) (node_in web case (path ++ child ∷ []))
        (paid_in case settled path) (paid_in case settled (path ++ child ∷ []))
    step_paid path rest child value leaf charged is_charged =
        let next = path ++ child ∷ [] in
        let its = priced.steps path rest child value leaf in
        let here = spot_of_path path (child ∷ rest) value
        (subst (λ (p : List ℕ). IsLeaf live height p value) (append_assoc path (child ∷ []) rest) leaf) in
        let edge = edge_at path rest child value here.0 leaf its here.1 in
        let all = charged_start case.toll next rest charged is_charged in
        let parts = sum_parts (charged_to case.toll path) (case.toll (length path) child) all.0
        (sym (charged-append case.toll path child) ∙ all.1) in
        let count = length web.spots.items in
        let deep : depth_in web here.0 ≡ length path = depth-of web here.0 here.1.spot here.1.is_spot ∙ here.1.deep in
        let cost = case.rate.scale * edge.edge.cost + parts.second in
        let to = node_is next edge.edge.to all.0 edge.next.leads all.1
        ∙ ap (node_at count edge.edge.to) (reached-append case.reaches path child) in
        let leads = ap (λ (n : ℕ). case_edge web case n child) (node_is path here.0 parts.first here.1.leads
        parts.one_is)
        ∙ edge_of_node web case here.0 child (length path) parts.second (has_reached case.reaches path) edge.edge
        (slice_get_within web.spots.items here.0 here.1.spot here.1.is_spot) edge.is_edge deep parts.other_is
        ∙ ap (λ (n : ℕ). Some (n, cost)) (sym to) in
        record {
          cost = cost;
          is_edge = (child, leads);
          paid = paid_more case.rate.scale (settled path) (settled next) edge.edge.cost parts.first
              parts.second all.0 _ _
              (omega (arith, edge.low, its.paid)) parts.sums (paid_is path parts.first parts.one_is) (paid_is
              next all.0 all.1);
        }

    case_is_mapped : AreMapped case_live height case.rate (paid_in case settled) (node_in web case)
        (is_edge_by (case_edge web case)) (IsEndBelow (case_ends web height) (nodes_of web))
    case_is_mapped = record {
      steps = λ path rest child value leaf.
          let parts = leaf_parts ((path ++ child ∷ []) ++ rest) value leaf.1 in
          step_paid path rest child value (leaf.0, parts.is_live) parts.of.charged parts.of.is_charged;
      leaves = λ path value leaf.
          let parts = leaf_parts path value leaf.1 in
          let here = spot_of_path path [] value
          (subst (λ (p : List ℕ). IsLeaf live height p value) (sym (append-nil path)) (leaf.0, parts.is_live)) in
          let deep : depth_in web here.0 ≡ height =
          depth-of web here.0 here.1.spot here.1.is_spot ∙ here.1.deep ∙ leaf.0 in
          let node = node_is path here.0 parts.of.charged here.1.leads parts.of.is_charged
          ∙ ap (node_at (length web.spots.items) here.0) parts.of.reached in (
            subst (λ (n : ℕ). IsEndBelow (case_ends web height) (nodes_of web) n) (sym node)
                (ends_at web height here.0 (slice_get_within web.spots.items here.0 here.1.spot here.1.is_spot) deep),
            omega (arith, paid_is path parts.of.charged parts.of.is_charged, parts.of.due),
          );
    }

  -- the least of the sums of all cases are floors
  pub priced_floors : (numbers : List (List (Option ℕ)))
      → ((k : ℕ) → k < count → AreNumbersOf web height (case_of toll reaches rate k) (numbers_of numbers k))
      → AreFloors live height (priced_sum web (case_of toll reaches rate) count settled numbers)
  priced_floors numbers are =
      floors_from_cases live height count (λ k. case_live (case_of toll reaches rate k))
      (λ k. case_sum web (case_of toll reaches rate k) settled (numbers_of numbers k))
      (λ path value leaf.
      let its = priced.leaves path value leaf in
      (its.0, its.1, (leaf.0, leaf_from (case_of toll reaches rate its.0) path value leaf.1 its.2)))
      (λ k within.
      let own = are k within in
      floors_from_numbers (rate k) own.some (paid_in (case_of toll reaches rate k) settled)
      (node_in web (case_of toll reaches rate k)) (is_edge_by (case_edge web (case_of toll reaches rate k)))
      (IsEndBelow (case_ends web height) (nodes_of web)) (number_in (numbers_of numbers k)) own.checked
      (case_is_mapped (case_of toll reaches rate k)))
