-- The spot of a path keeps what is kept behind the path (`kept_at`), and a path that has none isn't
-- one of steps (`none_kept`). So the sum of a place is that of its path (`are_exact`).
use Rattle.std.proofs.Common.{◌≡◌, ℕ, zero, suc, ◌+◌, ◌-◌, ◌*◌, ◌<◌, ◌≤◌, nat_lt, Bool, true, false, List, [], ◌∷◌, length, Option, Some, None, option_and_then, option_map, refl, sym, ap, ap₂, subst, ◌∙◌, arith, slice_get, ⊎_elim, if◌then◌else◌}
use Rattle.std.proofs.lemmas.Bool.{cases_lt, lt-ltb}
use Rattle.std.proofs.lemmas.Bool.Decides.{nat_tests}
use Rattle.floor_graphs.specs.Cases.{least_below}
use Rattle.floor_graphs.specs.Graphs.{Rate, units_of}
use Rattle.floor_graphs.specs.Numbers.{AreLeast, lesser_of, number_in}
use Rattle.priced_paths.specs.declared.guide.Place.{Place}
use Rattle.priced_paths.specs.declared.web.Edge.{Edge}
use Rattle.priced_paths.specs.declared.web.Spot.{Spot}
use Rattle.priced_paths.specs.declared.web.Web.{Web}
use Rattle.priced_paths.specs.CaseGraphs.{Case, case_edge, case_ends, case_width, node_at, nodes_of}
use Rattle.priced_paths.specs.LeadBacks.{label_within}
use Rattle.priced_paths.specs.Places.{IsPlaceOf, least_at, numbers_of, standing, standing_in, standing_of, sum_by}
use Rattle.priced_paths.specs.Tolls.{charged_to, has_reached, sum_of}
use Rattle.priced_paths.specs.Webs.{IsEdgeOf, IsWeb, LeadsOn, edge_in, labels_or, slot_edge, spot_at, spot_from}
use Rattle.priced_paths.proofs.Spots.{edge-within}
use Rattle.priced_paths.specs.LeastRests.{Breadth, Steps, kept_behind, least_rest, least_sum, rest_of_path, step_in, sum_in_case}
use Rattle.priced_paths.specs.Stands.{AreExact}
use Rattle.priced_paths.proofs.WebRests.{least_same, rests}

-- ---- spots

module _ {K : Type 0} {start : K} {height : ℕ} {breadth : Breadth} {step : Steps K} (web : Web K)
    (h : IsWeb start height breadth step web) where
  -- the step of an edge
  record IsStepOn (at k : ℕ) (spot : Spot K) (edge : Edge) : Type 0 where
    it : K × ℕ
    is_step : step_in breadth step spot.depth spot.kept k ≡ Some it
    above : spot.depth < height
    leads : LeadsOn web at spot.depth it.0 it.1 edge

  step_on : (at k : ℕ) (spot : Spot K) (edge : Edge) → slice_get web.spots.items at ≡ Some spot
      → edge_in web at k ≡ Some edge → IsStepOn at k spot edge
  step_on at k spot edge is e =
      let wide : k < labels_or (slice_get web.spots.items at) = label_within web at k edge e in
      let within : k < spot.labels = subst (λ (o : Option (Spot K)). k < labels_or o) is wide in
      let above : spot.depth < height = ⊎_elim (λ a. a)
      (λ ends. let none = (h.spots at spot is).ends ends in absurd (omega (arith, none, within)))
      (cases_lt spot.depth height) in
      let has = (h.spots at spot is).above above in
      let test : nat_lt k (breadth spot.depth) ≡ true =
      lt-ltb k (breadth spot.depth) (omega (arith, within, has.all)) in
      by above test (slot_edge web.edges.items spot k) (step spot.depth spot.kept k)
      (sym (edge-within web at k spot is within) ∙ e) refl (has.each k within)
    where
      by : spot.depth < height → nat_lt k (breadth spot.depth) ≡ true → (own : Option Edge) (s : Option (K × ℕ))
          → own ≡ Some edge → step spot.depth spot.kept k ≡ s → IsEdgeOf web at spot.depth own s
          → IsStepOn at k spot edge
      by above test None s f g leads = cc
      by above test (Some its) None f g leads = absurd leads
      by above test (Some its) (Some it) f g leads =
          let same : its ≡ edge = cc in
          record {
            it = it;
            is_step = ap (λ b. if b then step spot.depth spot.kept k else None) test ∙ g;
            above = above;
            leads = subst (LeadsOn web at spot.depth it.0 it.1) same leads;
          }

  -- where there is no edge there is no step
  no_step : (at k : ℕ) (spot : Spot K) → slice_get web.spots.items at ≡ Some spot → spot.depth < height
      → edge_in web at k ≡ None → step_in breadth step spot.depth spot.kept k ≡ None
  no_step at k spot is above e = by (nat_lt k (breadth spot.depth)) refl
    where
      none : (s : Option (K × ℕ)) → IsEdgeOf web at spot.depth None s → s ≡ None
      none None leads = refl
      none (Some it) leads = absurd leads

      by : (b : Bool) → nat_lt k (breadth spot.depth) ≡ b
          → (if b then step spot.depth spot.kept k else None) ≡ None
      by false f = refl
      by true f =
          let has = (h.spots at spot is).above above in
          let small : k < breadth spot.depth = grind (arith, nat_tests) in
          let within : k < spot.labels = omega (arith, small, has.all) in
          let own = sym (edge-within web at k spot is within) ∙ e in
          none (step spot.depth spot.kept k)
          (subst (λ (o : Option Edge). IsEdgeOf web at spot.depth o (step spot.depth spot.kept k)) own (has.each k within))

  -- what is kept at a spot behind a path
  pub record IsKeptAt (to deep : ℕ) (behind : Option K) : Type 0 where
    pub spot : Spot K
    pub is_spot : slice_get web.spots.items to ≡ Some spot
    pub depth : spot.depth ≡ deep
    pub above : deep ≤ height
    pub kept : behind ≡ Some spot.kept

  -- a step more in front
  kept_more : (at k to : ℕ) (path : List ℕ) (spot : Spot K) (edge : Edge) (on : IsStepOn at k spot edge)
      → IsKeptAt to (on.leads.next.depth + length path)
      (kept_behind breadth step on.leads.next.depth on.leads.next.kept path)
      → IsKeptAt to (spot.depth + suc (length path)) (kept_behind breadth step spot.depth spot.kept (k ∷ path))
  kept_more at k to path spot edge on below = record {
    spot = below.spot;
    is_spot = below.is_spot;
    depth = omega (arith, below.depth, on.leads.deeper);
    above = omega (arith, below.above, on.leads.deeper);
    kept = ap (option_and_then (λ next. kept_behind breadth step (spot.depth + 1) next.0 path)) on.is_step
        ∙ ap₂ (λ d kept. kept_behind breadth step d kept path) (sym on.leads.deeper) (sym on.leads.same)
        ∙ below.kept;
  }

  kept_from : (path : List ℕ) (at to : ℕ) (spot : Spot K) → slice_get web.spots.items at ≡ Some spot
      → spot.depth ≤ height → spot_from web at path ≡ Some to
      → IsKeptAt to (spot.depth + length path) (kept_behind breadth step spot.depth spot.kept path)
  kept_from [] at to spot is above e =
      let same : at ≡ to = cc in
      record {
        spot = spot;
        is_spot = ap (slice_get web.spots.items) (sym same) ∙ is;
        depth = omega arith;
        above = omega (arith, above);
        kept = refl;
      }
  kept_from (k ∷ path) at to spot is above e =
      by (edge_in web at k) refl e (λ edge on. kept_from path edge.to to on.leads.next on.leads.is_next
      (omega (arith, on.leads.deeper, on.above)))
    where
      by : (o : Option Edge) → edge_in web at k ≡ o
          → option_and_then (λ (edge : Edge). spot_from web edge.to path) o ≡ Some to
          → ((edge : Edge) (on : IsStepOn at k spot edge) → spot_from web edge.to path ≡ Some to
          → IsKeptAt to (on.leads.next.depth + length path)
          (kept_behind breadth step on.leads.next.depth on.leads.next.kept path))
          → IsKeptAt to (spot.depth + suc (length path)) (kept_behind breadth step spot.depth spot.kept (k ∷ path))
      by None f g onward = cc
      by (Some edge) f g onward =
          let on = step_on at k spot edge is f in kept_more at k to path spot edge on (onward edge on g)

  none_from : (path : List ℕ) (at : ℕ) (spot : Spot K) → slice_get web.spots.items at ≡ Some spot
      → spot.depth + length path ≤ height → spot_from web at path ≡ None
      → kept_behind breadth step spot.depth spot.kept path ≡ None
  none_from [] at spot is room e = cc
  none_from (k ∷ path) at spot is room e =
      by (edge_in web at k) refl e (λ edge on. none_from path edge.to on.leads.next on.leads.is_next
      (omega (arith, on.leads.deeper, room)))
    where
      by : (o : Option Edge) → edge_in web at k ≡ o
          → option_and_then (λ (edge : Edge). spot_from web edge.to path) o ≡ None
          → ((edge : Edge) (on : IsStepOn at k spot edge) → spot_from web edge.to path ≡ None
          → kept_behind breadth step on.leads.next.depth on.leads.next.kept path ≡ None)
          → kept_behind breadth step spot.depth spot.kept (k ∷ path) ≡ None
      by None f g onward =
          let above : spot.depth < height = omega (arith, room) in
          ap (option_and_then (λ next. kept_behind breadth step (spot.depth + 1) next.0 path)) (no_step at k spot is above f)
      by (Some edge) f g onward =
          let on = step_on at k spot edge is f in
          ap (option_and_then (λ next. kept_behind breadth step (spot.depth + 1) next.0 path)) on.is_step
          ∙ ap₂ (λ d kept. kept_behind breadth step d kept path) (sym on.leads.deeper) (sym on.leads.same)
          ∙ onward edge on g

  pub kept_at : (path : List ℕ) (to : ℕ) → spot_at web path ≡ Some to
      → IsKeptAt to (length path) (kept_behind breadth step 0 start path)
  kept_at path to e =
      let own = kept_from path 0 to h.root h.is_root (omega (arith, h.first)) e in
      record {
        spot = own.spot;
        is_spot = own.is_spot;
        depth = omega (arith, own.depth, h.first);
        above = omega (arith, own.above, h.first);
        kept = ap₂ (λ d kept. kept_behind breadth step d kept path) (sym h.first) (sym h.begins) ∙ own.kept;
      }

  pub none_kept : (path : List ℕ) → length path ≤ height → spot_at web path ≡ None
      → kept_behind breadth step 0 start path ≡ None
  none_kept path room e =
      ap₂ (λ d kept. kept_behind breadth step d kept path) (sym h.first) (sym h.begins)
      ∙ none_from path 0 h.root h.is_root (omega (arith, room, h.first)) e

  -- ---- sums

  -- what was charged is counted first or last
  counted : (rate : Rate) (paid charged : ℕ) (left : Option ℕ)
      → option_map (λ own. units_of rate (paid + charged + own)) left
      ≡ option_map (λ sum. units_of rate (paid + sum)) (sum_of (Some charged) left)
  counted rate paid charged None = refl
  counted rate paid charged (Some own) =
      let e : paid + charged + own ≡ paid + (charged + own) = omega arith in ap (λ n. Some (units_of rate n)) e

  module _ (settled : ℕ) (path : List ℕ) where
    sum_is : (case : Case) (numbers : List (Option ℕ))
        → AreLeast (case_edge web case) (case_width web) (case_ends web height) (nodes_of web) numbers → (at : ℕ)
        → spot_at web path ≡ Some at
        → sum_by web case.rate numbers settled at (standing_of case path)
        ≡ sum_in_case height start breadth step case settled path
    sum_is case numbers least at e = by (charged_to case.toll path)
      where
        here : IsKeptAt at (length path) (kept_behind breadth step 0 start path)
        here = kept_at path at e

        left : number_in numbers (node_at (length web.spots.items) at (has_reached case.reaches path))
            ≡ rest_of_path height start breadth step case path
        left =
            rests start height breadth step web h case numbers least (height - length path) at here.spot
            (has_reached case.reaches path) here.is_spot (omega (arith, here.depth, here.above))
            ∙ ap (λ d. least_rest breadth step case (height - length path) d here.spot.kept
            (has_reached case.reaches path)) here.depth
            ∙ sym (ap (option_and_then (λ kept. least_rest breadth step case (height - length path) (length path) kept
            (has_reached case.reaches path))) here.kept)

        by : (charged : Option ℕ)
            → sum_by web case.rate numbers settled at (option_map (standing (has_reached case.reaches path)) charged)
            ≡ option_map (λ sum. units_of case.rate (case.rate.scale * settled + sum))
            (sum_of charged (rest_of_path height start breadth step case path))
        by None = refl
        by (Some charged) =
            ap (option_map (λ own. units_of case.rate (case.rate.scale * settled + charged + own))) left
            ∙ counted case.rate (case.rate.scale * settled) charged (rest_of_path height start breadth step case path)

    sums_at : (case : ℕ → Case) (count : ℕ) (numbers : List (List (Option ℕ))) (place : Place)
        → ((k : ℕ) → k < count → AreLeast (case_edge web (case k)) (case_width web) (case_ends web height)
        (nodes_of web) (numbers_of numbers k)) → IsPlaceOf web case count place path
        → least_at web case count numbers settled place ≡ least_sum height start breadth step case count settled path
    sums_at case count numbers place least stands =
        least_same (λ k. sum_by web (case k).rate (numbers_of numbers k) settled place.at (standing_in place k))
        (λ k. sum_in_case height start breadth step (case k) settled path) count
        (λ k within. ap (sum_by web (case k).rate (numbers_of numbers k) settled place.at) (stands.standings k within)
        ∙ sum_is (case k) (numbers_of numbers k) (least k within) place.at stands.at)

    -- ---- no spot

    none_left : (charged left : Option ℕ) → left ≡ None → sum_of charged left ≡ None
    none_left None left e = refl
    none_left (Some x) None e = refl
    none_left (Some x) (Some y) e = cc

    none_least : (sum : ℕ → Option ℕ) (count : ℕ) → ((k : ℕ) → sum k ≡ None) → least_below sum count ≡ None
    none_least sum zero none = refl
    none_least sum (suc count) none = ap₂ lesser_of (none_least sum count none) (none count)

    sums_none : (case : ℕ → Case) (count : ℕ) → length path ≤ height → spot_at web path ≡ None
        → least_sum height start breadth step case count settled path ≡ None
    sums_none case count room e =
        none_least (λ k. sum_in_case height start breadth step (case k) settled path) count
        (λ k. ap (option_map (λ sum. units_of (case k).rate ((case k).rate.scale * settled + sum)))
        (none_left (charged_to (case k).toll path) (rest_of_path height start breadth step (case k) path)
        (ap (option_and_then (λ kept. least_rest breadth step (case k) (height - length path) (length path) kept
        (has_reached (case k).reaches path))) (none_kept path room e))))

  pub are_exact : (case : ℕ → Case) (count : ℕ) (numbers : List (List (Option ℕ)))
      → ((k : ℕ) → k < count → AreLeast (case_edge web (case k)) (case_width web) (case_ends web height)
      (nodes_of web) (numbers_of numbers k)) → AreExact web case count numbers height start breadth step
  are_exact case count numbers least None path settled stands room = sym (sums_none settled path case count room stands)
  are_exact case count numbers least (Some place) path settled stands room =
      sums_at settled path case count numbers place least stands
