-- The edges of a case lead back (`case_leads_back`), and stand in the slots of their spots
-- (`case_spanned`).
use Rattle.std.specs.Prelude.{◌≡◌, ℕ, ◌+◌, ◌-◌, ◌*◌, ◌<◌, ◌≤◌, ◌||◌, nat_lt, nat_le, Bool, true, false, Option, Some, None, option_and_then, length, slice_get, if◌then◌else◌, slice_index_or}
use Rattle.std.proofs.Common.{refl, sym, ap, ◌∙◌, arith}
use Rattle.std.proofs.lemmas.Bool.Decides.{nat_tests}
use Rattle.floor_graphs.specs.Numbers.{AreSpanned, LeadBack, Step}
use Rattle.priced_paths.specs.declared.web.Edge.{Edge}
use Rattle.priced_paths.specs.declared.web.Spot.{Spot}
use Rattle.priced_paths.specs.declared.web.Web.{Web}
use Rattle.priced_paths.specs.Webs.{edge_of, edge_in, slot_edge, labels_or, labels_in, depth_in, IsSound}
use Rattle.priced_paths.specs.CaseGraphs.{Case, node_at, spot_of, is_reached, charged_edge, edge_by, case_edge, case_width, nodes_of}

-- a later spot has an earlier node
pub node_before : (count node at : ℕ) (reached : Bool) → node < 2 * count → spot_of count node < at → at < count
    → ((is_reached count node ≡ true) → reached ≡ true) → node_at count at reached < node
node_before count node at reached few later within stays = by (nat_lt node count) refl
  where
    by : (b : Bool) → nat_lt node count ≡ b → node_at count at reached < node
    by true e =
        let r = stays e in
        let spot : spot_of count node ≡ count - 1 - node = ap (λ c. if c then count - 1 - node else 2 * count - 1 - node) e in
        let its : node_at count at reached ≡ count - 1 - at = ap (λ c. if c then count - 1 - at else 2 * count - 1 - at) r in
        let below : node < count = grind (arith, nat_tests) in
        omega (arith, spot, its)
    by false e =
        let spot : spot_of count node ≡ 2 * count - 1 - node = ap (λ c. if c then count - 1 - node else 2 * count - 1 - node) e in
        let above : count ≤ node = grind (arith, nat_tests) in
        either reached above spot
      where
        either : (r : Bool) → count ≤ node → spot_of count node ≡ 2 * count - 1 - node → node_at count at r < node
        either true above spot = omega (arith, above)
        either false above spot = omega (arith, spot)

-- an edge is under one of its spot's labels
pub label_within : {K : Type 0} (web : Web K) (at label : ℕ) (edge : Edge) → edge_in web at label ≡ Some edge
    → label < labels_in web at
label_within {K} web at label edge h = of (slice_get web.spots.items at) h
  where
    under : (spot : Spot K) (b : Bool) → nat_lt label spot.labels ≡ b
        → (if b then slot_edge web.edges.items spot label else None) ≡ Some edge
        → label < spot.labels
    under spot true e h = grind (arith, nat_tests)
    under spot false e h = cc

    of : (o : Option (Spot K)) → option_and_then (edge_of web.edges.items label) o ≡ Some edge → label < labels_or o
    of None h = cc
    of (Some spot) h = under spot (nat_lt label spot.labels) refl h

-- and stands in one of its slots
pub label_spanned : {K : Type 0} (web : Web K) (at label : ℕ) (edge : Edge) (spot : Spot K)
    → slice_get web.spots.items at ≡ Some spot → edge_in web at label ≡ Some edge
    → (spot.low ≤ label) × (label < spot.high)
label_spanned web at label edge spot is h =
    under (nat_lt label spot.labels) (sym (ap (option_and_then (edge_of web.edges.items label)) is) ∙ h)
  where
    slotted : (b c : Bool) → nat_lt label spot.low ≡ b → nat_le spot.high label ≡ c
        → (if b || c then None else slice_index_or web.edges.items (spot.first + (label - spot.low)) None) ≡ Some edge
        → (spot.low ≤ label) × (label < spot.high)
    slotted true c e f h = cc
    slotted false true e f h = cc
    slotted false false e f h = (grind (arith, nat_tests), grind (arith, nat_tests))

    under : (b : Bool) → (if b then slot_edge web.edges.items spot label else None) ≡ Some edge
        → (spot.low ≤ label) × (label < spot.high)
    under true h = slotted (nat_lt label spot.low) (nat_le spot.high label) refl refl h
    under false h = cc

-- what a charged edge was made of
pub record IsCharged (count scale : ℕ) (reached : Bool) (its : Option Edge) (charge : Option ℕ) (step : Step) : Type 0 where
  pub edge : Edge
  pub is_edge : its ≡ Some edge
  pub cost : ℕ
  pub is_charge : charge ≡ Some cost
  pub to : step.0 ≡ node_at count edge.to reached
  pub costs : step.1 ≡ scale * edge.cost + cost

pub charged_parts : (count scale : ℕ) (reached : Bool) (its : Option Edge) (charge : Option ℕ) (step : Step)
    → option_and_then (λ edge. charged_edge count scale reached edge charge) its ≡ Some step
    → IsCharged count scale reached its charge step
charged_parts count scale reached None charge step h = cc
charged_parts count scale reached (Some edge) None step h = cc
charged_parts count scale reached (Some edge) (Some cost) step h =
    let e : (node_at count edge.to reached, scale * edge.cost + cost) ≡ step = cc in
    record {
      edge = edge;
      is_edge = refl;
      cost = cost;
      is_charge = refl;
      to = sym (ap (λ (s : Step). s.0) e);
      costs = sym (ap (λ (s : Step). s.1) e);
    }

-- what is reached stays so
stays_reached : (own more : Bool) → own ≡ true → (own || more) ≡ true
stays_reached true more e = refl
stays_reached false more e = cc

pub case_leads_back : {K : Type 0} {height : ℕ} {breadth : ℕ → ℕ} (web : Web K) (case : Case)
    → IsSound height breadth web → LeadBack (case_edge web case) (case_width web) (nodes_of web)
case_leads_back web case sound node label step h = guarded (nat_lt node (nodes_of web)) refl h
  where
    guarded : (b : Bool) → nat_lt node (nodes_of web) ≡ b
        → (if b
        then edge_by web case (depth_in web (spot_of (length web.spots.items) node)) (spot_of (length web.spots.items) node) (is_reached (length web.spots.items) node) label
        else None) ≡ Some step
        → (node < nodes_of web) × (label < case_width web node) × (step.0 < node)
    guarded false e h = cc
    guarded true e h =
        let at = spot_of (length web.spots.items) node in
        let depth = depth_in web at in
        let inside : node < nodes_of web = grind (arith, nat_tests) in
        let own = is_reached (length web.spots.items) node in
        let parts = charged_parts (length web.spots.items) case.rate.scale (own || case.reaches depth label)
        (edge_in web at label) (case.toll depth label) step h in
        let leads = sound.edges at label parts.edge parts.is_edge in
        let before = node_before (length web.spots.items) node parts.edge.to (own || case.reaches depth label) inside leads.later leads.within
        (stays_reached own (case.reaches depth label)) in (
          inside,
          label_within web at label parts.edge parts.is_edge,
          omega (arith, parts.to, before),
        )

pub case_spanned : {K : Type 0} (web : Web K) (case : Case) (node : ℕ) (spot : Spot K)
    → slice_get web.spots.items (spot_of (length web.spots.items) node) ≡ Some spot
    → AreSpanned (case_edge web case node) spot.low spot.high
case_spanned web case node spot is label step h = guarded (nat_lt node (nodes_of web)) h
  where
    guarded : (b : Bool)
        → (if b
        then edge_by web case (depth_in web (spot_of (length web.spots.items) node)) (spot_of (length web.spots.items) node) (is_reached (length web.spots.items) node) label
        else None) ≡ Some step
        → (spot.low ≤ label) × (label < spot.high)
    guarded false h = cc
    guarded true h =
        let at = spot_of (length web.spots.items) node in
        let depth = depth_in web at in
        let own = is_reached (length web.spots.items) node in
        let parts = charged_parts (length web.spots.items) case.rate.scale (own || case.reaches depth label)
        (edge_in web at label) (case.toll depth label) step h in
        label_spanned web at label parts.edge spot is parts.is_edge
