-- Where a path leads with a step more (`spot-append`), what a web's edges are (`edge_parts`), and
-- that a web is sound (`sound_from_web`).
use Rattle.std.proofs.Common.{◌≡◌, ℕ, ◌+◌, ◌<◌, nat_lt, List, [], ◌∷◌, ◌++◌, Option, Some, None, option_and_then, Bool, true, false, refl, sym, ap, subst, ◌∙◌, arith, slice_get, if◌then◌else◌, ⊎_elim}
use Rattle.std.proofs.lemmas.Option.{slice_get_within}
use Rattle.std.proofs.lemmas.Bool.{cases_lt}
use Rattle.std.proofs.lemmas.Bool.Decides.{nat_tests}
use Rattle.priced_paths.specs.declared.web.Edge.{Edge}
use Rattle.priced_paths.specs.declared.web.Spot.{Spot}
use Rattle.priced_paths.specs.declared.web.Web.{Web}
use Rattle.priced_paths.specs.Webs.{edge_of, edge_in, slot_edge, spot_from, spot_at, depth_or, depth_in, LeadsOn, IsEdgeOf, HasSteps, IsWeb, LeadsLater, IsSound}

-- where an edge leads
abbrev pub end_of : Option Edge → Option ℕ
end_of None = None
end_of (Some edge) = Some edge.to

-- a step at the end of a path
pub spot_from-append : {K : Type 0} (web : Web K) (at : ℕ) (path : List ℕ) (label : ℕ)
    → spot_from web at (path ++ label ∷ []) ≡ option_and_then (λ s. end_of (edge_in web s label)) (spot_from
    web at path)
spot_from-append web at [] label = one (edge_in web at label)
  where
    one : (o : Option Edge) → option_and_then (λ (edge : Edge). Some edge.to) o ≡ end_of o
    one None = refl
    one (Some edge) = refl
spot_from-append web at (first ∷ path) label = on (edge_in web at first)
    (λ edge. spot_from-append web edge.to path label)
  where
    on : (o : Option Edge)
        → ((edge : Edge) → spot_from web edge.to (path ++ label ∷ [])
        ≡ option_and_then (λ s. end_of (edge_in web s label)) (spot_from web edge.to path))
        → option_and_then (λ (edge : Edge). spot_from web edge.to (path ++ label ∷ [])) o
        ≡ option_and_then (λ s. end_of (edge_in web s label)) (option_and_then (λ (edge : Edge). spot_from web
        edge.to path) o)
    on None onward = refl
    on (Some edge) onward = onward edge

-- the step from a spot that is known
pub spot-append : {K : Type 0} (web : Web K) (path : List ℕ) (label at : ℕ) (edge : Edge) → spot_at web path ≡ Some at
    → edge_in web at label ≡ Some edge → spot_at web (path ++ label ∷ []) ≡ Some edge.to
spot-append web path label at edge is leads =
    spot_from-append web 0 path label ∙ ap (option_and_then (λ s. end_of (edge_in web s label))) is ∙ ap end_of leads

pub spot-append_none : {K : Type 0} (web : Web K) (path : List ℕ) (label at : ℕ) → spot_at web path ≡ Some at
    → edge_in web at label ≡ None → spot_at web (path ++ label ∷ []) ≡ None
spot-append_none web path label at is leads =
    spot_from-append web 0 path label ∙ ap (option_and_then (λ s. end_of (edge_in web s label))) is ∙ ap end_of leads

-- an edge is one of a spot, under one of its labels
pub record HasEdge {K : Type 0} (web : Web K) (at label : ℕ) (edge : Edge) : Type 0 where
  pub spot : Spot K
  pub is_spot : slice_get web.spots.items at ≡ Some spot
  pub is_label : label < spot.labels
  pub is_edge : slot_edge web.edges.items spot label ≡ Some edge

pub edge_parts : {K : Type 0} (web : Web K) (at label : ℕ) (edge : Edge) → edge_in web at label ≡ Some edge
    → HasEdge web at label edge
edge_parts {K} web at label edge h = of (slice_get web.spots.items at) refl h
  where
    below : (spot : Spot K) → nat_lt label spot.labels ≡ true → label < spot.labels
    below spot e = grind (arith, nat_tests)

    under : (spot : Spot K) → slice_get web.spots.items at ≡ Some spot → (b : Bool) → nat_lt label spot.labels ≡ b
        → (if b then slot_edge web.edges.items spot label else None) ≡ Some edge → HasEdge web at label edge
    under spot is true e h = record { spot = spot; is_spot = is; is_label = below spot e; is_edge = h }
    under spot is false e h = cc

    of : (o : Option (Spot K)) → slice_get web.spots.items at ≡ o
        → option_and_then (edge_of web.edges.items label) o ≡ Some edge → HasEdge web at label edge
    of None is h = cc
    of (Some spot) is h = under spot is (nat_lt label spot.labels) refl h

-- the edge of a spot under one of its labels
pub edge-within : {K : Type 0} (web : Web K) (at label : ℕ) (spot : Spot K) → slice_get web.spots.items at ≡ Some spot
    → label < spot.labels → edge_in web at label ≡ slot_edge web.edges.items spot label
edge-within web at label spot is within =
    let test : nat_lt label spot.labels ≡ true = grind (arith, nat_tests) in
    ap (option_and_then (edge_of web.edges.items label)) is
    ∙ ap (λ b. if b then slot_edge web.edges.items spot label else None) test

-- ---- a web

-- where there is an edge there is a step, and the edge leads on as the step does
record IsStepOf {K : Type 0} (web : Web K) (at depth : ℕ) (edge : Edge) (step : Option (K × ℕ)) : Type 0 where
  it : K × ℕ
  is : step ≡ Some it
  leads : LeadsOn web at depth it.0 it.1 edge

step_of_edge : {K : Type 0} (web : Web K) (at depth : ℕ) (edge : Edge) (own : Option Edge) (step : Option (K × ℕ))
    → own ≡ Some edge → IsEdgeOf web at depth own step → IsStepOf web at depth edge step
step_of_edge web at depth edge None step e h = cc
step_of_edge web at depth edge (Some its) None e h = absurd h
step_of_edge web at depth edge (Some its) (Some it) e h =
    let same : its ≡ edge = cc in
    record { it = it; is = refl; leads = subst (LeadsOn web at depth it.0 it.1) same h }

-- where there is a step there is an edge
pub record IsEdgeFor {K : Type 0} (web : Web K) (at depth : ℕ) (own : Option Edge) (it : K × ℕ) : Type 0 where
  pub edge : Edge
  pub is : own ≡ Some edge
  pub leads : LeadsOn web at depth it.0 it.1 edge

pub edge_of_step : {K : Type 0} (web : Web K) (at depth : ℕ) (own : Option Edge) (step : Option (K × ℕ)) (it : K × ℕ)
    → step ≡ Some it → IsEdgeOf web at depth own step → IsEdgeFor web at depth own it
edge_of_step web at depth own None it e h = cc
edge_of_step web at depth None (Some its) it e h = absurd h
edge_of_step {K} web at depth (Some edge) (Some its) it e h =
    let same : its ≡ it = cc in
    let P : K × ℕ → Type 0 = λ s. LeadsOn web at depth s.0 s.1 edge in
    record { edge = edge; is = refl; leads = subst P same h }

pub depth-of : {K : Type 0} (web : Web K) (at : ℕ) (spot : Spot K) → slice_get web.spots.items at ≡ Some spot
    → depth_in web at ≡ spot.depth
depth-of web at spot is = ap depth_or is

module _ {K : Type 0} {start : K} {height : ℕ} {breadth : ℕ → ℕ} {step : ℕ → K → ℕ → Option (K × ℕ)} (web : Web K)
    (h : IsWeb start height breadth step web) where
  above_leaves : (at : ℕ) (spot : Spot K) → slice_get web.spots.items at ≡ Some spot → 0 < spot.labels
      → (spot.depth < height) × HasSteps breadth step web at spot
  above_leaves at spot is some = ⊎_elim
      (λ above. (above, (h.spots at spot is).above above))
      (λ ends. let none = (h.spots at spot is).ends ends in absurd (omega (arith, none, some)))
      (cases_lt spot.depth height)

  later : (at label : ℕ) (edge : Edge) → edge_in web at label ≡ Some edge → LeadsLater height breadth web at label edge
  later at label edge e =
      let parts = edge_parts web at label edge e in
      let spot = parts.spot in
      let above = above_leaves at spot parts.is_spot (omega (arith, parts.is_label)) in
      let its = step_of_edge web at spot.depth edge (slot_edge web.edges.items spot label)
      (step spot.depth spot.kept label) parts.is_edge (above.1.each label parts.is_label) in
      let depth : depth_in web at ≡ spot.depth = depth-of web at spot parts.is_spot in
      record {
        later = its.leads.later;
        within = slice_get_within web.spots.items edge.to its.leads.next its.leads.is_next;
        small = omega (arith, its.leads.costs);
        above = omega (arith, depth, above.0);
        deeper = depth-of web edge.to its.leads.next its.leads.is_next ∙ its.leads.deeper ∙ ap (λ d. d + 1) (sym depth);
        is_label = subst (λ (d : ℕ). label < breadth d) (sym depth) (omega (arith, above.1.all, parts.is_label));
      }

  pub sound_from_web : IsSound height breadth web
  sound_from_web = record {
    few = h.few;
    some = omega (arith, slice_get_within web.spots.items 0 h.root h.is_root);
    root = depth-of web 0 h.root h.is_root ∙ h.first;
    inside = λ at spot is. (h.spots at spot is).slots;
    edges = later;
  }
