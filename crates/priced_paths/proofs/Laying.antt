-- The edge of a label leads to the place of the state behind it (`edge_found`), the spots of the
-- first states have their edges (`laid_more`), and those of all states are a web (`web_from_laid`).
use Rattle.std.proofs.Common.{◌≡◌, ◌⊎◌, ℕ, ◌+◌, ◌-◌, ◌<◌, ◌≤◌, ◌||◌, nat_lt, nat_le, List, [], ◌∷◌, ◌++◌, length, get_or, min, Contains, Option, Some, None, option_map, Bool, true, false, true≢false, if◌then◌else◌, slice_get, slice_index_or, refl, sym, ap, ap₂, subst, ◌∙◌, ⊎_elim, arith, length-append}
use Rattle.std.specs.Bool.{Decides}
use Rattle.std.specs.Cmp.{decided}
use Rattle.std.specs.List.{list_any, position}
use Rattle.std.proofs.lemmas.Bool.{cases_lt}
use Rattle.std.proofs.lemmas.Bool.Decides.{nat_tests}
use Rattle.std.proofs.lemmas.List.{get_or_append_left, get_or_push}
use Rattle.std.proofs.lemmas.List.Quantifiers.{position-Some}
use Rattle.std.proofs.lemmas.Map.Views.{list_any-from_Contains}
use Rattle.std.proofs.lemmas.Option.{slice_get-get_or, slice_get_cases, slice_get_within}
use Rattle.priced_paths.specs.declared.states.State.{State}
use Rattle.priced_paths.specs.declared.web.Edge.{Edge}
use Rattle.priced_paths.specs.declared.web.Spot.{Spot}
use Rattle.priced_paths.specs.declared.web.Web.{Web}
use Rattle.priced_paths.specs.declared.web.TheConstants.{MOST_COST}
use Rattle.priced_paths.specs.Sizes.{labels_of, next_of, state_after, state_at}
use Rattle.priced_paths.specs.Listed.{AreAllStates}
use Rattle.priced_paths.specs.Laid.{AreLaid, IsEdgeTo, IsLaid, IsRow, IsSpotFor, LeadsTo}
use Rattle.priced_paths.specs.Webs.{HasSlots, IsEdgeOf, IsSpotOf, IsWeb, LeadsOn, slot_edge}
use Rattle.priced_paths.proofs.Listing.{get_back, pair_at, some_same}

-- ---- one edge

module _ {K : Type 0} {start : K} {height : ℕ} {breadth : ℕ → ℕ} {step : ℕ → K → ℕ → Option (K × ℕ)}
    (states : List (State K)) (all : AreAllStates start height breadth step states) (at : ℕ) (state : State K)
    (here : slice_get states at ≡ Some state) (label : ℕ) (above : state.depth < height)
    (within : label < breadth state.depth) (kept : K) (cost : ℕ)
    (steps : step state.depth state.kept label ≡ Some (kept, cost)) where
  abbrev next : State K
  next = state_at (state.depth + 1) kept

  leads : next_of height breadth step state label ≡ Some next
  leads =
      let test : nat_lt state.depth height ≡ true = grind (arith, nat_tests) in
      let wide : labels_of height breadth state ≡ breadth state.depth = ap (λ b. if b then breadth state.depth else 0) test in
      let few : nat_lt label (labels_of height breadth state) ≡ true = few_by (labels_of height breadth state) wide in
      ap (λ b. if b then state_after height breadth step state label else None) few
      ∙ ap (option_map (λ (n : K × ℕ). state_at (state.depth + 1) n.0)) steps
    where
      few_by : (labels : ℕ) → labels ≡ breadth state.depth → nat_lt label labels ≡ true
      few_by labels e = let few : label < labels = omega (arith, e, within) in grind (arith, nat_tests)

  -- the state behind the label is there
  pub edge_there : Contains states next
  edge_there = all.closed at state here label next leads

  pub edge_lost : {eq : State K → State K → Bool} → ((s t : State K) → Decides (eq s t) (s ≡ t))
      → list_any (eq next) states ≡ false → ⊥
  edge_lost {eq} same none =
      true≢false (sym (list_any-from_Contains (decided eq same) next states edge_there) ∙ none)

  -- behind the state itself
  behind : (to : ℕ) → slice_get states to ≡ Some next → at < to
  behind to there = ⊎_elim
      (λ later. later)
      (λ not_later. ⊎_elim
      (λ before.
      let deep = pair_at (λ (one other : State K). one.depth ≤ other.depth) states to at next state all.are.deeper before there here in
      absurd (omega (arith, deep)))
      (λ not_before.
      let same : to ≡ at = omega (arith, not_later, not_before) in
      let own = some_same next state (sym there ∙ ap (slice_get states) same ∙ here) in
      absurd (omega (arith, ap (λ (s : State K). s.depth) own)))
      (cases_lt to at))
      (cases_lt at to)

  pub edge_found : {eq : State K → State K → Bool} → ((s t : State K) → Decides (eq s t) (s ≡ t)) → (to : ℕ) (edge : Edge)
      → position (eq next) states ≡ Some to → edge.to ≡ to → edge.cost ≡ min cost MOST_COST
      → IsEdgeTo states at state.depth (Some edge) (step state.depth state.kept label)
  edge_found {eq} same to edge found is_to costs =
      let its = position-Some (eq next) states to next found in
      let there = slice_get-get_or states to next its.0
      ∙ ap (λ s. Some s) (sym ((same next (get_or states to next)).0 its.1)) in
      let own = ap (slice_get states) is_to ∙ there in
      subst (IsEdgeTo states at state.depth (Some edge)) (sym steps)
      record { later = omega (arith, is_to, behind to there); there = own; costs = costs }

-- ---- a row

pub row_begins : {K : Type 0} (step : ℕ → K → ℕ → Option (K × ℕ)) (states : List (State K)) (at : ℕ) (state : State K)
    (row : List (Option Edge)) → row ≡ [] → IsRow step states at state 0 row
row_begins step states at state row e = record {
  whole = ap length e;
  each = λ label l. absurd (omega (arith, l));
}

pub row_more : {K : Type 0} (step : ℕ → K → ℕ → Option (K × ℕ)) (states : List (State K)) (at : ℕ) (state : State K)
    (label : ℕ) (row new : List (Option Edge)) (edge : Option Edge) → IsRow step states at state label row
    → new ≡ row ++ edge ∷ [] → IsEdgeTo states at state.depth edge (step state.depth state.kept label)
    → IsRow step states at state (label + 1) new
row_more step states at state label row new edge h is own = subst (IsRow step states at state (label + 1)) (sym is) record {
  whole = length-append row (edge ∷ []) ∙ ap (λ n. n + 1) h.whole;
  each = λ k within. ⊎_elim
      (λ earlier. subst (λ o. IsEdgeTo states at state.depth o (step state.depth state.kept k))
      (sym (get_or_append_left row (edge ∷ []) None k (omega (arith, earlier, h.whole)))) (h.each k earlier))
      (λ late.
      let same : k ≡ label = omega (arith, within, late) in
      subst (λ o. IsEdgeTo states at state.depth o (step state.depth state.kept k))
      (sym (get_or_push row edge None k (omega (arith, same, h.whole))))
      (subst (λ n. IsEdgeTo states at state.depth edge (step state.depth state.kept n)) (sym same) own))
      (cases_lt k label);
}

-- ---- slots

-- what is read in a slot
module _ {K : Type 0} (edges : List (Option Edge)) (spot : Spot K) (label : ℕ) where
  pub slot-within : spot.low ≤ label → label < spot.high
      → slot_edge edges spot label ≡ slice_index_or edges (spot.first + (label - spot.low)) None
  slot-within low high =
      let one : nat_lt label spot.low ≡ false = grind (arith, nat_tests) in
      let two : nat_le spot.high label ≡ false = grind (arith, nat_tests) in
      ap₂ (λ b c. if b || c then None else slice_index_or edges (spot.first + (label - spot.low)) None) one two

  pub slot-below : label < spot.low → slot_edge edges spot label ≡ None
  slot-below low =
      let one : nat_lt label spot.low ≡ true = grind (arith, nat_tests) in
      ap (λ b. if b || nat_le spot.high label then None else slice_index_or edges (spot.first + (label - spot.low)) None) one

  pub slot-above : spot.low ≤ label → spot.high ≤ label → slot_edge edges spot label ≡ None
  slot-above low high =
      let one : nat_lt label spot.low ≡ false = grind (arith, nat_tests) in
      let two : nat_le spot.high label ≡ true = grind (arith, nat_tests) in
      ap₂ (λ b c. if b || c then None else slice_index_or edges (spot.first + (label - spot.low)) None) one two

  -- in a longer list the same
  pub slot-grown : (more : List (Option Edge)) → HasSlots edges spot → slot_edge (edges ++ more) spot label ≡ slot_edge edges spot label
  slot-grown more slots = by (nat_lt label spot.low) (nat_le spot.high label) refl refl
    where
      by : (b c : Bool) → nat_lt label spot.low ≡ b → nat_le spot.high label ≡ c
          → (if b || c then None else slice_index_or (edges ++ more) (spot.first + (label - spot.low)) None)
          ≡ (if b || c then None else slice_index_or edges (spot.first + (label - spot.low)) None)
      by true c e f = refl
      by false true e f = refl
      by false false e f =
          let low : spot.low ≤ label = grind (arith, nat_tests) in
          let high : label < spot.high = grind (arith, nat_tests) in
          get_or_append_left edges more None (spot.first + (label - spot.low))
          (omega (arith, low, high, slots.order, slots.inside))

pub slots_grown : {K : Type 0} (edges more : List (Option Edge)) (spot : Spot K) → HasSlots edges spot
    → HasSlots (edges ++ more) spot
slots_grown edges more spot h = record {
  order = h.order;
  within = h.within;
  inside = omega (arith, h.inside, length-append edges more);
}

-- ---- one spot more

module _ {K : Type 0} (height : ℕ) (breadth : ℕ → ℕ) (step : ℕ → K → ℕ → Option (K × ℕ)) (states : List (State K)) where
  grown : (edges more : List (Option Edge)) (at : ℕ) (state : State K) (spot : Spot K)
      → IsSpotFor height breadth step states edges at state spot
      → IsSpotFor height breadth step states (edges ++ more) at state spot
  grown edges more at state spot h = record {
    deep = h.deep;
    keeps = h.keeps;
    labels = h.labels;
    slots = slots_grown edges more spot h.slots;
    each = λ label within. subst (λ o. IsEdgeTo states at state.depth o (step state.depth state.kept label))
        (sym (slot-grown edges spot label more h.slots)) (h.each label within);
  }

  spot_from_row : (at : ℕ) (state : State K) (labels : ℕ) (row edges : List (Option Edge)) (spot : Spot K)
      → labels ≡ labels_of height breadth state → IsRow step states at state labels row → IsLaid state row edges spot
      → IsSpotFor height breadth step states edges at state spot
  spot_from_row at state labels row edges spot all is laid = record {
    deep = laid.deep;
    keeps = laid.keeps;
    labels = laid.labels ∙ is.whole ∙ all;
    slots = laid.slots;
    each = λ label within.
        let inside : label < length row = omega (arith, within, laid.labels) in
        subst (λ o. IsEdgeTo states at state.depth o (step state.depth state.kept label))
        (sym (laid.each label inside)) (is.each label (omega (arith, inside, is.whole)));
  }

  pub laid_more : (at : ℕ) (state : State K) (labels : ℕ) (row : List (Option Edge)) (spot : Spot K) (old new : Web K)
      (more : List (Option Edge))
      → slice_get states at ≡ Some state → labels ≡ labels_of height breadth state
      → IsRow step states at state labels row → IsLaid state row new.edges.items spot
      → new.edges.items ≡ old.edges.items ++ more → new.spots.items ≡ old.spots.items ++ spot ∷ []
      → AreLaid height breadth step states at old → AreLaid height breadth step states (at + 1) new
  laid_more at state labels row spot old new more here all is laid edges_are spots_are h = record {
    whole = ap length spots_are ∙ length-append old.spots.items (spot ∷ []) ∙ ap (λ n. n + 1) h.whole;
    each = λ i one its there own. ⊎_elim
        (λ earlier.
        let was = get_back old.spots.items (spot ∷ []) i its (omega (arith, earlier, h.whole))
        (sym (ap (λ l. slice_get l i) spots_are) ∙ own) in
        subst (λ es. IsSpotFor height breadth step states es i one its) (sym edges_are)
        (grown old.edges.items more i one its (h.each i one its there was)))
        (λ late.
        let within = slice_get_within new.spots.items i its own in
        let same : i ≡ at = omega (
          arith,
          late,
          within,
          ap length spots_are,
          length-append old.spots.items (spot ∷ []),
          h.whole,
        ) in
        let one_is = some_same state one (sym here ∙ ap (slice_get states) (sym same) ∙ there) in
        let last : slice_get new.spots.items i ≡ Some spot = ap (λ l. slice_get l i) spots_are
        ∙ slice_get-get_or (old.spots.items ++ spot ∷ []) i spot
        (omega (arith, within, ap length spots_are))
        ∙ ap (λ s. Some s) (get_or_push old.spots.items spot spot i (omega (arith, same, h.whole))) in
        let its_is = some_same spot its (sym last ∙ own) in
        let Q : State K → Spot K → Type 0 = λ s p. IsSpotFor height breadth step states new.edges.items i s p in
        subst (λ s. Q s its) one_is (subst (λ p. Q state p) its_is
        (subst (λ n. IsSpotFor height breadth step states new.edges.items n state spot) (sym same)
        (spot_from_row at state labels row new.edges.items spot all is laid))))
        (cases_lt i at);
  }

  pub laid_first : (web : Web K) → web.spots.items ≡ [] → AreLaid height breadth step states 0 web
  laid_first web none = record {
    whole = ap length none;
    each = λ i one its there own. let e : None ≡ Some its = sym (ap (λ l. slice_get l i) none) ∙ own in cc;
  }

-- ---- the web

module _ {K : Type 0} {start : K} {height : ℕ} {breadth : ℕ → ℕ} {step : ℕ → K → ℕ → Option (K × ℕ)}
    (states : List (State K)) (all : AreAllStates start height breadth step states) (count : ℕ) (web : Web K)
    (laid : AreLaid height breadth step states count web) (whole : length states ≡ count) where
  -- the element at a place that is there
  there_at : {X : Type 0} (xs : List X) (i : ℕ) → i < length xs → (x : X) × (slice_get xs i ≡ Some x)
  there_at xs i within = ⊎_elim
      (λ h. (h.0, h.2))
      (λ h. absurd (omega (arith, within, h.0)))
      (slice_get_cases xs i).1

  -- an edge to a place leads to the spot there
  leads_on : (at : ℕ) (depth : ℕ) (own : K × ℕ) (edge : Edge) → LeadsTo states at depth own edge
      → LeadsOn web at depth own.0 own.1 edge
  leads_on at depth own edge h =
      let within = slice_get_within states edge.to (state_at (depth + 1) own.0) h.there in
      let next = there_at web.spots.items edge.to (omega (arith, within, whole, laid.whole)) in
      let its = laid.each edge.to (state_at (depth + 1) own.0) next.0 h.there next.1 in
      record {
        later = h.later;
        next = next.0;
        is_next = next.1;
        deeper = its.deep;
        same = its.keeps;
        costs = h.costs;
      }

  edge_of_step : (at depth : ℕ) (edge : Option Edge) (own : Option (K × ℕ)) → IsEdgeTo states at depth edge own
      → IsEdgeOf web at depth edge own
  edge_of_step at depth None None h = tt
  edge_of_step at depth None (Some own) h = absurd h
  edge_of_step at depth (Some edge) None h = absurd h
  edge_of_step at depth (Some edge) (Some own) h = leads_on at depth own edge h

  spot_of_state : (at : ℕ) (state : State K) (spot : Spot K)
      → IsSpotFor height breadth step states web.edges.items at state spot
      → IsSpotOf height breadth step web at spot
  spot_of_state at state spot h = record {
    slots = h.slots;
    above = λ above. record {
      all = wide above;
      each = λ label within.
          subst (λ (d : ℕ). IsEdgeOf web at d (slot_edge web.edges.items spot label) (step d spot.kept label)) (sym h.deep)
          (subst (λ (k : K). IsEdgeOf web at state.depth (slot_edge web.edges.items spot label) (step state.depth k label)) (sym h.keeps)
          (edge_of_step at state.depth (slot_edge web.edges.items spot label) (step state.depth state.kept label)
          (h.each label within)));
    };
    ends = ends;
  }
    where
      wide : spot.depth < height → spot.labels ≡ breadth spot.depth
      wide above =
          let up : state.depth < height = omega (arith, above, h.deep) in
          let test : nat_lt state.depth height ≡ true = grind (arith, nat_tests) in
          h.labels ∙ ap (λ b. if b then breadth state.depth else 0) test ∙ ap breadth (sym h.deep)

      ends : height ≤ spot.depth → spot.labels ≡ 0
      ends past =
          let down : height ≤ state.depth = omega (arith, past, h.deep) in
          let test : nat_lt state.depth height ≡ false = grind (arith, nat_tests) in
          h.labels ∙ ap (λ b. if b then breadth state.depth else 0) test

  pub web_from_laid : IsWeb start height breadth step web
  web_from_laid =
      let some = slice_get_within states 0 (state_at 0 start) all.are.first in
      let root = there_at web.spots.items 0 (omega (arith, some, whole, laid.whole)) in
      let its = laid.each 0 (state_at 0 start) root.0 all.are.first root.1 in
      record {
        few = omega (arith, laid.whole, whole, all.few);
        root = root.0;
        is_root = root.1;
        first = its.deep;
        begins = its.keeps;
        spots = λ at spot is.
            let within = slice_get_within web.spots.items at spot is in
            let state = there_at states at (omega (arith, within, whole, laid.whole)) in
            spot_of_state at state.0 spot (laid.each at state.0 spot state.1 is);
      }
