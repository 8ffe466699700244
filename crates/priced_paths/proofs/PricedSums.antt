-- The sums of a path are those of its place (`priced_sum-at`), one without a spot has none
-- (`priced_sum-none`), and a place goes on along a path (`place_on`).
use Rattle.std.proofs.Common.{◌≡◌, ℕ, zero, suc, ◌+◌, ◌*◌, ◌<◌, ◌≤◌, ◌||◌, List, [], ◌∷◌, ◌++◌, length, Option, Some, None, option_map, Bool, false, refl, sym, ap, ap₂, subst, ◌∙◌, arith, length-append}
use Rattle.std.proofs.lemmas.List.{get_or_past}
use Rattle.floor_graphs.specs.Graphs.{units_of}
use Rattle.floor_graphs.specs.Numbers.{lesser_of, number_in}
use Rattle.floor_graphs.specs.Cases.{least_below}
use Rattle.priced_paths.specs.declared.guide.Place.{Place}
use Rattle.priced_paths.specs.declared.guide.Standing.{Standing}
use Rattle.priced_paths.specs.declared.web.Edge.{Edge}
use Rattle.priced_paths.specs.declared.web.Web.{Web}
use Rattle.priced_paths.specs.Tolls.{sum_of, charged_to, has_reached}
use Rattle.priced_paths.specs.Webs.{IsSound, depth_in, edge_in, spot_at}
use Rattle.priced_paths.specs.CaseGraphs.{Case, nodes_of}
use Rattle.priced_paths.specs.Places.{IsCheap, IsPlaceOf, case_sum, charge_or, least_at, node_or, numbers_of, paid_in, priced_sum, standing, standing_by, standing_in, standing_of, sum_by}
use Rattle.priced_paths.proofs.TollSteps.{charged-append, reached-append}
use Rattle.priced_paths.proofs.Spots.{spot-append}

-- the first sums alone decide
least_below-same : (sum other : ℕ → Option ℕ) (count : ℕ) → ((k : ℕ) → k < count → sum k ≡ other k)
    → least_below sum count ≡ least_below other count
least_below-same sum other zero same = refl
least_below-same sum other (suc count) same =
    ap₂ lesser_of (least_below-same sum other count (λ k within. same k (omega (arith, within)))) (same count
    (omega arith))

least_below-none : (sum : ℕ → Option ℕ) (count : ℕ) → ((k : ℕ) → k < count → sum k ≡ None) → least_below sum
    count ≡ None
least_below-none sum zero none = refl
least_below-none sum (suc count) none =
    ap₂ lesser_of (least_below-none sum count (λ k within. none k (omega (arith, within)))) (none count (omega arith))

no_number : (numbers : List (Option ℕ)) (node : ℕ) → length numbers ≤ node → number_in numbers node ≡ None
no_number numbers node past = get_or_past numbers node None past

-- the sum in a case of a path whose spot is known
module _ {K : Type 0} (web : Web K) (case : Case) (settled : List ℕ → ℕ) (numbers : List (Option ℕ))
    (whole : length numbers ≡ nodes_of web) where
  case_sum-at : (path : List ℕ) (at its_settled : ℕ) (its : Option Standing) → spot_at web path ≡ Some at
      → standing_of case path ≡ its → settled path ≡ its_settled
      → case_sum web case settled numbers path ≡ sum_by web case.rate numbers its_settled at its
  case_sum-at path at its_settled its is stands own =
      ap₂ (λ s o. option_map (λ n. units_of case.rate (case.rate.scale * settled path + charge_or s + n))
      (number_in numbers (node_or web o s))) stands is
      ∙ ap (λ x. option_map (λ n. units_of case.rate (case.rate.scale * x + charge_or its + n))
      (number_in numbers (node_or web (Some at) its))) own
      ∙ each its
    where
      each : (s : Option Standing)
          → option_map (λ n. units_of case.rate (case.rate.scale * its_settled + charge_or s + n))
          (number_in numbers (node_or web (Some at) s)) ≡ sum_by web case.rate numbers its_settled at s
      each None = ap (option_map (λ n. units_of case.rate (case.rate.scale * its_settled + 0 + n)))
          (no_number numbers (nodes_of web) (omega (arith, whole)))
      each (Some stood) = refl

  case_sum-none : (path : List ℕ) → spot_at web path ≡ None → case_sum web case settled numbers path ≡ None
  case_sum-none path is =
      ap (λ o. option_map (λ n. units_of case.rate (paid_in case settled path + n))
      (number_in numbers (node_or web o (standing_of case path)))) is
      ∙ ap (option_map (λ n. units_of case.rate (paid_in case settled path + n)))
      (no_number numbers (nodes_of web) (omega (arith, whole)))

module _ {K : Type 0} (web : Web K) (case : ℕ → Case) (count : ℕ) (settled : List ℕ → ℕ)
    (numbers : List (List (Option ℕ)))
    (whole : (k : ℕ) → k < count → length (numbers_of numbers k) ≡ nodes_of web) where
  pub priced_sum-at : (place : Place) (path : List ℕ) (its_settled : ℕ) → IsPlaceOf web case count place path
      → settled path ≡ its_settled
      → priced_sum web case count settled numbers path ≡ least_at web case count numbers its_settled place
  priced_sum-at place path its_settled h own =
      least_below-same (λ k. case_sum web (case k) settled (numbers_of numbers k) path)
      (λ k. sum_by web (case k).rate (numbers_of numbers k) its_settled place.at (standing_in place k)) count
      (λ k within. case_sum-at web (case k) settled (numbers_of numbers k) (whole k within) path place.at its_settled
      (standing_in place k) h.at (sym (h.standings k within)) own)

  pub priced_sum-none : (path : List ℕ) → spot_at web path ≡ None → priced_sum web case count settled numbers
      path ≡ None
  priced_sum-none path is =
      least_below-none (λ k. case_sum web (case k) settled (numbers_of numbers k) path) count
      (λ k within. case_sum-none web (case k) settled (numbers_of numbers k) (whole k within) path is)

-- how a path stands with a step more
standing-append : (case : Case) (path : List ℕ) (label : ℕ) → standing_of case (path ++ label ∷ [])
    ≡ standing_by (case.toll (length path) label) (case.reaches (length path) label) (standing_of case path)
standing-append case path label =
    ap₂ (λ c r. option_map (standing r) c) (charged-append case.toll path label)
    (reached-append case.reaches path label)
    ∙ each (has_reached case.reaches path) (case.reaches (length path) label) (charged_to case.toll path)
    (case.toll (length path) label)
  where
    each : (r more : Bool) (c t : Option ℕ)
        → option_map (standing (r || more)) (sum_of c t) ≡ standing_by t more (option_map (standing r) c)
    each r more None t = refl
    each r more (Some c) None = refl
    each r more (Some c) (Some t) = refl

module _ {K : Type 0} {height : ℕ} {breadth : ℕ → ℕ} (web : Web K) (case : ℕ → Case) (count : ℕ)
    (sound : IsSound height breadth web) where
  -- the place of the empty path
  pub place_begins : (place : Place) → place.at ≡ 0
      → ((k : ℕ) → k < count → standing_in place k ≡ Some (standing false 0))
      → IsPlaceOf web case count place []
  place_begins place at_is standings = record {
    at = ap (λ n. Some n) (sym at_is);
    within = omega (arith, at_is, sound.some);
    deep = ap (depth_in web) at_is ∙ sound.root;
    standings = standings;
    cheap = λ k within. rw (standings k within) (omega arith);
  }

  -- the place behind a step
  pub place_on : (place next : Place) (path : List ℕ) (label depth : ℕ) (edge : Edge) → IsPlaceOf web case
      count place path
      → depth ≡ depth_in web place.at → edge_in web place.at label ≡ Some edge → next.at ≡ edge.to
      → ((k : ℕ) → k < count → standing_in next k
      ≡ standing_by ((case k).toll depth label) ((case k).reaches depth label) (standing_in place k))
      → ((k : ℕ) → k < count → IsCheap (depth + 1) (standing_in next k))
      → IsPlaceOf web case count next (path ++ label ∷ [])
  place_on place next path label depth edge h is leads to standings cheap =
      let its = sound.edges place.at label edge leads in
      let deep : depth ≡ length path = is ∙ h.deep in
      let long : length (path ++ label ∷ []) ≡ depth + 1 = omega (arith, deep, length-append path (label ∷ [])) in
      record {
        at = spot-append web path label place.at edge h.at leads ∙ ap (λ n. Some n) (sym to);
        within = omega (arith, to, its.within);
        deep = ap (depth_in web) to ∙ its.deeper ∙ ap (λ (d : ℕ). d + 1) (sym is) ∙ sym long;
        standings = λ k within. standings k within
            ∙ ap₂ (λ d s. standing_by ((case k).toll d label) ((case k).reaches d label) s) deep (h.standings k within)
            ∙ sym (standing-append (case k) path label);
        cheap = λ k within. subst (λ (d : ℕ). IsCheap d (standing_in next k)) (sym long) (cheap k within);
      }
