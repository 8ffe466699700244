-- The least sum of what is left is no more than what any leaf below has yet to pay (`rest_is_low`),
-- so the least of the sums of all cases is a floor (`case_sums_are_floors`).
use Rattle.std.proofs.Common.{◌≡◌, ℕ, zero, suc, ◌+◌, ◌-◌, ◌*◌, ◌/◌, ◌<◌, ◌≤◌, ◌||◌, ⊎_elim, Bool, true, false, List, [], ◌∷◌, ◌++◌, length, Option, Some, None, option_and_then, option_map, nat_lt, refl, sym, ap, ap₂, subst, ◌∙◌, arith, append_assoc, append-nil, length-append, if◌then◌else◌}
use Rattle.std.specs.Prelude.{IsSomeAnd, min}
use Rattle.std.proofs.Math.Nat.{div-lt_iff_lt-mul, mul-add, mul-le-mul_left}
use Rattle.std.proofs.lemmas.Bool.{cases_lt, lt-ltb}
use Rattle.tree_search.specs.Answer.{IsLeaf}
use Rattle.floor_graphs.specs.Cases.{least_below}
use Rattle.floor_graphs.specs.Graphs.{AreFloors, Rate, units_of}
use Rattle.floor_graphs.specs.Numbers.{lesser_low-first, lesser_low-second}
use Rattle.priced_paths.specs.CaseGraphs.{Case, case_of}
use Rattle.priced_paths.specs.Pricings.{IsPriced, IsPricedStep}
use Rattle.priced_paths.specs.Tolls.{charged_to, has_reached, sum_of}
use Rattle.priced_paths.specs.declared.web.TheConstants.{MOST_COST}
use Rattle.priced_paths.proofs.TollSteps.{charged-append, charged_start, reached-append}
use Rattle.priced_paths.specs.LeastRests.{Breadth, Steps, kept_behind, least_rest, least_sum, rest_of_path, step_in, sum_in_case, sum_through, through}

-- ---- numbers

-- the least of some sums is no higher than any of them
pub least_low : (sum : ℕ → Option ℕ) (count k : ℕ) → k < count → (value : ℕ) → IsSomeAnd (sum k) (λ x. x ≤ value)
    → IsSomeAnd (least_below sum count) (λ x. x ≤ value)
least_low sum zero k within value h = absurd (omega (arith, within))
least_low sum (suc count) k within value h =
    ⊎_elim
    (λ before. lesser_low-first (least_below sum count) (sum count) value (least_low sum count k before value h))
    (λ after.
    let same : k ≡ count = omega (arith, after, within) in
    lesser_low-second (least_below sum count) (sum count) value
    (subst (λ (j : ℕ). IsSomeAnd (sum j) (λ x. x ≤ value)) same h))
    (cases_lt k count)

-- the parts of a sum
pub record AreParts (one other : Option ℕ) (sum : ℕ) : Type 0 where
  pub first : ℕ
  pub second : ℕ
  pub one_is : one ≡ Some first
  pub other_is : other ≡ Some second
  pub sums : sum ≡ first + second

pub sum_parts : (one other : Option ℕ) (sum : ℕ) → sum_of one other ≡ Some sum → AreParts one other sum
sum_parts None other sum h = cc
sum_parts (Some x) None sum h = cc
sum_parts (Some x) (Some y) sum h = record { first = x; second = y; one_is = refl; other_is = refl; sums = cc }

-- what is paid at most at the rate is in units no more than the value
units_low : (rate : Rate) → 0 < rate.scale → (paid value : ℕ) → paid ≤ rate.scale * value + rate.debt
    → units_of rate paid ≤ value
units_low rate some paid value low =
    let n = paid - rate.debt + (rate.scale - 1) in
    let less : n < (value + 1) * rate.scale = omega (arith, low, some) in
    let quotient : n / rate.scale < value + 1 = (div-lt_iff_lt-mul some).1 less in omega (arith, quotient)

-- a sum through a step, with what was paid before the step, is no more than what is paid in the end
paid_low : (scale own next cost capped before toll after all left : ℕ) → capped ≤ cost → own + cost ≤ next
    → after ≡ before + toll → left + (scale * next + after) ≤ all
    → scale * capped + (toll + left) ≤ all - (scale * own + before)
paid_low scale own next cost capped before toll after all left few paid grown low =
    let most : scale * (own + cost) ≤ scale * next = mul-le-mul_left scale paid in
    let both : scale * (own + cost) ≡ scale * own + scale * cost = mul-add scale own cost in
    let fewer : scale * capped ≤ scale * cost = mul-le-mul_left scale few in
    omega (arith, most, both, fewer, grown, low)

step_low : (case : Case) (own next cost before toll after all : ℕ) (rest : Option ℕ) → own + cost ≤ next
    → after ≡ before + toll
    → IsSomeAnd rest (λ left. left + (case.rate.scale * next + after) ≤ all)
    → IsSomeAnd (sum_through case cost (Some toll) rest) (λ sum. sum ≤ all - (case.rate.scale * own + before))
step_low case own next cost before toll after all None paid grown low = absurd low
step_low case own next cost before toll after all (Some left) paid grown low =
    paid_low case.rate.scale own next cost (min cost MOST_COST) before toll after all left (omega arith) paid grown low

back_again : (spent all : ℕ) (sum : Option ℕ) → spent ≤ all → IsSomeAnd sum (λ x. x ≤ all - spent)
    → IsSomeAnd sum (λ x. x + spent ≤ all)
back_again spent all None room low = absurd low
back_again spent all (Some x) room low = omega (arith, room, low)

no_more : (spent all : ℕ) (rest : Option ℕ) → IsSomeAnd rest (λ left. left + spent ≤ all) → spent ≤ all
no_more spent all None low = absurd low
no_more spent all (Some left) low = omega (arith, low)

-- ---- the way to a leaf

module _ {K : Type 0} (live : List ℕ → Option ℕ) (height : ℕ) {kept : List ℕ → K} {settled : List ℕ → ℕ}
    {breadth : Breadth} {step : Steps K}
    (steps : (path rest : List ℕ) (child value : ℕ) → IsLeaf live height ((path ++ child ∷ []) ++ rest) value
    → IsPricedStep kept settled breadth step path child) (case : Case) where
  -- what is spent of a path that was charged so much
  abbrev spent : List ℕ → ℕ → ℕ
  spent path charged = case.rate.scale * settled path + charged

  abbrev IsLow : List ℕ → ℕ → ℕ → ℕ → Type 0
  IsLow path left charged all =
      IsSomeAnd (least_rest breadth step case left (length path) (kept path) (has_reached case.reaches path))
      (λ rest. rest + spent path charged ≤ all)

  at_end : (path : List ℕ) (reached : Bool) (charged all : ℕ) → reached ≡ true → spent path charged ≤ all
      → IsSomeAnd (if reached then Some 0 else None) (λ rest. rest + spent path charged ≤ all)
  at_end path true charged all e low = omega (arith, low)
  at_end path false charged all e low = cc

  -- by a step that is there
  by_step : (path rest : List ℕ) (k : ℕ) (its : IsPricedStep kept settled breadth step path k) (charged toll after all : ℕ)
      → case.toll (length path) k ≡ Some toll → after ≡ charged + toll → IsLow (path ++ k ∷ []) (length rest) after all
      → IsLow path (suc (length rest)) charged all
  by_step path rest k its charged toll after all is_toll grown low =
      let child = path ++ k ∷ [] in
      let size : length child ≡ length path + 1 = length-append path (k ∷ []) in
      let left = least_rest breadth step case (length rest) (length path + 1) (kept child)
      (has_reached case.reaches path || case.reaches (length path) k) in
      let same : least_rest breadth step case (length rest) (length child) (kept child) (has_reached case.reaches child)
      ≡ left = ap₂ (λ i b. least_rest breadth step case (length rest) i (kept child) b) size
      (reached-append case.reaches path k) in
      let behind : IsSomeAnd left (λ x. x + spent child after ≤ all) = subst (λ (o : Option ℕ). IsSomeAnd o
      (λ x. x + spent child after ≤ all)) same low in
      let behind_all : ℕ → K → Option ℕ = λ j next. least_rest breadth step case (length rest) (length path + 1) next
      (has_reached case.reaches path || case.reaches (length path) j) in
      let sums : ℕ → Option ℕ = λ j. through case (case.toll (length path) j) (behind_all j) (step (length path) (kept path) j) in
      let its_sum : sums k ≡ sum_through case its.cost (Some toll) left =
      ap (through case (case.toll (length path) k) (behind_all k)) its.is_step
      ∙ ap (λ o. sum_through case its.cost o left) is_toll in
      let here = step_low case (settled path) (settled child) its.cost charged toll after all left its.paid grown behind in
      let room : spent child after ≤ all = no_more (spent child after) all left behind in
      let most = mul-le-mul_left case.rate.scale its.paid in
      let both = mul-add case.rate.scale (settled path) its.cost in
      back_again (spent path charged) all (least_below sums (breadth (length path))) (omega (arith, room, most, both, grown))
      (least_low sums (breadth (length path)) k its.within (all - spent path charged)
      (subst (λ (o : Option ℕ). IsSomeAnd o (λ x. x ≤ all - spent path charged)) (sym its_sum) here))

  -- what is left of a path is no more than what a leaf below has paid beyond it
  pub rest_is_low : (rest path : List ℕ) (value charged all : ℕ) → IsLeaf live height (path ++ rest) value
      → charged_to case.toll path ≡ Some charged → charged_to case.toll (path ++ rest) ≡ Some all
      → has_reached case.reaches (path ++ rest) ≡ true
      → IsLow path (length rest) charged (spent (path ++ rest) all)
  rest_is_low [] path value charged all leaf is_charged is_all reached =
      let whole : path ++ [] ≡ path = append-nil path in
      let same : charged ≡ all = let e = sym is_charged ∙ sym (ap (charged_to case.toll) whole) ∙ is_all in cc in
      let paid : settled (path ++ []) ≡ settled path = ap settled whole in
      let scaled : case.rate.scale * settled (path ++ []) ≡ case.rate.scale * settled path =
      ap (λ n. case.rate.scale * n) paid in
      at_end path (has_reached case.reaches path) charged (spent (path ++ []) all)
      (sym (ap (has_reached case.reaches) whole) ∙ reached) (omega (arith, same, scaled))
  rest_is_low (k ∷ rest) path value charged all leaf is_charged is_all reached =
      let child = path ++ k ∷ [] in
      let one : path ++ k ∷ rest ≡ child ++ rest = sym (append_assoc path (k ∷ []) rest) in
      let below = subst (λ (p : List ℕ). IsLeaf live height p value) one leaf in
      let its = steps path rest k value below in
      let all_of = sym (ap (charged_to case.toll) one) ∙ is_all in
      let own = charged_start case.toll child rest all all_of in
      let parts = sum_parts (charged_to case.toll path) (case.toll (length path) k) own.0
      (sym (charged-append case.toll path k) ∙ own.1) in
      let same : charged ≡ parts.first = let e = sym is_charged ∙ parts.one_is in cc in
      subst (λ (p : List ℕ). IsLow path (suc (length rest)) charged (spent p all)) (sym one)
      (by_step path rest k its charged parts.second own.0 (spent (child ++ rest) all) parts.other_is
      (omega (arith, parts.sums, same))
      (rest_is_low rest child value own.0 all below own.1 all_of (sym (ap (has_reached case.reaches) one) ∙ reached)))

  -- the steps of a path on the way to a leaf are there
  kept_on : (more path rest : List ℕ) (value : ℕ) → IsLeaf live height ((path ++ more) ++ rest) value
      → kept_behind breadth step (length path) (kept path) more ≡ Some (kept (path ++ more))
  kept_on [] path rest value leaf = ap (λ p. Some (kept p)) (sym (append-nil path))
  kept_on (k ∷ more) path rest value leaf =
      let child = path ++ k ∷ [] in
      let one : path ++ k ∷ more ≡ child ++ more = sym (append_assoc path (k ∷ []) more) in
      let onward = subst (λ (p : List ℕ). IsLeaf live height (p ++ rest) value) one leaf in
      let below = subst (λ (p : List ℕ). IsLeaf live height p value) (append_assoc child more rest) onward in
      let its = steps path (more ++ rest) k value below in
      let within : nat_lt k (breadth (length path)) ≡ true = lt-ltb k (breadth (length path)) its.within in
      let is_step : step_in breadth step (length path) (kept path) k ≡ Some (kept child, its.cost) =
      ap (λ b. if b then step (length path) (kept path) k else None) within ∙ its.is_step in
      let size : length path + 1 ≡ length child = sym (length-append path (k ∷ [])) in
      ap (option_and_then (λ next. kept_behind breadth step (length path + 1) next.0 more)) is_step
      ∙ ap (λ i. kept_behind breadth step i (kept child) more) size
      ∙ kept_on more child rest value onward
      ∙ ap (λ p. Some (kept p)) (sym one)

  pub kept_of_path : (path rest : List ℕ) (value : ℕ) → IsLeaf live height (path ++ rest) value
      → kept_behind breadth step 0 (kept []) path ≡ Some (kept path)
  kept_of_path path rest value leaf = kept_on path [] rest value leaf

  -- so it is of the path's own height
  pub rest_of_path_is_low : (path rest : List ℕ) (value charged all : ℕ) → IsLeaf live height (path ++ rest) value
      → charged_to case.toll path ≡ Some charged → charged_to case.toll (path ++ rest) ≡ Some all
      → has_reached case.reaches (path ++ rest) ≡ true
      → IsSomeAnd (rest_of_path height (kept []) breadth step case path)
      (λ left. left + spent path charged ≤ spent (path ++ rest) all)
  rest_of_path_is_low path rest value charged all leaf is_charged is_all reached =
      let left : length rest ≡ height - length path = omega (arith, leaf.0, length-append path rest) in
      let here : rest_of_path height (kept []) breadth step case path
      ≡ least_rest breadth step case (height - length path) (length path) (kept path) (has_reached case.reaches path) =
      ap (option_and_then (λ k. least_rest breadth step case (height - length path) (length path) k
      (has_reached case.reaches path))) (kept_of_path path rest value leaf) in
      let low = subst (λ (n : ℕ). IsLow path n charged (spent (path ++ rest) all)) left
      (rest_is_low rest path value charged all leaf is_charged is_all reached) in
      subst (λ (o : Option ℕ). IsSomeAnd o (λ x. x + spent path charged ≤ spent (path ++ rest) all)) (sym here) low

  -- a path's sum in a case, by what it has spent, is no more than what is due in the end
  pub sum_is_low : 0 < case.rate.scale → (path rest : List ℕ) (value own most all : ℕ)
      → IsLeaf live height (path ++ rest) value → charged_to case.toll (path ++ rest) ≡ Some all
      → has_reached case.reaches (path ++ rest) ≡ true
      → case.rate.scale * own + spent (path ++ rest) all
      ≤ case.rate.scale * most + case.rate.scale * settled path + case.rate.debt
      → IsSomeAnd (sum_in_case height (kept []) breadth step case own path) (λ sum. sum ≤ most)
  sum_is_low some path rest value own most all leaf is_charged reached due =
      let first = charged_start case.toll path rest all is_charged in
      at (charged_to case.toll path) (rest_of_path height (kept []) breadth step case path) first.0 first.1
      (rest_of_path_is_low path rest value first.0 all leaf first.1 is_charged reached)
    where
      at : (charged left : Option ℕ) (n : ℕ) → charged ≡ Some n
          → IsSomeAnd left (λ left. left + spent path n ≤ spent (path ++ rest) all)
          → IsSomeAnd (option_map (λ sum. units_of case.rate (case.rate.scale * own + sum)) (sum_of charged left))
          (λ sum. sum ≤ most)
      at None left n is low = cc
      at (Some m) None n is low = absurd low
      at (Some m) (Some x) n is low =
          let same : m ≡ n = cc in
          units_low case.rate some (case.rate.scale * own + (m + x)) most (omega (arith, low, same, due))

-- the least of the sums of all cases is a floor
pub case_sums_are_floors : {K : Type 0} {live : List ℕ → Option ℕ} {height : ℕ} {kept : List ℕ → K}
    {settled : List ℕ → ℕ} {breadth : Breadth} {step : Steps K} {toll : ℕ → ℕ → ℕ → Option ℕ}
    {reaches : ℕ → ℕ → ℕ → Bool} {count : ℕ} {rate : ℕ → Rate}
    → IsPriced live height kept settled breadth step toll reaches count rate → ((k : ℕ) → 0 < (rate k).scale)
    → AreFloors live height
    (λ path. least_sum height (kept []) breadth step (case_of toll reaches rate) count (settled path) path)
case_sums_are_floors {live = live} {height = height} {kept = kept} {settled = settled} {breadth = breadth} {step = step} {toll = toll}
    {reaches = reaches} {count = count} {rate = rate} priced some path rest value leaf =
    let its = priced.leaves (path ++ rest) value leaf in
    let due = its.2.due in
    least_low (λ k. sum_in_case height (kept []) breadth step (case_of toll reaches rate k) (settled path) path) count
    its.0 its.1 value
    (sum_is_low live height priced.steps (case_of toll reaches rate its.0) (some its.0) path rest value (settled path) value
    its.2.charged leaf its.2.is_charged its.2.reached (omega (arith, due)))
