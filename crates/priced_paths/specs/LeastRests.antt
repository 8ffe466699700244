-- The least sums of what is left, worked from the last place back, and the sums of paths by them.
use Rattle.std.specs.Prelude.{ℕ, zero, suc, ◌+◌, ◌-◌, ◌*◌, ◌||◌, nat_lt, Bool, List, [], ◌∷◌, Option, Some, None, option_and_then, option_map, min, length, if◌then◌else◌}
use Rattle.floor_graphs.specs.Cases.{least_below}
use Rattle.floor_graphs.specs.Graphs.{units_of}
use Rattle.priced_paths.specs.CaseGraphs.{Case}
use Rattle.priced_paths.specs.Tolls.{charged_to, has_reached, sum_of}
use Rattle.priced_paths.specs.declared.web.TheConstants.{MOST_COST}

-- how many columns there are to choose from at a place
abbrev pub Breadth : Type 0
Breadth = ℕ → ℕ

-- the step at a place from what is kept under a number: what is kept behind it, and what it costs
abbrev pub Steps : Type 0 → Type 0
Steps K = ℕ → K → ℕ → Option (K × ℕ)

-- what a step costs in a case, and what it is charged, with what is left behind it; none where the
-- case has no such step, or nothing leads on behind it
abbrev pub sum_through : Case → ℕ → Option ℕ → Option ℕ → Option ℕ
sum_through case cost toll rest =
    option_map (λ sum. case.rate.scale * min cost MOST_COST + sum) (sum_of toll rest)

-- the same of a step, by what is left behind what is kept; none where there is no such step
abbrev pub through : {K : Type 0} → Case → Option ℕ → (K → Option ℕ) → Option (K × ℕ) → Option ℕ
through case toll rest None = None
through case toll rest (Some next) = sum_through case next.1 toll (rest next.0)

-- the least sum over all ways of so many steps from a place on, from what is kept there, that come
-- to what the case asks for, or have come to it before; none where there is no such way
abbrev pub least_rest : {K : Type 0} → Breadth → Steps K → Case → ℕ → ℕ → K → Bool → Option ℕ
least_rest breadth step case zero i kept reached = if reached then Some 0 else None
least_rest breadth step case (suc left) i kept reached =
    least_below (λ k. through case (case.toll i k)
    (λ next. least_rest breadth step case left (i + 1) next (reached || case.reaches i k)) (step i kept k)) (breadth i)

-- the step of one of the columns that there are to choose from
abbrev pub step_in : {K : Type 0} → Breadth → Steps K → Steps K
step_in breadth step i kept k = if nat_lt k (breadth i) then step i kept k else None

-- what is kept behind a path from a place on; none where one of its steps isn't there
abbrev pub kept_behind : {K : Type 0} → Breadth → Steps K → ℕ → K → List ℕ → Option K
kept_behind breadth step i kept [] = Some kept
kept_behind breadth step i kept (k ∷ path) =
    option_and_then (λ next. kept_behind breadth step (i + 1) next.0 path) (step_in breadth step i kept k)

-- the least sum of what is left behind a path, in a tree of this height, where this is kept at
-- first; none where one of the path's steps isn't there
abbrev pub rest_of_path : {K : Type 0} → ℕ → K → Breadth → Steps K → Case → List ℕ → Option ℕ
rest_of_path height start breadth step case path =
    option_and_then (λ kept. least_rest breadth step case (height - length path) (length path) kept
    (has_reached case.reaches path)) (kept_behind breadth step 0 start path)

-- what a path has settled, so much, and was charged in a case, with what is left, less the debt, in
-- units of penalty, rounded up
abbrev pub sum_in_case : {K : Type 0} → ℕ → K → Breadth → Steps K → Case → ℕ → List ℕ → Option ℕ
sum_in_case height start breadth step case settled path =
    option_map (λ sum. units_of case.rate (case.rate.scale * settled + sum))
    (sum_of (charged_to case.toll path) (rest_of_path height start breadth step case path))

-- the least of a path's sums in so many cases; none where it has none in any of them
abbrev pub least_sum : {K : Type 0} → ℕ → K → Breadth → Steps K → (ℕ → Case) → ℕ → ℕ → List ℕ → Option ℕ
least_sum height start breadth step case count settled path =
    least_below (λ k. sum_in_case height start breadth step (case k) settled path) count
