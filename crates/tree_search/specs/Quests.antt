-- What is sought at the ends of a tree's paths, and what a search tells of it within a budget that
-- is spent exactly where it must be (`IsExact`).
use Rattle.std.specs.Prelude.{◌≡◌, ◌≢◌, ℕ, ◌+◌, ◌<◌, ◌≤◌, ◌↔◌, ◌++◌, [], ◌∷◌, List, Option, Some, IsSome, IsSomeAnd, length}
use Rattle.std.specs.List.{AllByRecursion}
use Rattle.tree_search.specs.Answer.{IsBefore, IsLeaf}
use Rattle.tree_search.specs.Outcomes.{IfFound, IfSpent, IsSpent, OnNothing}
use Rattle.tree_search.specs.declared.outcome.Outcome.{Outcome}

-- lists that are sought step by step: which of them are live, so that more steps may follow, and
-- what each of these costs at least; which are lawful, and what each of these costs; and which of
-- two comes first
pub record Quest (E : Type 0) : Type 1 where
  pub IsLive : List E → Type 0
  pub floor : List E → Option ℕ
  pub IsLawful : List E → Type 0
  pub penalty : List E → ℕ
  pub IsEarlier : List E → List E → Type 0

-- the best: it is lawful, nothing lawful costs less, and it comes before all else that is lawful
-- and costs as much
pub record IsBest {E : Type 0} (quest : Quest E) (s : List E) : Type 0 where
  pub lawful : quest.IsLawful s
  pub least : (t : List E) → quest.IsLawful t → quest.penalty s ≤ quest.penalty t
  pub first : (t : List E) → quest.IsLawful t → quest.penalty t ≡ quest.penalty s → s ≢ t → quest.IsEarlier s t

-- nothing is lawful
abbrev pub HasNoLawful : {E : Type 0} → Quest E → Type 0
HasNoLawful quest = (s : List _) → quest.IsLawful s → ⊥

-- nothing lawful costs less than the bound
abbrev pub BoundsLawful : {E : Type 0} → Quest E → ℕ → Type 0
BoundsLawful quest bound = (s : List _) → quest.IsLawful s → bound ≤ quest.penalty s

-- ---- the tree

-- a live path to a list
pub record LivePath {E : Type 0} (live : List ℕ → Option ℕ) (there : List ℕ → List E) (p : List E) : Type 0 where
  pub path : List ℕ
  pub leads : there path ≡ p
  pub is_live : IsSome (live path)

-- a leaf at the end of a path to a list, of this value
pub record LeafAt {E : Type 0} (live : List ℕ → Option ℕ) (height : ℕ) (there : List ℕ → List E) (s : List E) (value : ℕ)
    : Type 0 where
  pub path : List ℕ
  pub leads : there path ≡ s
  pub leaf : IsLeaf live height path value

-- a path that is longer by a number leads one step on
pub record LeadsOn {E : Type 0} (there : List ℕ → List E) (path : List ℕ) (k : ℕ) : Type 0 where
  pub step : E
  pub is : there (path ++ k ∷ []) ≡ there path ++ step ∷ []

-- the live paths are exactly those to the live lists, a step for each number, each once and in
-- order, with their floors, and the leaves exactly those to the lawful ones, with their penalties;
-- and of two lists only one comes first
pub record IsTreeOf {E : Type 0} (quest : Quest E) (live : List ℕ → Option ℕ) (height : ℕ) (there : List ℕ → List E)
    : Type 0 where
  pub live_only : (path : List ℕ) → IsSome (live path) → quest.IsLive (there path)
  pub each_live : (p : List E) → quest.IsLive p → LivePath live there p
  pub floors : (path : List ℕ) (floor : ℕ) → live path ≡ Some floor → quest.floor (there path) ≡ Some floor
  pub once : (path other : List ℕ) → IsSome (live path) → IsSome (live other) → there path ≡ there other → path ≡ other
  pub order : (path other : List ℕ) → IsSome (live other) → length path ≡ length other → IsBefore path other
      → quest.IsEarlier (there path) (there other)
  pub lawful_only : (path : List ℕ) (value : ℕ) → IsLeaf live height path value
      → quest.IsLawful (there path) × (quest.penalty (there path) ≡ value)
  pub each_lawful : (s : List E) → quest.IsLawful s → LeafAt live height there s (quest.penalty s)
  pub root : there [] ≡ []
  pub on : (path : List ℕ) (k : ℕ) → LeadsOn there path k
  pub one_way : (s t : List E) → quest.IsEarlier s t → quest.IsEarlier t s → ⊥

-- ---- the answer

-- no list stands twice
abbrev pub AllDiffer : {E : Type 0} → List (List E) → Type 0
AllDiffer [] = Unit {0}
AllDiffer (p ∷ others) = AllByRecursion (λ other. p ≢ other) others × AllDiffer others

-- there are this many lists of a kind
pub record HasMany {E : Type 0} (Kind : List E → Type 0) (count : ℕ) : Type 0 where
  pub lists : List (List E)
  pub counted : length lists ≡ count
  pub differ : AllDiffer lists
  pub kind : AllByRecursion Kind lists

-- there are at most this many
abbrev pub HasAtMost : {E : Type 0} → (List E → Type 0) → ℕ → Type 0
HasAtMost Kind count = (lists : List (List _)) → AllDiffer lists → AllByRecursion Kind lists → length lists ≤ count

-- a live list of one step or more
abbrev pub IsLiveBegun : {E : Type 0} → Quest E → List E → Type 0
IsLiveBegun quest p = quest.IsLive p × (p ≢ [])

-- a live list that was less by a step before, where its floor was at most so much: how many there
-- are is the load of that number
pub record IsLoaded {E : Type 0} (quest : Quest E) (most : ℕ) (p : List E) : Type 0 where
  pub live : quest.IsLive p
  pub shorter : List E
  pub last : E
  pub is : p ≡ shorter ++ last ∷ []
  pub low : IsSomeAnd (quest.floor shorter) (λ floor. floor ≤ most)

-- the load of the least penalty, or with nothing lawful the number of all live lists, is above the
-- budget
pub record IsOverBudget {E : Type 0} (quest : Quest E) (budget : ℕ) : Type 0 where
  pub load : (s : List E) → IsBest quest s → HasMany (IsLoaded quest (quest.penalty s)) (budget + 1)
  pub whole : HasNoLawful quest → HasMany (IsLiveBegun quest) (budget + 1)

-- the best, with its penalty, whose load is within the budget
pub record IsBestWithin {E : Type 0} (quest : Quest E) (budget : ℕ) (s : List E) (penalty : ℕ) : Type 0 where
  pub best : IsBest quest s
  pub charged : penalty ≡ quest.penalty s
  pub load : HasAtMost (IsLoaded quest penalty) budget

-- nothing is lawful, and all live lists are within the budget
pub record IsNothingWithin {E : Type 0} (quest : Quest E) (budget : ℕ) : Type 0 where
  pub none : HasNoLawful quest
  pub load : HasAtMost (IsLiveBegun quest) budget

-- the least number whose load is above the budget; nothing lawful costs less, and the load of the
-- least penalty, or with nothing lawful the number of all live lists, is above the budget too
pub record IsLeastOver {E : Type 0} (quest : Quest E) (budget bound : ℕ) : Type 0 where
  pub many : HasMany (IsLoaded quest bound) (budget + 1)
  pub least : (x : ℕ) → x < bound → HasAtMost (IsLoaded quest x) budget
  pub reached : BoundsLawful quest bound
  pub over : IsOverBudget quest budget

-- a live path to the best, whose load is within the budget
pub record LeadsToBest {E : Type 0} (quest : Quest E) (live : List ℕ → Option ℕ) (there : List ℕ → List E) (budget : ℕ)
    (path : List ℕ) (penalty : ℕ) : Type 0 where
  pub is_live : IsSome (live path)
  pub best : IsBestWithin quest budget (there path) penalty

-- the answer of a search within a budget: spent exactly where it must be
pub record IsExact {E : Type 0} (quest : Quest E) (live : List ℕ → Option ℕ) (there : List ℕ → List E) (budget : ℕ)
    (outcome : Outcome) : Type 0 where
  pub found : IfFound outcome (LeadsToBest quest live there budget)
  pub nothing : OnNothing outcome (IsNothingWithin quest budget)
  pub over : IsSpent outcome ↔ IsOverBudget quest budget
  pub spent : IfSpent outcome (IsLeastOver quest budget)
