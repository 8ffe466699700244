-- What a search finds in a tree, whose live paths have floors.
use Rattle.std.specs.Prelude.{◌≡◌, ◌≢◌, ℕ, ◌+◌, ◌<◌, ◌≤◌, ◌⊎◌, ◌++◌, [], ◌∷◌, List, Option, Some, IsSome, length}
use Rattle.std.specs.List.{AllByRecursion}

-- the path leads to a leaf of this value
abbrev pub IsLeaf : (List ℕ → Option ℕ) → ℕ → List ℕ → ℕ → Type 0
IsLeaf live height path value = (length path ≡ height) × (live path ≡ Some value)

-- the first path comes before the second in a dictionary
abbrev pub IsBefore : List ℕ → List ℕ → Type 0
IsBefore path [] = ⊥
IsBefore [] (b ∷ other) = Unit {0}
IsBefore (a ∷ path) (b ∷ other) = (a < b) ⊎ ((a ≡ b) × IsBefore path other)

-- a leaf of least value, and of these the first
pub record IsFirstLeast (live : List ℕ → Option ℕ) (height : ℕ) (path : List ℕ) (value : ℕ) : Type 0 where
  pub leaf : IsLeaf live height path value
  pub least : (other : List ℕ) (its_value : ℕ) → IsLeaf live height other its_value → value ≤ its_value
  pub first : (other : List ℕ) → IsLeaf live height other value → IsBefore other path → ⊥

-- no path leads to a leaf
abbrev pub HasNoLeaf : (List ℕ → Option ℕ) → ℕ → Type 0
HasNoLeaf live height = (path : List ℕ) (value : ℕ) → IsLeaf live height path value → ⊥

-- no leaf's value is below the bound
abbrev pub BoundsLeaves : (List ℕ → Option ℕ) → ℕ → ℕ → Type 0
BoundsLeaves live height bound = (path : List ℕ) (value : ℕ) → IsLeaf live height path value → bound ≤ value

-- no path stands twice
abbrev pub AllDiffer : List (List ℕ) → Type 0
AllDiffer [] = Unit {0}
AllDiffer (path ∷ others) = AllByRecursion (λ other. path ≢ other) others × AllDiffer others

-- there are this many paths of a kind
pub record Many (Kind : List ℕ → Type 0) (count : ℕ) : Type 0 where
  pub paths : List (List ℕ)
  pub counted : length paths ≡ count
  pub differ : AllDiffer paths
  pub kind : AllByRecursion Kind paths

-- there are at most this many paths of a kind
abbrev pub AtMost : (List ℕ → Type 0) → ℕ → Type 0
AtMost Kind count = (paths : List (List ℕ)) → AllDiffer paths → AllByRecursion Kind paths → length paths ≤ count

-- a live path to a node below the root
abbrev pub IsLiveBelowRoot : (List ℕ → Option ℕ) → List ℕ → Type 0
IsLiveBelowRoot live path = IsSome (live path) × (path ≢ [])

-- a live path to a node below the root, whose floor is below the value of each leaf before it
pub record IsOpened (live : List ℕ → Option ℕ) (height : ℕ) (path : List ℕ) : Type 0 where
  pub below_root : path ≢ []
  pub floor : ℕ
  pub is_live : live path ≡ Some floor
  pub lower : (other : List ℕ) (value : ℕ) → IsLeaf live height other value → IsBefore other path → floor < value

-- a live path below the root, whose parent's floor is at most this one: how many there are is the
-- load of that floor
pub record IsLoaded (live : List ℕ → Option ℕ) (floor : ℕ) (path : List ℕ) : Type 0 where
  pub is_live : IsSome (live path)
  pub parent : List ℕ
  pub child : ℕ
  pub is : path ≡ parent ++ child ∷ []
  pub own_floor : ℕ
  pub parent_live : live parent ≡ Some own_floor
  pub low : own_floor ≤ floor

-- the load of each floor below the bound is within the budget
abbrev pub AreLowerLoadsWithin : (List ℕ → Option ℕ) → ℕ → ℕ → Type 0
AreLowerLoadsWithin live budget bound = (floor : ℕ) → floor < bound → AtMost (IsLoaded live floor) budget

-- more than this many are in the load of the least value, or where there is no leaf, are live below
-- the root
pub record IsOverBudget (live : List ℕ → Option ℕ) (height budget : ℕ) : Type 0 where
  pub load : (path : List ℕ) (value : ℕ)
      → IsFirstLeast live height path value → Many (IsLoaded live value) (budget + 1)
  pub whole : HasNoLeaf live height → Many (IsLiveBelowRoot live) (budget + 1)
