-- The leaf of a number in order: by value, and where the values are one by path.
use Rattle.std.specs.Prelude.{◌≡◌, ℕ, ◌+◌, ◌-◌, ◌<◌, ◌⊎◌, List, Option}
use Rattle.tree_search.specs.Answer.{IsBefore, IsLeaf, IsLiveBelowRoot, IsLoaded, AtMost, Many}

-- the first leaf comes before the second: its value is lower, or the values are one and its path
-- comes first
abbrev pub Precedes : ℕ → List ℕ → ℕ → List ℕ → Type 0
Precedes value path other_value other = (value < other_value) ⊎ ((value ≡ other_value) × IsBefore path other)

-- the path leads to a leaf, of any value
pub record IsAnyLeaf (live : List ℕ → Option ℕ) (height : ℕ) (path : List ℕ) : Type 0 where
  pub value : ℕ
  pub leaf : IsLeaf live height path value

-- the path leads to a leaf that comes before this one
pub record IsEarlierLeaf (live : List ℕ → Option ℕ) (height : ℕ) (path : List ℕ) (value : ℕ) (other : List ℕ)
    : Type 0 where
  pub its_value : ℕ
  pub leaf : IsLeaf live height other its_value
  pub before : Precedes its_value other value path

-- exactly so many paths are of a kind
abbrev pub HasCount : (List ℕ → Type 0) → ℕ → Type 0
HasCount Kind count = Many Kind count × AtMost Kind count

-- the leaf of this number, from 1 on: exactly the leaves of the numbers below come before it
pub record IsNthLeaf (live : List ℕ → Option ℕ) (height nth : ℕ) (path : List ℕ) (value : ℕ) : Type 0 where
  pub leaf : IsLeaf live height path value
  pub before : HasCount (IsEarlierLeaf live height path value) (nth - 1)

-- there are fewer leaves
abbrev pub HasFewerLeaves : (List ℕ → Option ℕ) → ℕ → ℕ → Type 0
HasFewerLeaves live height nth = AtMost (IsAnyLeaf live height) (nth - 1)

-- there are exactly so many leaves, and fewer than were asked for
abbrev pub HasOnly : (List ℕ → Option ℕ) → ℕ → ℕ → ℕ → Type 0
HasOnly live height nth count = (count < nth) × HasCount (IsAnyLeaf live height) count

-- the path leads to a leaf whose value is below the bound
pub record IsLeafBelow (live : List ℕ → Option ℕ) (height bound : ℕ) (path : List ℕ) : Type 0 where
  pub value : ℕ
  pub leaf : IsLeaf live height path value
  pub below : value < bound

-- fewer leaves have a value below the bound
abbrev pub AreFewerBelow : (List ℕ → Option ℕ) → ℕ → ℕ → ℕ → Type 0
AreFewerBelow live height nth bound = AtMost (IsLeafBelow live height bound) (nth - 1)

-- more than this many are in the load of the value of the leaf of this number, or where there are
-- fewer leaves, are live below the root
pub record IsOverNth (live : List ℕ → Option ℕ) (height nth budget : ℕ) : Type 0 where
  pub load : (path : List ℕ) (value : ℕ)
      → IsNthLeaf live height nth path value → Many (IsLoaded live value) (budget + 1)
  pub whole : HasFewerLeaves live height nth → Many (IsLiveBelowRoot live) (budget + 1)
