-- What a search may take for granted of a tree.
use Rattle.std.specs.Prelude.{◌≡◌, ℕ, ◌+◌, ◌<◌, ◌≤◌, ◌++◌, ◌∷◌, [], List, Option, Some, None, IsSome, IsSomeAnd, MatchOption, length}

-- the node is at a path to no leaf
pub record IsInner (is_at : List ℕ → Type 0) (height : ℕ) : Type 0 where
  pub path : List ℕ
  pub at : is_at path
  pub above : length path < height

-- the node is at a path to no leaf, and has a child of this number
pub record HasChild (is_at : List ℕ → Type 0) (height : ℕ) (width : List ℕ → ℕ) (child : ℕ) : Type 0 where
  pub path : List ℕ
  pub at : is_at path
  pub above : length path < height
  pub within : child < width path

-- the node is at a path that has a live child of this number
pub record HasLiveChild (is_at : List ℕ → Type 0) (live : List ℕ → Option ℕ) (child : ℕ) : Type 0 where
  pub path : List ℕ
  pub at : is_at path
  pub is_live : IsSome (live (path ++ child ∷ []))

-- what was found at a path: a node that stands for it, with its floor, or nothing where no live
-- node is
abbrev pub IsFoundAt : {N : Type 0} → (N → List ℕ → Type 0) → (List ℕ → Option ℕ) → List ℕ → Option (N × ℕ) → Type 0
IsFoundAt is_at live path found =
    MatchOption found (live path ≡ None) (λ entry. is_at entry.0 path × (live path ≡ Some entry.1))

-- what was found is the child of this number, whatever path the node stands for
abbrev pub IsFoundChild : {N : Type 0} → (N → List ℕ → Type 0) → (List ℕ → Option ℕ) → ℕ → N → Option (N × ℕ) → Type 0
IsFoundChild is_at live child node found =
    (path : List ℕ) → is_at node path → IsFoundAt is_at live (path ++ child ∷ []) found

-- the path has the floor that was found, and the node that was made stands for it; where none was
-- found no live node is there
abbrev pub IsMadeAt : {N : Type 0} → (N → List ℕ → Type 0) → (List ℕ → Option ℕ) → List ℕ → N → Option ℕ → Type 0
IsMadeAt is_at live path made found =
    MatchOption found (live path ≡ None) (λ floor. is_at made path × (live path ≡ Some floor))

-- so it is of the child of this number, whatever path the node stands for
abbrev pub IsMadeChild : {N : Type 0} → (N → List ℕ → Type 0) → (List ℕ → Option ℕ) → ℕ → N → N → Option ℕ → Type 0
IsMadeChild is_at live child node made found =
    (path : List ℕ) → is_at node path → IsMadeAt is_at live (path ++ child ∷ []) made found

-- wherever the child of this number is live, the node that was made stands for it, and this is its
-- floor
abbrev pub IsMadeAgain : {N : Type 0} → (N → List ℕ → Type 0) → (List ℕ → Option ℕ) → ℕ → N → N → ℕ → Type 0
IsMadeAgain is_at live child node made floor =
    (path : List ℕ) → is_at node path → IsSome (live (path ++ child ∷ []))
    → is_at made (path ++ child ∷ []) × (live (path ++ child ∷ []) ≡ Some floor)

-- each child from one number up to another is dead or no better than the best leaf so far: its
-- floor is no lower than that leaf's value
abbrev pub AreNoBetter : (List ℕ → Option ℕ) → List ℕ → Option ℕ → ℕ → ℕ → Type 0
AreNoBetter live path best from to =
    (child floor : ℕ) → from ≤ child → child < to → live (path ++ child ∷ []) ≡ Some floor
    → IsSomeAnd best (λ value. value ≤ floor)

-- the path leads to a live node with this child, that is no leaf, and whose floor is at most this
-- one
pub record IsParent (live : List ℕ → Option ℕ) (width : List ℕ → ℕ) (height : ℕ) (path : List ℕ)
    (child floor : ℕ) : Type 0 where
  pub own_floor : ℕ
  pub is_live : live path ≡ Some own_floor
  pub no_higher : own_floor ≤ floor
  pub within : child < width path
  pub above : length path < height

-- it is told of the child before the one of this number, where there is one
abbrev pub IsToldBefore : (ℕ → Type 0) → ℕ → Type 0
IsToldBefore is_told child = (before : ℕ) → child ≡ before + 1 → is_told before

-- wherever the child of this number is live, those behind it are dead, as far as the next one
abbrev pub AreDeadBetween : (List ℕ → Type 0) → (List ℕ → Option ℕ) → ℕ → ℕ → Type 0
AreDeadBetween is_at live child next =
    (path : List ℕ) → is_at path → IsSome (live (path ++ child ∷ []))
    → (later floor : ℕ) → child < later → later < next → live (path ++ later ∷ []) ≡ Some floor → ⊥

-- so are all of them
abbrev pub IsLast : (List ℕ → Type 0) → (List ℕ → Option ℕ) → ℕ → Type 0
IsLast is_at live child = (next : ℕ) → AreDeadBetween is_at live child next

-- from parent to live child, floors do not fall
abbrev pub FloorsGrow : (List ℕ → Option ℕ) → (List ℕ → ℕ) → ℕ → Type 0
FloorsGrow live width height =
    (path : List ℕ) (child floor : ℕ) → live (path ++ child ∷ []) ≡ Some floor
    → IsParent live width height path child floor
