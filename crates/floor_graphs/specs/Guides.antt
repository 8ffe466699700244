-- How a guide goes along a path of a tree.
use Rattle.std.specs.Prelude.{◌++◌, ◌∷◌, [], ℕ, List, Option, IsSome}
use Rattle.tree_search.specs.Space.{IsFoundAt}

-- the place belongs to a path that has this live child, and the node to that child
pub record IsLiveChild (stands is_at : List ℕ → Type 0) (live : List ℕ → Option ℕ) (child : ℕ) : Type 0 where
  pub path : List ℕ
  pub stood : stands path
  pub at : is_at (path ++ child ∷ [])
  pub is_live : IsSome (live (path ++ child ∷ []))

-- what was found is the sum of the child of this number, with a place that belongs to it, or
-- nothing where it has no sum; whatever path the place belongs to
abbrev pub IsFollowed : {P : Type 0} → (P → List ℕ → Type 0) → (List ℕ → Option ℕ) → P → (List ℕ → Type 0)
    → (List ℕ → Option ℕ) → ℕ → Option (P × ℕ) → Type 0
IsFollowed stands sum place is_at live child found =
    (path : List ℕ) → stands place path → is_at (path ++ child ∷ []) → IsSome (live (path ++ child ∷ []))
    → IsFoundAt stands sum (path ++ child ∷ []) found
