-- What is checked of the numbers at the nodes of a graph, and of the paths of a tree that are
-- mapped to its nodes.
use Rattle.std.specs.Prelude.{◌≡◌, ℕ, ◌+◌, ◌-◌, ◌*◌, ◌/◌, ◌≤◌, ◌++◌, ◌∷◌, [], List, Option, Some, IsSomeAnd, option_map}
use Rattle.tree_search.specs.Answer.{IsLeaf}

-- 0 where the graph ends; elsewhere a number is at most the cost of each edge with the number
-- behind it, and a node without a number has no edge to one that has a number
pub record AreChecked (edge : ℕ → ℕ → ℕ → Type 0) (is_end : ℕ → Type 0) (number : ℕ → Option ℕ) : Type 0 where
  pub ends : (node : ℕ) → is_end node → number node ≡ Some 0
  pub low : (from to cost behind : ℕ) → edge from to cost → number to ≡ Some behind
      → IsSomeAnd (number from) (λ own. own ≤ cost + behind)

-- from one node to another an edge leads that costs no more than is paid
pub record IsPaidEdge (edge : ℕ → ℕ → ℕ → Type 0) (from to before after : ℕ) : Type 0 where
  pub cost : ℕ
  pub is_edge : edge from to cost
  pub paid : before + cost ≤ after

-- a unit of a leaf's value is worth so many of what paths pay, and leaves may have paid so much
-- more than their values
pub record Rate : Type 0 where
  pub scale : ℕ
  pub debt : ℕ

-- each step on the way to a leaf is an edge that costs no more than the step pays; a leaf is where
-- the graph ends, and has paid no more than its value and the debt
pub record AreMapped (live : List ℕ → Option ℕ) (height : ℕ) (rate : Rate) (paid place : List ℕ → ℕ)
    (edge : ℕ → ℕ → ℕ → Type 0) (is_end : ℕ → Type 0) : Type 0 where
  pub steps : (path rest : List ℕ) (child value : ℕ) → IsLeaf live height ((path ++ child ∷ []) ++ rest) value
      → IsPaidEdge edge (place path) (place (path ++ child ∷ [])) (paid path) (paid (path ++ child ∷ []))
  pub leaves : (path : List ℕ) (value : ℕ) → IsLeaf live height path value
      → is_end (place path) × (paid path ≤ rate.scale * value + rate.debt)

-- what is left of a payment beyond the debt, in units of value, rounded up
abbrev pub units_of : Rate → ℕ → ℕ
units_of rate paid = (paid - rate.debt + (rate.scale - 1)) / rate.scale

-- what a path has paid with the number of its node, if that has one
abbrev pub sum_at : Rate → (List ℕ → ℕ) → (List ℕ → ℕ) → (ℕ → Option ℕ) → List ℕ → Option ℕ
sum_at rate paid place number path = option_map (λ own. units_of rate (paid path + own)) (number (place path))

-- each leaf below a path has at least its sum for a value, and below a path without one there is no
-- leaf
abbrev pub AreFloors : (List ℕ → Option ℕ) → ℕ → (List ℕ → Option ℕ) → Type 0
AreFloors live height sum =
    (path rest : List ℕ) (value : ℕ) → IsLeaf live height (path ++ rest) value
    → IsSomeAnd (sum path) (λ floor. floor ≤ value)
