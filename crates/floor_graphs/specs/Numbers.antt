-- Graphs whose edges lead back to nodes of lower number, and the least sums to their ends.
use Rattle.std.proofs.Common.{arith}
use Rattle.std.specs.Prelude.{◌≡◌, ℕ, ◌+◌, ◌*◌, ◌^◌, ◌<◌, ◌≤◌, List, Option, Some, None, IsSomeAnd, Bool, true, false, min, slice_index_or, length, option_map}

-- the node to which an edge leads, and what the edge costs
abbrev pub Step : Type 0
Step = ℕ × ℕ

-- each edge is of a node of the graph and one of its labels, and leads to a node of lower number
abbrev pub LeadBack : (ℕ → ℕ → Option Step) → (ℕ → ℕ) → ℕ → Type 0
LeadBack edge width nodes =
    (node label : ℕ) (step : Step) → edge node label ≡ Some step
    → (node < nodes) × (label < width node) × (step.0 < node)

-- labels that have an edge are no lower than one label, and below another
abbrev pub AreSpanned : (ℕ → Option Step) → ℕ → ℕ → Type 0
AreSpanned edge low high = (label : ℕ) (step : Step) → edge label ≡ Some step → (low ≤ label) × (label < high)

-- an edge leads from a node to another and costs so much
abbrev pub is_edge_by : (ℕ → ℕ → Option Step) → ℕ → ℕ → ℕ → Type 0
is_edge_by edge from to cost = (label : ℕ) × (edge from label ≡ Some (to, cost))

-- the graph has this node, and ends there
abbrev pub IsEndBelow : (ℕ → Bool) → ℕ → ℕ → Type 0
IsEndBelow is_end nodes node = (node < nodes) × (is_end node ≡ true)

-- the number of a node in a list
abbrev pub number_in : List (Option ℕ) → ℕ → Option ℕ
number_in numbers node = slice_index_or numbers node None

-- what a step costs with the number behind it; none where there is no such step, or no number
-- behind it
abbrev pub sum_behind : (ℕ → Option ℕ) → Option Step → Option ℕ
sum_behind number None = None
sum_behind number (Some step) = option_map (λ behind. step.1 + behind) (number step.0)

-- the lesser of two sums; where one is none, the other
abbrev pub lesser_of : Option ℕ → Option ℕ → Option ℕ
lesser_of None other = other
lesser_of (Some x) None = Some x
lesser_of (Some x) (Some y) = Some (min x y)

-- the least of the sums that labels below a bound have; none where none of them has one
pub record IsLeastBelow (sum : ℕ → Option ℕ) (bound : ℕ) (own : Option ℕ) : Type 0 where
  pub low : (label x : ℕ) → label < bound → sum label ≡ Some x → IsSomeAnd own (λ least. least ≤ x)
  pub reached : (least : ℕ) → own ≡ Some least → (label : ℕ) × (label < bound) × (sum label ≡ Some least)

-- the number of a node: 0 where the graph ends, else the least of what its edges cost with the
-- numbers behind them
abbrev pub IsNumber : Bool → (ℕ → Option Step) → ℕ → (ℕ → Option ℕ) → Option ℕ → Type 0
IsNumber true edge width number own = own ≡ Some 0
IsNumber false edge width number own = IsLeastBelow (λ label. sum_behind number (edge label)) width own

-- each node of the graph has its number
pub record AreLeast (edge : ℕ → ℕ → Option Step) (width : ℕ → ℕ) (is_end : ℕ → Bool) (nodes : ℕ)
    (numbers : List (Option ℕ)) : Type 0 where
  pub all : length numbers ≡ nodes
  pub each : (node : ℕ) → node < nodes
      → IsNumber (is_end node) (edge node) (width node) (number_in numbers) (number_in numbers node)

-- a node's number is below 2^32 for each node before it
abbrev pub AreSmall : List (Option ℕ) → Type 0
AreSmall numbers = (node x : ℕ) → number_in numbers node ≡ Some x → x ≤ node * 2 ^ 32

-- ---- what holds of them

pub lesser_low-first : (one other : Option ℕ) (x : ℕ) → IsSomeAnd one (λ least. least ≤ x)
    → IsSomeAnd (lesser_of one other) (λ least. least ≤ x)
lesser_low-first None other x h = absurd h
lesser_low-first (Some a) None x h = h
lesser_low-first (Some a) (Some b) x h = omega (arith, h)

pub lesser_low-second : (one other : Option ℕ) (x : ℕ) → IsSomeAnd other (λ least. least ≤ x)
    → IsSomeAnd (lesser_of one other) (λ least. least ≤ x)
lesser_low-second one None x h = absurd h
lesser_low-second None (Some b) x h = h
lesser_low-second (Some a) (Some b) x h = omega (arith, h)
