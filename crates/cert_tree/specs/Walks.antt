-- Where a judge of claims stands: the open nodes that begin the one owed next, as what is known of
-- each and the number of the step by which it goes on.
use Rattle.std.specs.Prelude.{◌≡◌, ℕ, ◌+◌, ◌<◌, Bool, true, List, [], ◌∷◌, ◌++◌, Option, Some, None, IfSome, map, reverse, vec_capacity, ⊤, if◌then◌else◌}
use Rattle.std.specs.List.{AllByRecursion}
use Rattle.cert_tree.specs.Trees.{Tree}
use Rattle.cert_tree.specs.declared.walk.Level.{Level}
use Rattle.cert_tree.specs.declared.walk.Walk.{Walk}

-- how nodes are found by numbers: the one of a number behind a node, and whether a step of that
-- number leads to it, the nodes that are longer by a step from a number on, how many steps lead to
-- a node, and how many may
pub record Ways (X : Type 0) : Type 0 where
  pub root : X
  pub child : X → ℕ → X
  pub is_step : X → ℕ → Bool
  pub longer_from : X → ℕ → List X
  pub steps : X → ℕ
  pub height : ℕ

-- they are ways through a tree, in which each open node may go on by a step
pub record AreWays {X C : Type 0} (tree : Tree X C) (root : X) (ways : Ways X) : Type 0 where
  pub start : ways.root ≡ root
  pub all : (p : X) → ways.longer_from p 0 ≡ tree.longer p
  pub no_steps : ways.steps root ≡ 0
  pub one_step : (p : X) (k : ℕ) → ways.steps (ways.child p k) ≡ ways.steps p + 1
  pub each_step : (p : X) → AllByRecursion (λ q. ways.steps q ≡ ways.steps p + 1) (tree.longer p)
  pub few_steps : (p : X) (claim : C) → tree.is_open claim ≡ true → tree.IsTrueOf p claim → ways.steps p < ways.height

-- this is known of the node, and it is open
pub record IsOpen {X C K : Type 0} (tree : Tree X C) (IsOf : K → X → Type 0) (p : X) (known : K) : Type 0 where
  pub is_of : IsOf known p
  pub claim : C
  pub says : tree.is_open claim ≡ true
  pub holds : tree.IsTrueOf p claim

-- this is known of some open node
pub record IsOfOpen {X C K : Type 0} (tree : Tree X C) (IsOf : K → X → Type 0) (known : K) : Type 0 where
  pub node : X
  pub is_open : IsOpen tree IsOf node known

-- this is known of some node
pub record IsOfSome {X K : Type 0} (IsOf : K → X → Type 0) (known : K) : Type 0 where
  pub node : X
  pub is_of : IsOf known node

-- this is known of some open node, from which a step of the number leads on
pub record IsOfStep {X C K : Type 0} (tree : Tree X C) (IsOf : K → X → Type 0) (ways : Ways X) (number : ℕ) (known : K)
    : Type 0 where
  pub node : X
  pub is_open : IsOpen tree IsOf node known
  pub step : ways.is_step node number ≡ true

-- this holds of the node to which the step of a number leads, whatever node this is known of from
-- which there is such a step
abbrev pub IsBehind : {X K : Type 0} → (K → X → Type 0) → Ways X → K → ℕ → (X → Type 0) → Type 0
IsBehind IsOf ways known number Holds =
    (p : _) → IsOf known p → ways.is_step p number ≡ true → Holds (ways.child p number)

-- of the nodes that are longer by a step, from a number on, the first is that of another number
pub record IsFirstFrom {X : Type 0} (ways : Ways X) (p : X) (from number : ℕ) : Type 0 where
  pub within : number < 8192
  pub step : ways.is_step p number ≡ true
  pub rest : ways.longer_from p from ≡ ways.child p number ∷ ways.longer_from p (number + 1)

-- what was found is the first of them, or nothing where there is none
abbrev pub IsNextFrom : {X : Type 0} → Ways X → X → ℕ → Option ℕ → Type 0
IsNextFrom ways p from None = ways.longer_from p from ≡ []
IsNextFrom ways p from (Some number) = IsFirstFrom ways p from number

-- the same, whatever node this is known of
abbrev pub IsNextOf : {X K : Type 0} → (K → X → Type 0) → Ways X → K → ℕ → Option ℕ → Type 0
IsNextOf IsOf ways known from found = (p : _) → IsOf known p → IsNextFrom ways p from found

-- ---- levels, the newest first

-- the node to which their numbers lead
abbrev pub node_at : {X K : Type 0} → Ways X → List (Level K) → X
node_at ways [] = ways.root
node_at ways (level ∷ older) = ways.child (node_at ways older) level.number

-- the numbers of their steps
abbrev pub steps_of : {K : Type 0} → List (Level K) → List ℕ
steps_of levels = map (λ level. level.number) levels

-- what is owed behind that node and all that it begins
abbrev pub owed_later : {X K : Type 0} → Ways X → List (Level K) → List X
owed_later ways [] = []
owed_later ways (level ∷ older) = ways.longer_from (node_at ways older) (level.number + 1) ++ owed_later ways older

-- what is owed of that node, by its steps from a number on, and behind that
abbrev pub owed_from : {X K : Type 0} → Ways X → List (Level K) → ℕ → List X
owed_from ways levels from = ways.longer_from (node_at ways levels) from ++ owed_later ways levels

-- what is owed after a claim of that node: where it is open, each one that is longer by a step
-- comes first
abbrev pub owed_after : {X K : Type 0} → Ways X → List (Level K) → Bool → List X
owed_after ways levels is_open =
    (if is_open then ways.longer_from (node_at ways levels) 0 else []) ++ owed_later ways levels

-- what is owed: the node to which the levels lead, and what is owed later; where there is no level,
-- the root or nothing
abbrev pub owed_at : {X K : Type 0} → Ways X → List (Level K) → Option K → List X
owed_at ways [] None = []
owed_at ways [] (Some known) = ways.root ∷ []
owed_at ways (level ∷ older) root = node_at ways (level ∷ older) ∷ owed_later ways (level ∷ older)

-- ---- walks

abbrev pub levels_of : {K : Type 0} → Walk K → List (Level K)
levels_of walk = reverse walk.levels.items

-- the nodes that are owed, the next one first
abbrev pub owed_by_walk : {X K : Type 0} → Ways X → Walk K → List X
owed_by_walk ways walk = owed_at ways (levels_of walk) walk.root

-- an open node goes on by a step of a number
pub record IsLevel {X C K : Type 0} (tree : Tree X C) (IsOf : K → X → Type 0) (ways : Ways X) (p : X) (level : Level K)
    : Type 0 where
  pub is_open : IsOpen tree IsOf p level.parent
  pub within : level.number < 8192
  pub step : ways.is_step p level.number ≡ true

abbrev pub AreLevels : {X C K : Type 0} → Tree X C → (K → X → Type 0) → Ways X → List (Level K) → Type 0
AreLevels tree IsOf ways [] = ⊤
AreLevels tree IsOf ways (level ∷ older) =
    IsLevel tree IsOf ways (node_at ways older) level × AreLevels tree IsOf ways older

-- the node to which the levels lead is owed next
abbrev pub OwesNext : {X K : Type 0} → Ways X → Walk K → Type 0
OwesNext ways walk =
    owed_by_walk ways walk ≡ node_at ways (levels_of walk) ∷ owed_later ways (levels_of walk)

pub record IsWalk {X C K : Type 0} (tree : Tree X C) (IsOf : K → X → Type 0) (ways : Ways X) (walk : Walk K)
    : Type 0 where
  pub levels : AreLevels tree IsOf ways (levels_of walk)
  pub root : IfSome walk.root (λ known. IsOf known ways.root)
  pub room : vec_capacity walk.levels ≡ ways.height

-- what was found is known of the node, where something was found
abbrev pub IsFound : {X K : Type 0} → (K → X → Type 0) → X → Option K → Type 0
IsFound IsOf p found = IfSome found (λ known. IsOf known p)

-- where the claim is that the next node is open, it is
abbrev pub CanGoOn : {X C : Type 0} → Tree X C → X → Bool → Type 0
CanGoOn tree p is_open = is_open ≡ true → (claim : _) × (tree.is_open claim ≡ true) × tree.IsTrueOf p claim
