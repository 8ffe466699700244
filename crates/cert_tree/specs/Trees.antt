-- Claims of the nodes of a tree, in preorder.
use Rattle.std.specs.Prelude.{◌≡◌, ℕ, zero, suc, Bool, true, false, List, [], ◌∷◌, ◌++◌, ◌⊎◌, ⊤, if◌then◌else◌}
use Rattle.std.specs.List.{AllByRecursion, flat_map}

-- a tree whose nodes are of the type X, with claims C of them: when a claim is true of a node,
-- whether a claim says that its node is open, and the nodes that are longer than one by a step, in
-- their order
pub record Tree (X C : Type 0) : Type 1 where
  pub IsTrueOf : X → C → Type 0
  pub is_open : C → Bool
  pub longer : X → List X

-- what a claim of a node owes in its place: where it says that the node is open, all that are
-- longer by a step
abbrev pub owed_by : {X C : Type 0} → Tree X C → X → C → List X
owed_by tree p claim = if tree.is_open claim then tree.longer p else []

-- the claims are those of the nodes that are owed, the next one first, and of what they owe in
-- their place; each is true, none is owed when they end, and none is over
abbrev pub IsCertified : {X C : Type 0} → Tree X C → List X → List C → Type 0
IsCertified tree [] [] = ⊤
IsCertified tree (p ∷ owed) [] = ⊥
IsCertified tree [] (claim ∷ claims) = ⊥
IsCertified tree (p ∷ owed) (claim ∷ claims) =
    tree.IsTrueOf p claim × IsCertified tree (owed_by tree p claim ++ owed) claims

-- so are the claims of a root and of all that it owes
abbrev pub IsCertifiedFrom : {X C : Type 0} → Tree X C → X → List C → Type 0
IsCertifiedFrom tree root claims = IsCertified tree (root ∷ []) claims

-- ---- what claims show

-- one of the nodes begins the leaf
abbrev pub IsBegunByOne : {X L : Type 0} → (X → L → Type 0) → List X → L → Type 0
IsBegunByOne Begins [] leaf = ⊥
IsBegunByOne Begins (p ∷ owed) leaf = Begins p leaf ⊎ IsBegunByOne Begins owed leaf

-- each leaf that refutes is begun by a node that is owed
abbrev pub OwesRefuting : {X L : Type 0} → (X → L → Type 0) → (L → Type 0) → List X → Type 0
OwesRefuting Begins Refutes owed = (leaf : _) → Refutes leaf → IsBegunByOne Begins owed leaf

-- true claims exclude what refutes
pub record Excludes {X C L : Type 0} (tree : Tree X C) (Begins : X → L → Type 0) (Refutes : L → Type 0) : Type 0 where
  -- what goes on from an open node goes on from one that is longer by a step
  pub open_goes_on : (p : X) (claim : C) (leaf : L) → tree.is_open claim ≡ true → tree.IsTrueOf p claim → Refutes leaf
      → Begins p leaf → IsBegunByOne Begins (tree.longer p) leaf
  -- nothing goes on from a node of another true claim
  pub closed_ends : (p : X) (claim : C) (leaf : L) → tree.is_open claim ≡ false → tree.IsTrueOf p claim → Refutes leaf
      → Begins p leaf → ⊥

-- ---- what is written

-- the claims of a node and of all that it owes, where each node has a claim of its own and so many
-- steps more may come
unfoldable pub claims_from : {X C : Type 0} → Tree X C → (X → C) → ℕ → X → List C
claims_from tree own zero p = own p ∷ []
claims_from tree own (suc count) p =
    own p ∷ (if tree.is_open (own p) then flat_map (claims_from tree own count) (tree.longer p) else [])

-- each own claim is true, of a node and of all that it owes, and no node is open where no step more
-- may come
abbrev pub AreTrueFrom : {X C : Type 0} → Tree X C → (X → C) → ℕ → X → Type 0
AreTrueFrom tree own zero p = tree.IsTrueOf p (own p) × (tree.is_open (own p) ≡ false)
AreTrueFrom tree own (suc count) p =
    tree.IsTrueOf p (own p)
    × (tree.is_open (own p) ≡ true → AllByRecursion (AreTrueFrom tree own count) (tree.longer p))
