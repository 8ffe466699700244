-- How far a search of the front has come. Lemmas see a front as n entries, of paths P and floors F.
use Rattle.std.specs.Prelude.{◌≡◌, ℕ, ◌+◌, ◌<◌, ◌≤◌, ◌⊎◌, ◌++◌, [], ◌∷◌, List, Option, Some, None, IsSome, All, length, cond, ◌==◌, vec_capacity}
use Rattle.std.specs.BinaryHeap.{heap_capacity}
use Rattle.tree_search.specs.Answer.{IsLeaf, Many, IsLoaded}
use Rattle.tree_search.specs.Links.{path_in, IsLinked}
use Rattle.tree_search.specs.Entries.{Entry, numbers, HaveFloors}
use Rattle.tree_search.specs.Queues.{entries}
use Rattle.tree_search.specs.Finds.{Leaf, Covers, kept, leaf_numbers, path_of}
use Rattle.tree_search.specs.declared.links.Link.{Link}
use Rattle.tree_search.specs.declared.front.Front.{Front}

-- how often a number stands in a list
abbrev pub times : ℕ → List ℕ → ℕ
times i [] = 0
times i (x ∷ xs) = cond (x == i) (1 + times i xs) (times i xs)

-- an entry whose live children are entries too, and if it is a leaf is covered
pub record IsDone (live : List ℕ → Option ℕ) (height n : ℕ) (P : ℕ → List ℕ) (F : ℕ → ℕ)
    (Covered : List ℕ → ℕ → Type 0) (reached i : ℕ) : Type 0 where
  pub low : F i ≤ reached
  pub children : (k : ℕ) → IsSome (live (P i ++ k ∷ [])) → (m : ℕ) × (m < n) × (P m ≡ P i ++ k ∷ [])
  pub leaf : length (P i) ≡ height → Covered (P i) (F i)

-- an entry whose parent is an entry, of a floor no higher than reached
pub record HasParent (n : ℕ) (P : ℕ → List ℕ) (F : ℕ → ℕ) (reached m : ℕ) : Type 0 where
  pub parent : ℕ
  pub within : parent < n
  pub child : ℕ
  pub is : P m ≡ P parent ++ child ∷ []
  pub low : F parent ≤ reached

-- each entry waits, is spared or is done; what waits is no lower than reached
pub record IsFront (live : List ℕ → Option ℕ) (height n : ℕ) (P : ℕ → List ℕ) (F : ℕ → ℕ) (waits : ℕ → ℕ)
    (Spared : ℕ → Type 0) (Covered : List ℕ → ℕ → Type 0) (reached : ℕ) : Type 0 where
  pub root : P 0 ≡ []
  pub some : 0 < n
  pub floors : (i : ℕ) → i < n → live (P i) ≡ Some (F i)
  pub differ : (i j : ℕ) → i < n → j < n → P i ≡ P j → i ≡ j
  pub parents : (m : ℕ) → 0 < m → m < n → HasParent n P F reached m
  pub once : (i : ℕ) → waits i ≤ 1
  pub within : (i : ℕ) → 0 < waits i → i < n
  pub high : (i : ℕ) → 0 < waits i → reached ≤ F i
  pub fresh : (i m k : ℕ) → 0 < waits i → m < n → P m ≡ P i ++ k ∷ [] → ⊥
  pub done : (i : ℕ) → i < n → (0 < waits i) ⊎ (Spared i ⊎ IsDone live height n P F Covered reached i)

-- a leaf that is kept: its entry neither waits nor is spared, and its value was reached
pub record IsMet (live : List ℕ → Option ℕ) (height n : ℕ) (P : ℕ → List ℕ) (waits : ℕ → ℕ) (Spared : ℕ → Type 0)
    (reached : ℕ) (leaf : Leaf) : Type 0 where
  pub within : leaf.1.1 < n
  pub is : P leaf.1.1 ≡ path_of leaf
  pub leads : IsLeaf live height (path_of leaf) leaf.0
  pub low : leaf.0 ≤ reached
  pub taken : waits leaf.1.1 ≡ 0
  pub unspared : Spared leaf.1.1 → ⊥

-- the entry c, whose children before k are entries, and no others
pub record IsOpening (live : List ℕ → Option ℕ) (n : ℕ) (P : ℕ → List ℕ) (waits : ℕ → ℕ) (c k : ℕ) : Type 0 where
  pub here : c < n
  pub taken : waits c ≡ 0
  pub mine : (j : ℕ) → j < k → IsSome (live (P c ++ j ∷ [])) → (m : ℕ) × (m < n) × (P m ≡ P c ++ j ∷ [])
  pub yet : (m j : ℕ) → m < n → P m ≡ P c ++ j ∷ [] → j < k

-- a floor, or 0 where there is none
abbrev pub floor_of : Option ℕ → ℕ
floor_of None = 0
floor_of (Some floor) = floor

-- the floor of an entry
abbrev pub floor_in : (List ℕ → Option ℕ) → List Link → ℕ → ℕ
floor_in live links entry = floor_of (live (path_in links entry))

-- more than the budget are in the load of the entry's floor
abbrev pub IsLoadAbove : (List ℕ → Option ℕ) → Front → ℕ → ℕ → Type 0
IsLoadAbove live front entry budget = Many (IsLoaded live (floor_in live front.links.items entry)) (budget + 1)

-- the number of the entry that is added next
abbrev pub next_number : Front → ℕ
next_number front = length front.links.items + 1

-- links, what waits and the leaves that are kept make a front
pub record IsSearch (live : List ℕ → Option ℕ) (height most : ℕ) (links : List Link) (waiting : List Entry)
    (leaves : List Leaf) (Spared : ℕ → Type 0) (reached : ℕ) : Type 0 where
  pub front : IsFront live height (length links + 1) (path_in links) (floor_in live links)
      (λ i. times i (numbers waiting)) Spared (Covers most leaves) reached
  pub met : All (IsMet live height (length links + 1) (path_in links) (λ i. times i (numbers waiting)) Spared reached)
      leaves
  pub once : (i : ℕ) → times i (leaf_numbers leaves) ≤ 1
  pub linked : IsLinked links
  pub floors : HaveFloors live links waiting

-- a front, of which each entry waits or is done
abbrev pub IsClosed : (List ℕ → Option ℕ) → ℕ → Front → ℕ → Type 0
IsClosed live height front reached =
    IsSearch live height front.finds.most front.links.items (entries front.waiting) (kept front.finds) (λ _. ⊥) reached

-- a front that has come as far as the floor of an entry of an earlier one, each entry of which
-- waits or is done
abbrev pub IsClosedAt : (List ℕ → Option ℕ) → ℕ → Front → ℕ → Front → Type 0
IsClosedAt live height old entry new = IsClosed live height new (floor_in live old.links.items entry)

-- a front, one entry of which is open: its children before k are entries
abbrev pub IsOpen : (List ℕ → Option ℕ) → ℕ → Front → ℕ → ℕ → Type 0
IsOpen live height front entry k =
    IsSearch live height front.finds.most front.links.items (entries front.waiting) (kept front.finds)
    (λ i. i ≡ entry) (floor_in live front.links.items entry)
    × IsOpening live (length front.links.items + 1) (path_in front.links.items)
    (λ i. times i (numbers (entries front.waiting))) entry k

-- the entries are within the budget, and there is room for the rest of it
abbrev pub HasRoom : ℕ → Front → Type 0
HasRoom budget front =
    (length front.links.items ≤ budget) × (length (entries front.waiting) ≤ length front.links.items + 1)
    × (budget ≤ vec_capacity front.links) × (budget + 1 ≤ heap_capacity front.waiting.heap)

-- as many entries as before no longer wait
abbrev pub SameTaken : Front → Front → Type 0
SameTaken old new =
    length (entries new.waiting) + length old.links.items
    ≡ length (entries old.waiting) + length new.links.items
