-- The leaves that a search keeps of those that it met.
use Rattle.std.specs.Prelude.{◌≡◌, ℕ, ◌<◌, ◌≤◌, ◌⊎◌, List, ◌∷◌, Vec, length, map, All, Contains, IsPermutation}
use Rattle.std.specs.BinaryHeap.{heap_items, IsHeap}
use Rattle.std.specs.Cmp.Lexicographic.{slice_cmp}
use Rattle.std.specs.Ordering.{nat_cmp, ordering_then}
use Rattle.std.specs.declared.cmp.Ordering.{Ordering}
use Rattle.std.specs.declared.alloc.Global.{Global}
use Rattle.tree_search.specs.Nth.{Precedes}
use Rattle.tree_search.specs.Numbered.{IfFound, IfOnly, IsSpent}
use Rattle.tree_search.specs.declared.finds.Finds.{Finds}
use Rattle.tree_search.specs.declared.outcome.Numbered.{Numbered}

-- a leaf that was met: its value, its path and the number of its entry
abbrev pub Leaf : Type 0
Leaf = ℕ × (Vec ℕ Global × ℕ)

-- the path to a leaf
abbrev pub path_of : Leaf → List ℕ
path_of leaf = leaf.1.0.items

-- by value, then by path
abbrev pub leaf_cmp : Leaf → Leaf → Ordering
leaf_cmp x y = ordering_then (nat_cmp x.0 y.0) (ordering_then (slice_cmp nat_cmp x.1.0.items y.1.0.items) (nat_cmp x.1.1 y.1.1))

-- the numbers of the leaves' entries
abbrev pub leaf_numbers : List Leaf → List ℕ
leaf_numbers = map (λ leaf. leaf.1.1)

-- the first leaf comes before the second
abbrev pub ComesBefore : Leaf → Leaf → Type 0
ComesBefore x y = Precedes x.0 (path_of x) y.0 (path_of y)

-- what is kept
abbrev pub kept : Finds → List Leaf
kept finds = heap_items finds.leaves

-- what is kept is a heap, and no more than may be
abbrev pub IsFinds : Finds → Type 0
IsFinds finds = IsHeap leaf_cmp (kept finds) × (length (kept finds) ≤ finds.most)

-- the last of a list, and the others
pub record IsLastOf (leaves : List Leaf) (last : Leaf) (others : List Leaf) : Type 0 where
  pub moved : IsPermutation leaves (last ∷ others)
  pub last_of : All (λ other. ComesBefore last other → ⊥) others

-- where as many are kept as may be, all of them are lower
pub record AreAllLower (most floor : ℕ) (leaves : List Leaf) : Type 0 where
  pub full : length leaves ≡ most
  pub lower : All (λ leaf. leaf.0 < floor) leaves

-- one that is kept is no lower
pub record HasHigh (floor : ℕ) (leaves : List Leaf) : Type 0 where
  pub leaf : Leaf
  pub here : Contains leaves leaf
  pub high : floor ≤ leaf.0

-- the last of what was kept with a leaf more is let go
pub record LetsGo (most : ℕ) (old : List Leaf) (leaf : Leaf) (new : List Leaf) : Type 0 where
  pub full : length old ≡ most
  pub last : Leaf
  pub is_last : IsLastOf (leaf ∷ old) last new

-- a leaf of this value, path and entry is kept too, and the last let go where that is one too many
pub record TakesIn (most : ℕ) (old new : List Leaf) (value : ℕ) (path : List ℕ) (entry : ℕ) : Type 0 where
  pub leaf : Leaf
  pub value_is : leaf.0 ≡ value
  pub path_is : path_of leaf ≡ path
  pub entry_is : leaf.1.1 ≡ entry
  pub taken : ((length old < most) × IsPermutation (leaf ∷ old) new) ⊎ LetsGo most old leaf new

-- the last of as many as may be kept has this path and this value
pub record EndsWith (most : ℕ) (leaves : List Leaf) (path : List ℕ) (value : ℕ) : Type 0 where
  pub full : length leaves ≡ most
  pub last : Leaf
  pub others : List Leaf
  pub is_last : IsLastOf leaves last others
  pub value_is : last.0 ≡ value
  pub path_is : path_of last ≡ path

-- a search that goes no further comes to the last of what it keeps, or tells how many there are
-- where these are fewer
pub record EndsAs (most : ℕ) (leaves : List Leaf) (outcome : Numbered) : Type 0 where
  pub found : IfFound outcome (EndsWith most leaves)
  pub only : IfOnly outcome (λ count. (length leaves ≡ count) × (count < most))
  pub unspent : IsSpent outcome → ⊥

-- the leaf of this path and value is kept
pub record Holds (leaves : List Leaf) (path : List ℕ) (value : ℕ) : Type 0 where
  pub leaf : Leaf
  pub here : Contains leaves leaf
  pub path_is : path_of leaf ≡ path
  pub value_is : leaf.0 ≡ value

-- the leaf of this path and value is kept, or as many are kept as may be, and all of them come
-- before it
abbrev pub Covers : ℕ → List Leaf → List ℕ → ℕ → Type 0
Covers most leaves path value =
    Holds leaves path value ⊎ ((length leaves ≡ most) × All (λ leaf. Precedes leaf.0 (path_of leaf) value path) leaves)
