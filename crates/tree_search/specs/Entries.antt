-- What waits in a heap, as floors with the numbers of entries.
use Rattle.std.specs.Prelude.{◌≡◌, ℕ, List, Option, Some, All, map}
use Rattle.std.specs.Ordering.{nat_cmp, ordering_then}
use Rattle.std.specs.declared.cmp.Ordering.{Ordering}
use Rattle.std.specs.declared.cmp.Reverse.{Reverse}
use Rattle.tree_search.specs.declared.links.Link.{Link}
use Rattle.tree_search.specs.Links.{path_in}

-- a floor with the number of an entry
abbrev pub Entry : Type 0
Entry = Reverse ℕ × ℕ

-- the floor with the number
abbrev pub entry_of : ℕ → ℕ → Entry
entry_of floor number = (record { 0 = floor }, number)

-- the least floor is greatest, and of equal floors the latest entry
abbrev pub entry_cmp : Entry → Entry → Ordering
entry_cmp x y = ordering_then (nat_cmp y.0.0 x.0.0) (nat_cmp x.1 y.1)

-- the numbers of entries
abbrev pub numbers : List Entry → List ℕ
numbers = map (λ entry. entry.1)

-- each waits with its floor
abbrev pub HaveFloors : (List ℕ → Option ℕ) → List Link → List Entry → Type 0
HaveFloors live links = All (λ entry. live (path_in links entry.1) ≡ Some entry.0.0)
