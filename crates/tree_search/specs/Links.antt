-- The paths of the entries of a front, by their links. The root is the entry 0, and has no link.
use Rattle.std.specs.Prelude.{ℕ, ◌<◌, ◌≤◌, ◌++◌, [], ◌∷◌, List, length, slice_index_or}
use Rattle.tree_search.specs.declared.links.Link.{Link}

-- the paths known, and of each link the parent's path and the child's number
abbrev pub paths_from : List (List ℕ) → List Link → List (List ℕ)
paths_from known [] = known
paths_from known (link ∷ links) =
    paths_from (known ++ (slice_index_or known link.parent [] ++ link.child ∷ []) ∷ []) links

-- the paths of all entries
abbrev pub paths_of : List Link → List (List ℕ)
paths_of links = paths_from ([] ∷ []) links

-- the path of an entry
abbrev pub path_in : List Link → ℕ → List ℕ
path_in links entry = slice_index_or (paths_of links) entry []

-- each link leads to an earlier entry
abbrev pub IsLinked : List Link → Type 0
IsLinked links = (k : ℕ) (d : Link) → k < length links → (slice_index_or links k d).parent ≤ k
