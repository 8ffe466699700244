-- What a queue holds.
use Rattle.std.specs.Prelude.{ℕ, ◌≤◌, ◌++◌, [], ◌∷◌, List, Option, Some, None, All, IfSome}
use Rattle.std.specs.BinaryHeap.{heap_items, IsHeap}
use Rattle.tree_search.specs.Entries.{Entry, entry_of, entry_cmp}
use Rattle.tree_search.specs.declared.queue.Queue.{Queue}

-- an entry that may be there, as a list
abbrev pub entry_list : Option (ℕ × ℕ) → List Entry
entry_list None = []
entry_list (Some entry) = entry_of entry.0 entry.1 ∷ []

-- all entries
abbrev pub entries : Queue → List Entry
entries queue = entry_list queue.first ++ heap_items queue.heap

-- the heap is one, and none of it is lower than the first entry
abbrev pub IsQueue : Queue → Type 0
IsQueue queue =
    IsHeap entry_cmp (heap_items queue.heap)
    × IfSome queue.first (λ first. All (λ other. first.0 ≤ other.0.0) (heap_items queue.heap))
