-- How far a walk in depth has come.
use Rattle.std.specs.Prelude.{◌≡◌, ℕ, ◌+◌, ◌-◌, ◌<◌, ◌≤◌, ◌⊎◌, ◌++◌, [], ◌∷◌, List, Option, Some, None, length, take}
use Rattle.tree_search.specs.Answer.{IsLeaf, IsBefore, Many, IsOpened}
use Rattle.tree_search.specs.declared.depth.Walk.{Walk}

-- the path begins with this start
abbrev pub BeginsWith : List ℕ → List ℕ → Type 0
BeginsWith start path = (rest : List ℕ) × (path ≡ start ++ rest)

-- an opened path that begins with this start
abbrev pub IsOpenedFrom : (List ℕ → Option ℕ) → ℕ → List ℕ → List ℕ → Type 0
IsOpenedFrom live height start path = IsOpened live height path × BeginsWith start path

-- an opened path below this one, by one of its first children
abbrev pub IsOpenedBelow : (List ℕ → Option ℕ) → ℕ → List ℕ → ℕ → List ℕ → Type 0
IsOpenedBelow live height start count path =
    IsOpened live height path × ((k : ℕ) × (k < count) × BeginsWith (start ++ k ∷ []) path)

-- a leaf of least value of those before a path, and of these the first
pub record IsBest (live : List ℕ → Option ℕ) (height : ℕ) (bound path : List ℕ) (value : ℕ) : Type 0 where
  pub leaf : IsLeaf live height path value
  pub before : IsBefore path bound
  pub least : (other : List ℕ) (its_value : ℕ) → IsLeaf live height other its_value → IsBefore other bound
      → value ≤ its_value
  pub first : (other : List ℕ) → IsLeaf live height other value → IsBefore other path → ⊥

-- the path and value are the best of the leaves before a path, or there is none of them
abbrev pub IsBestBefore : (List ℕ → Option ℕ) → ℕ → List ℕ → Option ℕ → List ℕ → Type 0
IsBestBefore live height bound None path =
    (other : List ℕ) (value : ℕ) → IsLeaf live height other value → IsBefore other bound → ⊥
IsBestBefore live height bound (Some value) path = IsBest live height bound path value

-- the path is one of these
abbrev pub IsAmong : List (List ℕ) → List ℕ → Type 0
IsAmong [] path = ⊥
IsAmong (x ∷ xs) path = (path ≡ x) ⊎ IsAmong xs path

-- there are this many paths of a kind, and no more
pub record Exactly (Kind : List ℕ → Type 0) (count : ℕ) : Type 0 where
  pub many : Many Kind count
  pub all : (path : List ℕ) → Kind path → IsAmong many.paths path

-- what is left of a budget, after each path of a kind was opened
abbrev pub HasOpened : (List ℕ → Type 0) → ℕ → ℕ → Type 0
HasOpened Kind old new = (new ≤ old) × Exactly Kind (old - new)

-- two lists of this length
abbrev pub HaveLength : ℕ → List ℕ → List ℕ → Type 0
HaveLength n path other = (length path ≡ n) × (length other ≡ n)

-- the path down to a level
abbrev pub path_to : Walk → ℕ → List ℕ
path_to walk level = take level walk.path.items

-- the walk has the best of the leaves before a path, or there is none of them
abbrev pub HasBestBefore : (List ℕ → Option ℕ) → ℕ → List ℕ → Walk → Type 0
HasBestBefore live height bound walk = IsBestBefore live height bound walk.best walk.best_path.items

-- a later walk has the best of the leaves down to the last one below the node at a level, or there
-- is none of them
abbrev pub HasBestAfter : (List ℕ → Option ℕ) → ℕ → (List ℕ → ℕ) → ℕ → Walk → Walk → Type 0
HasBestAfter live height width level old new =
    HasBestBefore live height (path_to old level ++ width (path_to old level) ∷ []) new

-- an opened path below the node at a level
abbrev pub IsOpenedUnder : (List ℕ → Option ℕ) → ℕ → (List ℕ → ℕ) → ℕ → Walk → List ℕ → Type 0
IsOpenedUnder live height width level walk =
    IsOpenedBelow live height (path_to walk level) (width (path_to walk level))

-- a later walk has opened what was to be opened below the node at a level, and nothing else
abbrev pub OpensUnder : (List ℕ → Option ℕ) → ℕ → (List ℕ → ℕ) → ℕ → Walk → Walk → Type 0
OpensUnder live height width level old new = HasOpened (IsOpenedUnder live height width level old) old.left new.left

-- a later walk has opened what was to be opened from this start on, and nothing else
abbrev pub OpensFrom : (List ℕ → Option ℕ) → ℕ → List ℕ → Walk → Walk → Type 0
OpensFrom live height start old new = HasOpened (IsOpenedFrom live height start) old.left new.left

-- more is to be opened below the node at a level than the walk may still open
abbrev pub LacksUnder : (List ℕ → Option ℕ) → ℕ → (List ℕ → ℕ) → ℕ → Walk → Type 0
LacksUnder live height width level walk = Many (IsOpenedUnder live height width level walk) (walk.left + 1)

-- more is to be opened from this start on than the walk may still open
abbrev pub LacksFrom : (List ℕ → Option ℕ) → ℕ → List ℕ → Walk → Type 0
LacksFrom live height start walk = Many (IsOpenedFrom live height start) (walk.left + 1)

-- the walk's paths have this length
abbrev pub HasLengths : ℕ → Walk → Type 0
HasLengths n walk = HaveLength n walk.path.items walk.best_path.items
