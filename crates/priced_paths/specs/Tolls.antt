-- What a case charges a path for, and whether the path does what the case asks for.
use Rattle.std.specs.Prelude.{ℕ, ◌+◌, ◌||◌, [], ◌∷◌, List, Option, Some, None, Bool, false}

-- the sum of two charges; none where one of them is none
abbrev pub sum_of : Option ℕ → Option ℕ → Option ℕ
sum_of None other = None
sum_of (Some x) None = None
sum_of (Some x) (Some y) = Some (x + y)

-- what the steps of a path from a depth on are charged; none where one of them may not be made
abbrev pub charged_from : (ℕ → ℕ → Option ℕ) → ℕ → List ℕ → Option ℕ
charged_from toll depth [] = Some 0
charged_from toll depth (label ∷ path) = sum_of (toll depth label) (charged_from toll (depth + 1) path)

-- the same of a whole path
abbrev pub charged_to : (ℕ → ℕ → Option ℕ) → List ℕ → Option ℕ
charged_to toll path = charged_from toll 0 path

-- one of the steps of a path from a depth on does what is asked for
abbrev pub has_reached_from : (ℕ → ℕ → Bool) → ℕ → List ℕ → Bool
has_reached_from reaches depth [] = false
has_reached_from reaches depth (label ∷ path) = reaches depth label || has_reached_from reaches (depth + 1) path

-- the same of a whole path
abbrev pub has_reached : (ℕ → ℕ → Bool) → List ℕ → Bool
has_reached reaches path = has_reached_from reaches 0 path
