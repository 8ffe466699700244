-- Floors that are sharpened by others.
use Rattle.std.specs.Prelude.{ℕ, ◌++◌, ◌∷◌, [], List, Option, Some, None, max}

-- the greater of two floors; none where one of them is none
abbrev pub greater : Option ℕ → Option ℕ → Option ℕ
greater None other = None
greater (Some x) None = None
greater (Some x) (Some y) = Some (max x y)

-- the greatest floor on the way along a path from its start on; none where one of them is none
abbrev pub greatest_from : (List ℕ → Option ℕ) → List ℕ → List ℕ → Option ℕ
greatest_from floor start [] = floor start
greatest_from floor start (child ∷ path) = greater (floor start) (greatest_from floor (start ++ child ∷ []) path)

-- a path's own floor and its sum, whichever is greater
abbrev pub greater_at : (List ℕ → Option ℕ) → (List ℕ → Option ℕ) → List ℕ → Option ℕ
greater_at live sum path = greater (live path) (sum path)

-- the greatest of the floors and of the sums along a path; none where one of them is none
abbrev pub sharpened : (List ℕ → Option ℕ) → (List ℕ → Option ℕ) → List ℕ → Option ℕ
sharpened live sum = greatest_from (greater_at live sum) []
