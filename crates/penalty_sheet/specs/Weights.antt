-- The weights of the tolls.
use Rattle.std.specs.Prelude.{ℕ, ◌-◌, Bool, List, [], ◌∷◌, slice_index, if◌then◌else◌}
use Rattle.penalty_sheet.specs.declared.sheet.Sheet.{Sheet}

-- the tolls are numbered from 1 to this number
abbrev pub greatest_toll : ℕ
greatest_toll = 21

-- the weight of a toll
abbrev pub weight_of : Sheet → ℕ → ℕ
weight_of sheet toll = slice_index sheet.weights (toll - 1)

-- what it costs where it stands, else nothing
abbrev pub charge : Sheet → ℕ → Bool → ℕ
charge sheet toll stands = if stands then weight_of sheet toll else 0

-- the weights of Q1 to Q21 where none is given
abbrev pub default_weights : List ℕ
default_weights = 2 ∷ 3 ∷ 4 ∷ 2 ∷ 2 ∷ 1 ∷ 3 ∷ 1 ∷ 2 ∷ 5 ∷ 2 ∷ 4 ∷ 3 ∷ 4 ∷ 4 ∷ 5 ∷ 4 ∷ 3 ∷ 2 ∷ 3 ∷ 0 ∷ []
