-- What a rule or a toll answers at the places of a list of columns, and how much of the list
-- settles it.
use Rattle.std.specs.Prelude.{◌≡◌, ℕ, ◌+◌, ◌<◌, Bool, true, ◌&&◌, nat_lt, List, [], ◌∷◌, ◌++◌, IsTrue, length, drop, slice_index_or}
use Rattle.fux_grid.specs.declared.cell.Cell.{Cell}
use Rattle.fux_grid.specs.declared.exercise.Exercise.{Exercise}
use Rattle.fux_grid.specs.Columns.{earlier}
use Rattle.fux_grid.specs.Exercises.{columns_in}
use Rattle.rule_law.specs.Prefixes.{GoesOn}

-- an answer at each place of a list of columns: for rules whether they are broken, for tolls what
-- they cost
abbrev pub Reading : Type 0 → Type 0
Reading R = List (List Cell) → ℕ → R

-- an answer from a place, the columns before it from the newest to the oldest, its column, and the
-- columns after it
abbrev pub Row : Type 0 → Type 0
Row R = ℕ → List (List Cell) → List Cell → List (List Cell) → R

-- the row, read at each place of a list
abbrev pub reading_of : {R : Type 0} → Row R → Reading R
reading_of row s i = row i (earlier s i) (slice_index_or s i []) (drop (i + 1) s)

-- the same of a row that looks at no column after its own, and of one that looks at none before it
abbrev pub reading_back : {R : Type 0} → (ℕ → List (List Cell) → List Cell → R) → Reading R
reading_back row s i = row i (earlier s i) (slice_index_or s i [])

abbrev pub reading_ahead : {R : Type 0} → (ℕ → List Cell → List (List Cell) → R) → Reading R
reading_ahead row s i = row i (slice_index_or s i []) (drop (i + 1) s)

-- the row, read at a place of the list with one column more
abbrev pub reading_with : {R : Type 0} → Row R → List (List Cell) → List Cell → ℕ → R
reading_with row p col = reading_of row (p ++ col ∷ [])

-- settled where the list has the place, and enough columns with it and after it
abbrev pub settled_by : Row Bool → Reading Bool
settled_by enough s i = nat_lt i (length s) && reading_of enough s i

-- what is settled at a place of an orderly prefix stays so: every prefix that it begins has the
-- same answer there, and so has every setting
abbrev pub IsLocal : {R : Type 0} → Exercise → Reading R → Reading Bool → Type 0
IsLocal ex reads settles =
    (p t : List (List Cell)) (i : ℕ) → GoesOn ex p t → IsTrue (settles p i) → reads (p ++ t) i ≡ reads p i

-- in a list of all columns everything is settled
abbrev pub SettlesAtEnd : Exercise → Reading Bool → Type 0
SettlesAtEnd ex settles =
    (s : List (List Cell)) (i : ℕ) → length s ≡ columns_in ex → i < length s → IsTrue (settles s i)

-- where there is enough after the place, more columns change nothing, in whatever list
abbrev pub IsUndisturbed : {R : Type 0} → Row R → Row Bool → Type 0
IsUndisturbed row enough = (i : ℕ) (behind : List (List Cell)) (now : List Cell) (ahead t : List (List Cell))
    → IsTrue (enough i behind now ahead) → row i behind now (ahead ++ t) ≡ row i behind now ahead

-- settled at once
abbrev pub at_once : Row Bool
at_once i behind now ahead = true
