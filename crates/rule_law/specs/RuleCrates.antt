-- What a crate of rules and tolls tells of those in its book.
use Rattle.std.specs.Prelude.{◌≡◌, ℕ, Bool, true, false, List, [], ◌∷◌, ◌++◌, length, reverse}
use Rattle.fux_grid.specs.declared.cell.Cell.{Cell}
use Rattle.fux_grid.specs.declared.exercise.Exercise.{Exercise}
use Rattle.fux_grid.specs.Columns.{Columns, newest_column}
use Rattle.rule_law.specs.declared.newest.NewestColumns.{NewestColumns}
use Rattle.rule_law.specs.declared.table.Kind.{Kind}
use Rattle.rule_law.specs.declared.table.Kind.TheVariants.{Column, Pair, Window}
use Rattle.rule_law.specs.Nearby.{Pitches, previous_pitches}
use Rattle.rule_law.specs.Newest.{AreNewestOf}
use Rattle.rule_law.specs.Places.{Row}
use Rattle.rule_law.specs.Prefixes.{GoesOn}
use Rattle.rule_law.specs.Rulebooks.{IsAmong, RuleRow, newly_breaks}

-- a column and the one before it are enough for a rule or a toll of this kind
abbrev pub is_of_neighbors : Kind → Bool
is_of_neighbors Column = true
is_of_neighbors Pair = true
is_of_neighbors Window = false

-- of each list of so many columns of which the one is kept, the other is kept with one column more
abbrev pub KeptWith : {P : Type 0} → (Columns → P → Type 0) → ℕ → List Cell → P → P → Type 0
KeptWith is_part i col part longer =
    (p : Columns) → length p ≡ i → is_part p part → is_part (p ++ col ∷ []) longer

-- at one of a late rule's places: whether the last column, which comes after an orderly prefix,
-- settles a break of it there; known by what is kept of the two, and by the newest columns
abbrev pub TellsBreakBy : {P : Type 0} → (Columns → P → Type 0) → RuleRow → Exercise → ℕ → P → NewestColumns → ℕ → Bool
    → Type 0
TellsBreakBy is_part it ex voices part kept place told =
    (p : Columns) (col : List Cell) → is_part (p ++ col ∷ []) part
    → AreNewestOf ex.voices (p ++ col ∷ []) kept → GoesOn ex p (col ∷ [])
    → IsAmong (it.first ex (length p)) (it.count ex (length p)) place
    → told ≡ newly_breaks it ex voices p col place

-- of a rule's places it settles breaks at none but so many from a first one on
abbrev pub SettlesNoOther : {P : Type 0} → (Columns → P → Type 0) → RuleRow → Exercise → P → NewestColumns → ℕ → ℕ
    → Type 0
SettlesNoOther is_part it ex part kept first count =
    (p : Columns) (col : List Cell) → is_part (p ++ col ∷ []) part
    → AreNewestOf ex.voices (p ++ col ∷ []) kept → GoesOn ex p (col ∷ [])
    → (voices i : ℕ) → IsAmong (it.first ex (length p)) (it.count ex (length p)) i
    → newly_breaks it ex voices p col i ≡ true → IsAmong first count i

-- at the column that comes behind so many columns, and whatever follows it: what the row answers.
-- It is known by what is kept of these, by the newest of them, and by the pitch of each voice's
-- previous note
abbrev pub TellsAtOnce : {P R : Type 0} → (Columns → P → Type 0) → Row R → P → ℕ → List Cell → Pitches → List Cell → R
    → Type 0
TellsAtOnce is_part row part i before latest now told =
    (p ahead : Columns) → length p ≡ i → is_part p part → before ≡ newest_column (reverse p)
    → latest ≡ previous_pitches (reverse p) → told ≡ row i (reverse p) now ahead

-- the same of a row of neighbors, behind whatever columns
abbrev pub TellsBetween : {R : Type 0} → Row R → ℕ → List Cell → Pitches → List Cell → R → Type 0
TellsBetween row i before latest now told =
    (behind : List (List Cell)) → before ≡ newest_column behind → latest ≡ previous_pitches behind
    → told ≡ row i behind now []
