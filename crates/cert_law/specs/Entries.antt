-- What the second form of a certificate states: a number for the start and for each column of the
-- menus, in reading order; and when that is true.
use Rattle.std.specs.Prelude.{◌≡◌, ℕ, zero, suc, ◌+◌, ◌<◌, ◌≤◌, List, [], Option, Some, None, IfSome, IsSomeAnd, length, slice_index_or}
use Rattle.cert_text.specs.declared.potential.Potential.{Potential}
use Rattle.cert_text.specs.declared.potential.Potential.TheVariants.{Least, NoChain}
use Rattle.chain_sums.specs.Sums.{sum_behind}
use Rattle.floor_tables.specs.Floors.{chains_of, rest_of}
use Rattle.fux_grid.specs.declared.cell.Cell.{Cell}
use Rattle.fux_grid.specs.declared.exercise.Exercise.{Exercise}
use Rattle.fux_grid.specs.Exercises.{IsValid, columns_in}
use Rattle.fux_grid.specs.Menus.{menu_of}
use Rattle.fux_judge.specs.Links.{last_column}
use Rattle.penalty_sheet.specs.declared.sheet.Sheet.{Sheet}

-- how many columns the menus of the first so many places have together
abbrev pub columns_before : Exercise → ℕ → ℕ
columns_before ex zero = 0
columns_before ex (suc i) = columns_before ex i + length (menu_of ex i)

-- how many entries there are: one of the start, and one of each column
abbrev pub entry_count : Exercise → ℕ
entry_count ex = 1 + columns_before ex (columns_in ex)

-- the entry of this number; the start's has number 0
abbrev pub entry_at : List Potential → ℕ → Potential
entry_at entries n = slice_index_or entries n NoChain

-- that of the column with a number in the menu of a place
abbrev pub entry_of : Exercise → List Potential → ℕ → ℕ → Potential
entry_of ex entries i k = entry_at entries (1 + columns_before ex i + k)

-- the column with a number in the menu of a place
abbrev pub menu_column : Exercise → ℕ → ℕ → List Cell
menu_column ex i k = slice_index_or (menu_of ex i) k []

-- the number that an entry states, if any
abbrev pub number_in : Potential → Option ℕ
number_in (Least n) = Some n
number_in NoChain = None

-- what a column of a place's menu costs behind another or behind none, together with the number
-- that is stated for it; none where it doesn't follow, may not be the neighbor, or has no number
abbrev pub sum_through : Exercise → Sheet → List Potential → ℕ → Option (List Cell) → ℕ → Option ℕ
sum_through ex sheet entries i before k =
    sum_behind (chains_of ex sheet) i before (menu_column ex i k) (number_in (entry_of ex entries i k))

-- a number is at most such a sum, where there is one; `n` allows none
abbrev pub AllowsSum : Potential → Option ℕ → Type 0
AllowsSum (Least n) sum = IfSome sum (λ s. n ≤ s)
AllowsSum NoChain sum = sum ≡ None

-- an entry is true of a column before a place, or of the start, by the sums through each column of
-- the place's menu
abbrev pub IsTrueBefore : Exercise → Sheet → List Potential → ℕ → Option (List Cell) → Potential → Type 0
IsTrueBefore ex sheet entries i before entry =
    (k : ℕ) → k < length (menu_of ex i) → AllowsSum entry (sum_through ex sheet entries i before k)

-- each entry is true. That of a column of the last place is `p 0`
pub record AreTrueEntries (ex : Exercise) (sheet : Sheet) (entries : List Potential) : Type 0 where
  pub whole : length entries ≡ entry_count ex
  pub start : IsTrueBefore ex sheet entries 0 None (entry_at entries 0)
  pub each : (i k : ℕ) → suc i < columns_in ex → k < length (menu_of ex i)
      → IsTrueBefore ex sheet entries (suc i) (Some (menu_column ex i k)) (entry_of ex entries i k)
  pub last : (i k : ℕ) → suc i ≡ columns_in ex → k < length (menu_of ex i) → entry_of ex entries i k ≡ Least 0

-- the entry of a number is true: of the start's, which has number 0, and of a column's
pub record IsTrueEntry (ex : Exercise) (sheet : Sheet) (entries : List Potential) (n : ℕ) : Type 0 where
  pub start : n ≡ 0 → IsTrueBefore ex sheet entries 0 None (entry_at entries 0)
  pub each : (i k : ℕ) → n ≡ 1 + columns_before ex i + k → suc i < columns_in ex → k < length (menu_of ex i)
      → IsTrueBefore ex sheet entries (suc i) (Some (menu_column ex i k)) (entry_of ex entries i k)
  pub last : (i k : ℕ) → n ≡ 1 + columns_before ex i + k → suc i ≡ columns_in ex → k < length (menu_of ex i)
      → entry_of ex entries i k ≡ Least 0

-- this is the number of the first entry that isn't true
pub record IsFirstFalse (ex : Exercise) (sheet : Sheet) (entries : List Potential) (n : ℕ) : Type 0 where
  pub whole : length entries ≡ entry_count ex
  pub within : n < entry_count ex
  pub untrue : IsTrueEntry ex sheet entries n → ⊥
  pub before : (m : ℕ) → m < n → IsTrueEntry ex sheet entries m

-- where there is a least sum over chains, the number is stated and at most that: so no chain goes
-- on where `n` is stated
abbrev pub IsLow : Option ℕ → Option ℕ → Type 0
IsLow stated rest = IfSome rest (λ r. IsSomeAnd stated (λ n. n ≤ r))

-- true entries are at most the least sums over the chains that go on from each prefix
pub record EntriesAreLow (ex : Exercise) (sheet : Sheet) (entries : List Potential) : Type 0 where
  pub start : IsLow (number_in (entry_at entries 0)) (rest_of ex sheet [])
  pub each : (p : List (List Cell)) (i k : ℕ) → i < columns_in ex → k < length (menu_of ex i) → length p ≡ suc i
      → last_column p ≡ Some (menu_column ex i k)
      → IsLow (number_in (entry_of ex entries i k)) (rest_of ex sheet p)

abbrev pub TrueEntriesAreLow : Type 0
TrueEntriesAreLow = (ex : Exercise) (sheet : Sheet) (entries : List Potential) → IsValid ex
    → AreTrueEntries ex sheet entries → EntriesAreLow ex sheet entries
