-- What the columns of a setting are charged, case by case.
use Rattle.std.specs.Prelude.{◌≡◌, ℕ, zero, suc, ◌+◌, ◌*◌, ◌<◌, ◌≤◌, ◌==◌, ◌&&◌, pos, int_le, nat_le, Bool, true, false, List, [], Option, Some, None, IfSome, length, slice_index, slice_index_or, if◌then◌else◌}
use Rattle.std.specs.List.{list_any, sum_by}
use Rattle.fux_pitch.specs.declared.pitch.Pitch.{Pitch}
use Rattle.fux_pitch.specs.Pitch.{key_of}
use Rattle.fux_grid.specs.declared.cell.Cell.{Cell}
use Rattle.fux_grid.specs.declared.exercise.Exercise.{Exercise}
use Rattle.fux_grid.specs.Cells.{cell_in}
use Rattle.fux_grid.specs.Menus.{menu_of}
use Rattle.rule_law.specs.Terms.{started_pitch}
use Rattle.penalty_sheet.specs.declared.sheet.Sheet.{Sheet}
use Rattle.penalty_sheet.specs.Weights.{weight_of}
use Rattle.fux_judge.specs.Gauges.{free_voices}
use Rattle.priced_floors.specs.declared.prices.Prices.{Prices}
use Rattle.priced_floors.specs.declared.prices.Summit.{Summit}
use Rattle.priced_floors.specs.Strikes.{strike_price, top_price}
use Rattle.priced_floors.specs.Fairness.{debt_of}
use Rattle.priced_floors.specs.declared.charges.Charges.{Charges}

-- what strikes are charged at a place of some prices; nothing where there are none
abbrev pub prices_in : ℕ → List Prices → ℕ → Prices
prices_in scale prices place = slice_index_or prices place (record { scale = scale; strikes = [] })

-- what the strikes of a voice are charged in a case
abbrev pub prices_of : Charges → ℕ → ℕ → Prices
prices_of charges case v = prices_in charges.scale charges.strikes.items (4 * case + v)

-- no greatest key is asked for, and none is charged
abbrev pub any_summit : Summit
any_summit = record { low = 0; high = None; charge = 0 }

-- the greatest keys of a case
abbrev pub summit_at : Charges → ℕ → Summit
summit_at charges case = slice_index_or charges.summits.items case any_summit

-- and of a voice: only one of them is told apart
abbrev pub summit_of : Charges → ℕ → ℕ → Summit
summit_of charges case v = if v == charges.voice then summit_at charges case else any_summit

-- what a voice is charged for the note that starts, where one does
abbrev pub note_charge : Prices → Summit → Option Pitch → ℕ
note_charge prices summit None = 0
note_charge prices summit (Some p) = strike_price prices.strikes p + top_price summit p

-- what the notes that start in a column are charged
abbrev pub column_charge : Exercise → Charges → ℕ → List Cell → ℕ
column_charge ex charges case col =
    sum_by (λ v. note_charge (prices_of charges case v) (summit_of charges case v) (started_pitch (cell_in col v)))
    (free_voices ex)

-- the note that starts isn't above a key, where there is one
abbrev pub keeps_within : Option ℕ → Option Pitch → Bool
keeps_within None p = true
keeps_within (Some key) None = true
keeps_within (Some key) (Some p) = int_le (key_of p) (pos key)

-- the note that starts is no lower than a key; of the least key nothing is asked
abbrev pub comes_to : ℕ → Option Pitch → Bool
comes_to zero p = true
comes_to (suc low) None = false
comes_to (suc low) (Some p) = int_le (pos (suc low)) (key_of p)

-- what a column is charged in a case; none where it has a note above all that the case is of
abbrev pub toll_of : Exercise → Charges → ℕ → List Cell → Option ℕ
toll_of ex charges case col =
    if keeps_within (summit_at charges case).high (started_pitch (cell_in col charges.voice))
    then Some (column_charge ex charges case col) else None

-- the column has a note of the greatest keys that the case is of
abbrev pub is_summit : Charges → ℕ → List Cell → Bool
is_summit charges case col = comes_to (summit_at charges case).low (started_pitch (cell_in col charges.voice))

-- what may be charged that isn't due
abbrev pub debt_in : Exercise → Charges → ℕ → ℕ
debt_in ex charges case = sum_by (λ v. debt_of (prices_of charges case v) (summit_of charges case v)) (free_voices ex)

-- a key is no higher than another, where there is that
abbrev pub is_below : Option ℕ → ℕ → Bool
is_below None key = true
is_below (Some high) key = nat_le key high

-- these are the debts of all cases
abbrev pub AreDebts : Exercise → Charges → List ℕ → Type 0
AreDebts ex charges debts =
    (case : ℕ) → case < length charges.summits.items → slice_index_or debts case 0 ≡ debt_in ex charges case

-- a greatest key is of a case: no lower than its low end, and no higher than its high end
abbrev pub has_key : ℕ → Summit → Bool
has_key key summit = nat_le summit.low key && is_below summit.high key

-- each key is of some case
abbrev pub AreCases : List Summit → Type 0
AreCases summits = (key : ℕ) → list_any (has_key key) summits ≡ true

-- each charge is at most what the gauges cost, and each key is of some case
pub record AreFairCharges (charges : Charges) (sheet : Sheet) : Type 0 where
  pub some : 0 < charges.scale
  pub same : (case v : ℕ) → (prices_of charges case v).scale ≡ charges.scale
  pub strikes : (case v place : ℕ) → slice_index (prices_of charges case v).strikes place ≤ charges.scale * weight_of sheet 20
  pub tops : (case : ℕ) → (summit_at charges case).charge ≤ charges.scale * weight_of sheet 17
  pub cases : AreCases charges.summits.items

-- each charge is at most this
pub record AreSmallCharges (most : ℕ) (charges : Charges) : Type 0 where
  pub strikes : (case v place : ℕ) → slice_index (prices_of charges case v).strikes place ≤ most
  pub tops : (case : ℕ) → (summit_at charges case).charge ≤ most

-- each note at the high end of a case is charged at most this
abbrev pub AreTopsWithin : ℕ → List Summit → Type 0
AreTopsWithin most summits = (case : ℕ) → (slice_index_or summits case any_summit).charge ≤ most

-- a number, where there is one, is below another
abbrev pub IsBelow : Option ℕ → ℕ → Type 0
IsBelow number most = IfSome number (λ n. n < most)

-- ---- along a path

-- what a case charges for the column of a number, and whether that comes to the case's greatest
-- keys
abbrev pub toll_in : Exercise → Charges → ℕ → ℕ → ℕ → Option ℕ
toll_in ex charges case i k = toll_of ex charges case (slice_index_or (menu_of ex i) k [])

abbrev pub reaches_in : Exercise → Charges → ℕ → ℕ → ℕ → Bool
reaches_in ex charges case i k = is_summit charges case (slice_index_or (menu_of ex i) k [])
