-- What stands on the sheet of an exercise that is printed.
use Rattle.std.specs.Prelude.{ℕ, zero, suc, ◌+◌, ◌-◌, ◌*◌, ◌/◌, ◌==◌, ◌&&◌, Bool, true, false, [], if◌then◌else◌, slice_get, slice_index_or}
use Rattle.std.specs.Option.{option_map_or}
use Rattle.fux_grid.specs.declared.cell.Cell.{Cell}
use Rattle.fux_grid.specs.declared.cell.Cell.TheVariants as cell
use Rattle.fux_grid.specs.declared.exercise.Exercise.{Exercise}
use Rattle.fux_grid.specs.declared.given.Given.{Given}
use Rattle.fux_grid.specs.declared.given.Given.TheVariants.{Blank, Rest, Tied, Hold, Start}
use Rattle.fux_grid.specs.Cells.{cell_in}
use Rattle.fux_grid.specs.Exercises.{cantus_cell, given_at}

-- a cell of a setting, as what is given
abbrev pub set_cell : Cell → Given
set_cell cell.Rest = Rest
set_cell (cell.Hold p) = Hold p
set_cell (cell.Start p) = Start p

-- what stands of the cantus at a column of a sheet to hand out: its pitch starts where the bar
-- begins, and goes on elsewhere
abbrev pub cantus_at : Exercise → ℕ → Given
cantus_at ex i = option_map_or (λ p. set_cell (cantus_cell i p)) (slice_get ex.cantus (i / 8)) Blank

-- what stands at a voice's cell of a column of a sheet to hand out: the cantus, what is given, and
-- nothing else
abbrev pub handed_out_at : Exercise → ℕ → ℕ → Given
handed_out_at ex i v = if v == ex.cantus_voice then cantus_at ex i else given_at ex i v

-- what stands at a voice's cell of a column: that of the setting, or without one that of the sheet
-- to hand out
unfoldable pub shown_at : Exercise → ℕ → ℕ → Given
shown_at ex i v =
    option_map_or (λ score. set_cell (cell_in (slice_index_or score.columns i []) v)) ex.setting
    (handed_out_at ex i v)

-- ---- bars in which nothing begins behind the first column

-- nothing stands in a cell
abbrev pub is_blank : Given → Bool
is_blank Blank = true
is_blank Rest = false
is_blank Tied = false
is_blank (Hold p) = false
is_blank (Start p) = false

-- a rest stands in a cell
abbrev pub is_rest : Given → Bool
is_rest Blank = false
is_rest Rest = true
is_rest Tied = false
is_rest (Hold p) = false
is_rest (Start p) = false

-- what stands in a cell goes on with what stands before it
abbrev pub goes_on : Given → Given → Bool
goes_on before Blank = is_blank before
goes_on before Rest = is_rest before
goes_on before Tied = true
goes_on before (Hold p) = true
goes_on before (Start p) = false

-- so many voices go on at a column
abbrev pub column_goes_on : Exercise → ℕ → ℕ → Bool
column_goes_on ex i zero = true
column_goes_on ex i (suc v) =
    column_goes_on ex i v && goes_on (shown_at ex (i - 1) v) (shown_at ex i v)

-- all voices go on at so many columns of a bar, counted from 0, behind its first one
abbrev pub bar_goes_on : Exercise → ℕ → ℕ → Bool
bar_goes_on ex bar zero = true
bar_goes_on ex bar (suc slot) =
    bar_goes_on ex bar slot && column_goes_on ex (8 * bar + slot + 1) ex.voices

-- in so many bars nothing begins behind the first column
abbrev pub is_undivided : Exercise → ℕ → Bool
is_undivided ex zero = true
is_undivided ex (suc bar) = is_undivided ex bar && bar_goes_on ex bar 7

-- how many columns of each bar are shown in systems: the first alone in the first species, where
-- nothing begins behind it
unfoldable pub slots_shown : Exercise → ℕ
slots_shown ex = if (ex.species == 1) && is_undivided ex ex.bars then 1 else 8
