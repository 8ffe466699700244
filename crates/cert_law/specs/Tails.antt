-- Tails: what the columns behind a prefix cost at least together. In the first form of a
-- certificate that is the least sum over the chains that go on; in the second it is the number that
-- the certificate states.
use Rattle.std.specs.Prelude.{ℕ, ◌+◌, ◌-◌, List, Option, Some, None, length, option_map}
use Rattle.std.specs.List.{position_or_len}
use Rattle.std.specs.Ordering.{is_eq}
use Rattle.cert_text.specs.declared.potential.Potential.{Potential}
use Rattle.cert_law.specs.Entries.{entry_at, entry_of, number_in}
use Rattle.floor_tables.specs.Floors.{rest_of}
use Rattle.fux_grid.specs.declared.cell.Cell.{Cell}
use Rattle.fux_grid.specs.declared.exercise.Exercise.{Exercise}
use Rattle.fux_grid.specs.Menus.{menu_of}
use Rattle.fux_grid.specs.Order.{column_order}
use Rattle.fux_judge.specs.Gauges.{least_of}
use Rattle.fux_judge.specs.Links.{last_column}
use Rattle.fux_judge.specs.Penalties.{paid}
use Rattle.penalty_sheet.specs.declared.sheet.Sheet.{Sheet}

-- the number of a column in a menu: how many stand before it
abbrev pub number_of : List (List Cell) → List Cell → ℕ
number_of menu col = position_or_len (λ c. is_eq (column_order c col)) menu

-- what is stated of a prefix of so many columns that ends with this one, or of the empty one
abbrev pub entry_behind : Exercise → List Potential → ℕ → Option (List Cell) → Potential
entry_behind ex entries size None = entry_at entries 0
entry_behind ex entries size (Some col) = entry_of ex entries (size - 1) (number_of (menu_of ex (size - 1)) col)

abbrev pub entry_for : Exercise → List Potential → List (List Cell) → Potential
entry_for ex entries p = entry_behind ex entries (length p) (last_column p)

-- the tail of a prefix, where entries are stated or none are; none where no chain goes on, and
-- where `n` is stated
abbrev pub tail_of : Exercise → Sheet → Option (List Potential) → List (List Cell) → Option ℕ
tail_of ex sheet None p = rest_of ex sheet p
tail_of ex sheet (Some entries) p = number_in (entry_for ex entries p)

-- the floor of a prefix by its tail
unfoldable pub used_floor : Exercise → Sheet → Option (List Potential) → List (List Cell) → Option ℕ
used_floor ex sheet stated p =
    option_map (λ tail. paid ex sheet p + least_of ex sheet p + tail) (tail_of ex sheet stated p)
