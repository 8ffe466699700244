-- Floors: what every setting that a prefix begins still costs. A prefix is live where no strict
-- break is settled in it and a chain of columns goes on from it to the end; its floor is what is
-- paid, what its lines come to at least, and the least sum over such chains.
use Rattle.std.specs.Prelude.{◌≡◌, ℕ, ◌+◌, ◌-◌, false, List, Option, IsSome, length, option_map}
use Rattle.fux_grid.specs.declared.cell.Cell.{Cell}
use Rattle.fux_grid.specs.declared.exercise.Exercise.{Exercise}
use Rattle.fux_grid.specs.Exercises.{columns_in}
use Rattle.fux_grid.specs.Menus.{menu_of}
use Rattle.rule_law.specs.Prefixes.{IsPrefix}
use Rattle.penalty_sheet.specs.declared.sheet.Sheet.{Sheet}
use Rattle.fux_judge.specs.Gauges.{least_of}
use Rattle.fux_judge.specs.Links.{last_column, link_of}
use Rattle.fux_judge.specs.Penalties.{has_strict_break, paid}
use Rattle.chain_sums.specs.Chains.{Chains}
use Rattle.chain_sums.specs.Sums.{least_sum}

-- the chains of an exercise: columns of its menus, and what two neighbors cost by the rules and
-- tolls that read no more
abbrev pub chains_of : Exercise → Sheet → Chains
chains_of ex sheet = record {
  voices = ex.voices;
  places = columns_in ex;
  menu = menu_of ex;
  cost = link_of ex sheet;
}

-- the least that the columns still to come cost by chains; none where no chain goes on to the end
unfoldable pub rest_of : Exercise → Sheet → List (List Cell) → Option ℕ
rest_of ex sheet p = least_sum (chains_of ex sheet) (columns_in ex - length p) (length p) (last_column p)

-- the floor of a prefix
unfoldable pub floor_of : Exercise → Sheet → List (List Cell) → Option ℕ
floor_of ex sheet p = option_map (λ rest. paid ex sheet p + least_of ex sheet p + rest) (rest_of ex sheet p)

-- a live prefix
pub record IsLive (ex : Exercise) (sheet : Sheet) (p : List (List Cell)) : Type 0 where
  pub prefix : IsPrefix ex p
  pub unbroken : has_strict_break ex p ≡ false
  pub goes_on : IsSome (rest_of ex sheet p)
