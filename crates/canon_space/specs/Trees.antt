-- The canons that are sought, by what their bars may be and what they cost.
use Rattle.std.specs.Prelude.{List, Some}
use Rattle.fux_grid.specs.declared.cell.Cell.{Cell}
use Rattle.fux_grid.specs.Order.{IsEarlier}
use Rattle.tree_search.specs.Quests.{Quest}
use Rattle.penalty_sheet.specs.declared.sheet.Sheet.{Sheet}
use Rattle.canon_space.specs.declared.canon.Canon.{Canon}
use Rattle.canon_space.specs.Rules.{IsLawful, IsLive, penalty_of}

-- bars are live where they begin a canon and break no rule, and cost at least what they cost so
-- far; of canons that cost as much the one that is earlier in reading order comes first
abbrev pub canons : Canon → Sheet → Quest (List Cell)
canons canon sheet = record {
  IsLive = IsLive canon;
  floor = λ bars. Some (penalty_of canon sheet bars);
  IsLawful = IsLawful canon;
  penalty = penalty_of canon sheet;
  IsEarlier = λ bars others. IsEarlier bars others;
}
