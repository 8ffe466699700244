-- The settings that are sought, by their prefixes.
use Rattle.std.specs.Prelude.{Bool, true, false, List}
use Rattle.fux_grid.specs.declared.cell.Cell.{Cell}
use Rattle.fux_grid.specs.declared.exercise.Exercise.{Exercise}
use Rattle.fux_grid.specs.Order.{IsEarlier}
use Rattle.fux_judge.specs.Lawful.{IsLawful}
use Rattle.fux_judge.specs.Penalties.{penalty_of}
use Rattle.species_space.specs.Chained.{IsLiveWith, floor_with}
use Rattle.penalty_sheet.specs.declared.sheet.Sheet.{Sheet}
use Rattle.tree_search.specs.Quests.{Quest}

-- with chains or without, a live prefix costs at least its floor; of settings that cost as much the
-- one that is earlier in reading order comes first
abbrev pub settings_with : Bool → Exercise → Sheet → Quest (List Cell)
settings_with chained ex sheet = record {
  IsLive = IsLiveWith chained ex sheet;
  floor = floor_with chained ex sheet;
  IsLawful = IsLawful ex;
  penalty = penalty_of ex sheet;
  IsEarlier = λ s t. IsEarlier s t;
}

-- with chains a prefix is live where no strict break is settled in it and one goes on from it
abbrev pub settings : Exercise → Sheet → Quest (List Cell)
settings = settings_with true

-- without chains it is live where no strict break is settled in it, and what is to come costs
-- nothing: so a mixed exercise is searched
abbrev pub mixed_settings : Exercise → Sheet → Quest (List Cell)
mixed_settings = settings_with false
