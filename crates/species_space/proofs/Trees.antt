-- The tree is that of the settings (`tree_of_settings`), so that what is found at its leaves is
-- told of settings.
use Rattle.std.specs.Prelude.{◌≡◌, ℕ, Bool, true, List, refl}
use Rattle.fux_grid.specs.declared.exercise.Exercise.{Exercise}
use Rattle.fux_grid.specs.Exercises.{IsValid, columns_in}
use Rattle.fux_grid.proofs.OrderLemmas.{earlier-chained, earlier-itself}
use Rattle.penalty_sheet.specs.declared.sheet.Sheet.{Sheet}
use Rattle.fux_judge.specs.Lawful.{BoundsLawful, HasNoLawful}
use Rattle.fux_judge.specs.Penalties.{penalty_of}
use Rattle.tree_search.specs.Answer as tree
use Rattle.tree_search.specs.Quests.{IsTreeOf}
use Rattle.tree_search.proofs.Quests.{bound_is_reached, first_is_best, none_is_lawful, over_lists}
use Rattle.species_space.proofs.Best.{before_is_earlier, lawful_is_leaf, leaf_is_lawful, one_path}
use Rattle.species_space.proofs.Live.{live_prefix, path_is_alive, path_to_live}
use Rattle.species_space.specs.Grows.{paths_grow, with_value}
use Rattle.species_space.specs.Loads.{IsBest, IsOverBudget}
use Rattle.species_space.specs.Paths.{alive_parts, column_at, live_at, live_with, prefix_at, prefix_at-append, width_at}
use Rattle.species_space.specs.Trees.{settings, settings_with}

pub tree_of_settings : (chained : Bool) (ex : Exercise) (sheet : Sheet) → IsValid ex
    → IsTreeOf (settings_with chained ex sheet) (live_with chained ex sheet) (columns_in ex) (prefix_at ex)
tree_of_settings chained ex sheet valid = record {
  live_only = live_prefix chained ex sheet;
  each_live = path_to_live chained ex sheet valid;
  floors = λ path floor live. (with_value chained ex sheet path floor live).1;
  once = λ path other live its_live e.
      one_path ex path other (path_is_alive chained ex sheet path live) (path_is_alive chained ex sheet other its_live)
      e;
  order = λ path other live size before.
      before_is_earlier ex 0 path other size
      (alive_parts ex other (path_is_alive chained ex sheet other live)).menus before;
  lawful_only = leaf_is_lawful ex valid sheet chained;
  each_lawful = λ s lawful.
      let way = lawful_is_leaf ex valid sheet chained s lawful in
      record { path = way.0; leads = way.1; leaf = way.2 };
  root = refl;
  on = λ path k. record { step = column_at ex path k; is = prefix_at-append ex path k };
  one_way = λ s t h k. earlier-itself s (earlier-chained s t s h k);
}

module _ (ex : Exercise) (valid : IsValid ex) (sheet : Sheet) where
  pub first_least_is_best : (path : List ℕ) (value : ℕ) → tree.IsFirstLeast (live_at ex sheet) (columns_in ex) path value
      → IsBest ex sheet (prefix_at ex path) × (penalty_of ex sheet (prefix_at ex path) ≡ value)
  first_least_is_best path value found = (
    first_is_best (settings ex sheet) (live_at ex sheet) (width_at ex) (columns_in ex) (prefix_at ex)
        (tree_of_settings true ex sheet valid) (paths_grow ex sheet) path value found,
    (leaf_is_lawful ex valid sheet true path value found.leaf).1,
  )

  pub no_leaf_no_lawful : tree.HasNoLeaf (live_at ex sheet) (columns_in ex) → HasNoLawful ex
  no_leaf_no_lawful =
      none_is_lawful (settings ex sheet) (live_at ex sheet) (width_at ex) (columns_in ex) (prefix_at ex)
      (tree_of_settings true ex sheet valid) (paths_grow ex sheet)

  pub bound_of_lawful : (bound : ℕ) → tree.BoundsLeaves (live_at ex sheet) (columns_in ex) bound
      → BoundsLawful ex sheet bound
  bound_of_lawful =
      bound_is_reached (settings ex sheet) (live_at ex sheet) (width_at ex) (columns_in ex) (prefix_at ex)
      (tree_of_settings true ex sheet valid) (paths_grow ex sheet)

  pub over_prefixes : (budget : ℕ) → tree.IsOverBudget (live_at ex sheet) (columns_in ex) budget
      → IsOverBudget ex sheet budget
  over_prefixes =
      over_lists (settings ex sheet) (live_at ex sheet) (width_at ex) (columns_in ex) (prefix_at ex)
      (tree_of_settings true ex sheet valid) (paths_grow ex sheet)
