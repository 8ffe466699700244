-- Live paths lead to the live prefixes (`live_prefix`), and each of these is at the end of one
-- (`path_to_live`).
use Rattle.std.specs.Prelude.{◌≡◌, ℕ, Bool, List, Option, Some, None, IsSome, true, false, refl}
use Rattle.std.proofs.Common.{ap, sym, ◌∙◌, subst}
use Rattle.fux_grid.specs.declared.cell.Cell.{Cell}
use Rattle.fux_grid.specs.declared.exercise.Exercise.{Exercise}
use Rattle.fux_grid.specs.Exercises.{IsValid}
use Rattle.fux_judge.specs.Lawful.{IsAlive}
use Rattle.penalty_sheet.specs.declared.sheet.Sheet.{Sheet}
use Rattle.tree_search.specs.Quests.{LivePath}
use Rattle.species_space.specs.Chained.{IsLiveWith, floor_with}
use Rattle.species_space.specs.FloorLaws.{floor_if_rest, floor_parts}
use Rattle.species_space.specs.Exact.{menus_are_exact}
use Rattle.species_space.specs.Grows.{with_some, with_value}
use Rattle.species_space.specs.Leaves.{path_to_alive, prefix_is_alive}
use Rattle.species_space.specs.Paths.{is_alive_path, live_with, prefix_at}

module _ (ex : Exercise) (sheet : Sheet) where
  live_from : (chained : Bool) (p : List (List Cell)) (value : ℕ) → IsAlive ex p → floor_with chained ex sheet p
      ≡ Some value → IsLiveWith chained ex sheet p
  live_from true p value alive e = record {
    prefix = alive.prefix;
    unbroken = alive.unbroken;
    goes_on = subst IsSome (sym (floor_parts ex sheet p value e).is_rest) refl;
  }
  live_from false p value alive e = alive

  alive_from : (chained : Bool) (p : List (List Cell)) → IsLiveWith chained ex sheet p → IsAlive ex p
  alive_from true p live = record { prefix = live.prefix; unbroken = live.unbroken }
  alive_from false p live = live

  has_floor : (chained : Bool) (p : List (List Cell)) → IsLiveWith chained ex sheet p
      → IsSome (floor_with chained ex sheet p)
  has_floor true p live = floor_if_rest ex sheet p live.goes_on
  has_floor false p live = refl

module _ (chained : Bool) (ex : Exercise) (sheet : Sheet) where
  pub path_is_alive : (path : List ℕ) → IsSome (live_with chained ex sheet path) → is_alive_path ex path ≡ true
  path_is_alive path h = at (live_with chained ex sheet path) refl h
    where
      at : (o : Option ℕ) → live_with chained ex sheet path ≡ o → IsSome o → is_alive_path ex path ≡ true
      at None e s = cc
      at (Some value) e s = (with_value chained ex sheet path value e).0

  pub live_prefix : (path : List ℕ) → IsSome (live_with chained ex sheet path)
      → IsLiveWith chained ex sheet (prefix_at ex path)
  live_prefix path h = at (live_with chained ex sheet path) refl h
    where
      at : (o : Option ℕ) → live_with chained ex sheet path ≡ o → IsSome o
          → IsLiveWith chained ex sheet (prefix_at ex path)
      at None e s = cc
      at (Some value) e s =
          let own = with_value chained ex sheet path value e in
          live_from ex sheet chained (prefix_at ex path) value
          (prefix_is_alive ex (menus_are_exact ex) path own.0) own.1

  pub path_to_live : IsValid ex → (p : List (List Cell)) → IsLiveWith chained ex sheet p
      → LivePath (live_with chained ex sheet) (prefix_at ex) p
  path_to_live valid p live =
      let way = path_to_alive ex (menus_are_exact ex) valid p (alive_from ex sheet chained p live) in
      record {
        path = way.path;
        leads = way.there;
        is_live = subst IsSome
            (sym (with_some chained ex sheet way.path way.alive ∙ ap (floor_with chained ex sheet) way.there))
            (has_floor ex sheet chained p live);
      }
