-- What `mixed --best` makes of what was found by sharper floors: the setting is whole
-- (`whole_mixed`), and what is written tells what was found (`told_mixed`). A budget that isn't
-- enough for loads over live prefixes isn't enough where chains aren't asked for
-- (`over_unchained`).
use Rattle.std.proofs.Common.{◌≡◌, ℕ, ◌+◌, ◌≤◌, List, [], ◌∷◌, Option, Some, None, IsSomeAnd, refl, arith}
use Rattle.std.specs.List.{AllByRecursion}
use Rattle.fux_grid.specs.declared.cell.Cell.{Cell}
use Rattle.fux_grid.specs.declared.exercise.Exercise.{Exercise}
use Rattle.fux_grid.specs.Exercises.{as_mixed}
use Rattle.fux_judge.specs.Gauges.{least_of}
use Rattle.fux_judge.specs.Lawful.{IsAlive}
use Rattle.fux_judge.specs.Penalties.{paid, penalty_of}
use Rattle.floor_tables.specs.Floors.{IsLive, floor_of}
use Rattle.penalty_sheet.specs.declared.sheet.Sheet.{Sheet}
use Rattle.species_space.specs.FloorLaws.{floor_parts}
use Rattle.species_space.specs.Trees.{mixed_settings, settings}
use Rattle.tree_search.specs.Quests.{HasMany, IsBest, IsLiveBegun, IsLoaded, IsOverBudget}
use Rattle.works.specs.declared.searching.Found.{Found}
use Rattle.works.specs.declared.searching.Found.TheVariants.{Best, Nothing, Spent}
use Rattle.works.specs.Composed.{found_output}
use Rattle.works.specs.Mixed.{TellsMixedSharply}
use Rattle.works.specs.Searched.{HasWholeScore, IsFoundSharply}

all_by : (P Q : List (List Cell) → Type 0) → ((p : List (List Cell)) → P p → Q p) → (ps : List (List (List Cell)))
    → AllByRecursion P ps → AllByRecursion Q ps
all_by P Q f [] h = tt
all_by P Q f (p ∷ ps) h = (f p h.0, all_by P Q f ps h.1)

many_by : (P Q : List (List Cell) → Type 0) → ((p : List (List Cell)) → P p → Q p) → (count : ℕ) → HasMany P count
    → HasMany Q count
many_by P Q f count h =
    record { lists = h.lists; counted = h.counted; differ = h.differ; kind = all_by P Q f h.lists h.kind }

module _ (ex : Exercise) (sheet : Sheet) where
  alive : (p : List (List Cell)) → IsLive ex sheet p → IsAlive ex p
  alive p h = record { prefix = h.prefix; unbroken = h.unbroken }

  -- what is paid and the lines cost at least is no more than the floor with chains
  no_higher : (p : List (List Cell)) (most : ℕ) (floor : Option ℕ) → floor_of ex sheet p ≡ floor
      → IsSomeAnd floor (λ own. own ≤ most) → paid ex sheet p + least_of ex sheet p ≤ most
  no_higher p most None is low = absurd low
  no_higher p most (Some floor) is low =
      let parts = floor_parts ex sheet p floor is in omega (arith, parts.sum, low)

  loaded : (most : ℕ) (p : List (List Cell)) → IsLoaded (settings ex sheet) most p
      → IsLoaded (mixed_settings ex sheet) most p
  loaded most p h = record {
    live = alive p h.live;
    shorter = h.shorter;
    last = h.last;
    is = h.is;
    low = no_higher h.shorter most (floor_of ex sheet h.shorter) refl h.low;
  }

  -- with chains or without, one setting is the best
  pub best_alike : (s : List (List Cell)) → IsBest (mixed_settings ex sheet) s → IsBest (settings ex sheet) s
  best_alike s h = record { lawful = h.lawful; least = h.least; first = h.first }

  pub over_unchained : (budget : ℕ) → IsOverBudget (settings ex sheet) budget
      → IsOverBudget (mixed_settings ex sheet) budget
  over_unchained budget h = record {
    load = λ s best.
        many_by (IsLoaded (settings ex sheet) (penalty_of ex sheet s)) (IsLoaded (mixed_settings ex sheet) (penalty_of ex sheet s))
        (loaded (penalty_of ex sheet s)) (budget + 1) (h.load s (best_alike s best));
    whole = λ none.
        many_by (IsLiveBegun (settings ex sheet)) (IsLiveBegun (mixed_settings ex sheet)) (λ p it. (alive p it.0, it.1))
        (budget + 1) (h.whole none);
  }

module _ (ex : Exercise) (species : List ℕ) (sheet : Sheet) (budget : ℕ) where
  pub whole_mixed : (found : Found) → IsFoundSharply (as_mixed ex species) sheet budget found → HasWholeScore ex found
  whole_mixed (Best score penalty) is = record { voices = is.complete.voices; whole = is.complete.whole }
  whole_mixed Nothing is = tt
  whole_mixed (Spent bound) is = tt

  pub told_mixed : (found : Found) → IsFoundSharply (as_mixed ex species) sheet budget found
      → TellsMixedSharply ex (as_mixed ex species) sheet budget (found_output ex found).verdict
      (found_output ex found).bytes
  told_mixed (Best score penalty) is =
      record { setting = score.columns; penalty = penalty; best = is.best; cantus = is.cantus; spelled = refl }
  told_mixed Nothing is = record { none = is; spelled = refl }
  told_mixed (Spent bound) is = record {
    bound = bound;
    is_bound = record {
      reached = is.raised.reached;
      over = over_unchained (as_mixed ex species) sheet budget is.over;
    };
    spelled = refl;
  }
