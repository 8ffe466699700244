-- What the first leaf of least value leads to, as a score (`score_at`). What is made of an outcome
-- is so (`answered_exactly`, and by sharper floors `answered_sharply`), which is what a form of a
-- certificate asks for (`first_finds`, `second_finds`, `third_finds`), and what is written of it
-- tells it (`told_exactly`, `told_sharply`).
use Rattle.std.proofs.Common.{◌≡◌, ℕ, ◌<◌, List, Result, Ok, Err, IfOk, true, length, refl, sym, ◌∙◌}
use Rattle.cert_text.specs.declared.answers.Form.TheVariants.{First, Second, Third}
use Rattle.fux_grid.specs.declared.cell.Cell.{Cell}
use Rattle.fux_grid.specs.declared.exercise.Exercise.{Exercise}
use Rattle.fux_grid.specs.Exercises.{HasCantus, IsValid, columns_in}
use Rattle.fux_grid.specs.Grid.{Grid}
use Rattle.fux_grid.proofs.MenuLemmas.{menu_of-contains, menu_of-cantus}
use Rattle.fux_pitch.specs.declared.memory.Memory.{Memory}
use Rattle.penalty_sheet.specs.declared.sheet.Sheet.{Sheet}
use Rattle.rule_law.specs.Prefixes.{IsPrefix}
use Rattle.floor_tables.specs.Tables.{Task}
use Rattle.species_space.specs.Grows.{live_value}
use Rattle.species_space.specs.Paths.{prefix_at, is_alive_path, live_at, length-columns_on}
use Rattle.species_space.specs.Loads.{IsExact}
use Rattle.species_space.proofs.Trees.{bound_of_lawful, first_least_is_best, no_leaf_no_lawful, over_prefixes}
use Rattle.fux_judge.specs.Lawful.{BoundsLawful}
use Rattle.tree_search.specs.Answer as tree
use Rattle.tree_search.specs.Answer.{BoundsLeaves, HasNoLeaf, IsFirstLeast}
use Rattle.tree_search.specs.Outcomes.{IfFound, IsSpent, OnNothing}
use Rattle.tree_search.specs.declared.outcome.Outcome.{Outcome}
use Rattle.tree_search.specs.declared.outcome.Outcome.TheVariants as outcome
use Rattle.works.specs.declared.searching.Found.{Found}
use Rattle.works.specs.declared.searching.Found.TheVariants.{Best, Nothing, Spent}
use Rattle.works.specs.Composed.{Tells, TellsSharply, found_output}
use Rattle.works.specs.Searched.{IsFirstPath, IsFound, IsFoundBy, IsFoundFor, IsFoundSharply, IsRaised, IsScoreAt, IsSharpBound}

module _ (ex : Exercise) (sheet : Sheet) (path : List ℕ) (value : ℕ)
    (first : IsFirstLeast (live_at ex sheet) (columns_in ex) path value) where
  pub first_is_live : is_alive_path ex path ≡ true
  first_is_live = (live_value ex sheet path value first.leaf.1).0

  pub first_is_whole : length (prefix_at ex path) ≡ columns_in ex
  first_is_whole = length-columns_on ex 0 path ∙ first.leaf.0

-- a list of columns from the menus has the cantus
pub prefix_has_cantus : (ex : Exercise) (p : List (List Cell)) → ex.cantus_voice < ex.voices → IsPrefix ex p
    → HasCantus ex p
prefix_has_cantus ex p there prefix i within =
    menu_of-cantus ex i _ there ((menu_of-contains ex i _).1 (prefix.menus i within))

-- an outcome that tells no bound isn't spent
pub tells_no_bound : (o : Outcome) → ((bound : ℕ) → o ≡ outcome.Spent bound → ⊥) → IsSpent o → ⊥
tells_no_bound (outcome.Found path value) none spent = spent
tells_no_bound outcome.Nothing none spent = spent
tells_no_bound (outcome.Spent bound) none spent = none bound refl

module _ (space : Task) (valid : IsValid space.exercise) where
  -- the columns at the end of such a path are a whole score over the cantus
  is_score_at : (path : List ℕ) (value : ℕ) (score : Grid) → IsFirstPath space path value
      → score ≡ record { voices = space.exercise.voices; columns = prefix_at space.exercise path }
      → IsScoreAt space path score
  is_score_at path value score first is =
      let best = first_least_is_best space.exercise valid space.sheet path value first in
      rw is record {
        columns = refl;
        cantus = prefix_has_cantus space.exercise (prefix_at space.exercise path) valid.cantus_there
            best.0.lawful.setting.prefix;
        complete = record { voices = refl; whole = first_is_whole space.exercise space.sheet path value first };
      }

  -- so is the score that a space makes of it
  pub score_at : (path : List ℕ) (value : ℕ) (result : Result Grid Memory) → IsFirstPath space path value
      → IfOk result (λ score. score
      ≡ record { voices = space.exercise.voices; columns = prefix_at space.exercise path })
      → IfOk result (IsScoreAt space path)
  score_at path value (Err fault) first is = tt
  score_at path value (Ok score) first is = is_score_at path value score first is

  -- what was found by sharper floors, before the budget was spent, is so
  found_sharply : (budget : ℕ) (outcome : Outcome) (found : Found) → IfFound outcome (IsFirstPath space)
      → OnNothing outcome (HasNoLeaf (live_at space.exercise space.sheet) (columns_in space.exercise))
      → (IsSpent outcome → ⊥) → IsFoundBy space outcome found → IsFoundSharply space.exercise space.sheet budget found
  found_sharply budget (outcome.Found path value) (Best score penalty) first nothing ended is =
      let own = first_least_is_best space.exercise valid space.sheet path value first in
      record {
        best = rw (is.0.columns, is.1) record { best = own.0; charged = sym own.1 };
        cantus = is.0.cantus;
        complete = is.0.complete;
      }
  found_sharply budget outcome.Nothing Nothing first nothing ended is =
      no_leaf_no_lawful space.exercise valid space.sheet nothing
  found_sharply budget (outcome.Spent least) found first nothing ended is = absurd (ended tt)
  found_sharply budget (outcome.Found path value) Nothing first nothing ended is = absurd is
  found_sharply budget (outcome.Found path value) (Spent told) first nothing ended is = absurd is
  found_sharply budget outcome.Nothing (Best score penalty) first nothing ended is = absurd is
  found_sharply budget outcome.Nothing (Spent told) first nothing ended is = absurd is

  pub answered_sharply : (budget : ℕ) (outcome : Outcome) (result : Result Found Memory) → IfFound outcome (IsFirstPath space)
      → OnNothing outcome (HasNoLeaf (live_at space.exercise space.sheet) (columns_in space.exercise))
      → (IsSpent outcome → ⊥) → IfOk result (IsFoundBy space outcome)
      → IfOk result (IsFoundSharply space.exercise space.sheet budget)
  answered_sharply budget outcome (Err fault) first nothing ended is = tt
  answered_sharply budget outcome (Ok found) first nothing ended is =
      found_sharply budget outcome found first nothing ended is

  -- and so is a bound that is raised
  pub bounded_sharply : (budget bound : ℕ) → IsRaised space.exercise space.sheet budget bound
      → tree.IsOverBudget (live_at space.exercise space.sheet) (columns_in space.exercise) budget
      → IsSharpBound space.exercise space.sheet budget bound
  bounded_sharply budget bound raised over =
      record { raised = raised; over = over_prefixes space.exercise valid space.sheet budget over }

  -- what leaves don't cost less than, lawful settings don't
  pub bounds_settings : (bound : ℕ) → BoundsLeaves (live_at space.exercise space.sheet) (columns_in space.exercise) bound
      → BoundsLawful space.exercise space.sheet bound
  bounds_settings bound reached = bound_of_lawful space.exercise valid space.sheet bound reached

module _ (space : Task) (budget : ℕ) where
  -- what was found of an exact outcome is so, and just within the budget
  found_exactly : (outcome : Outcome) (found : Found) → IsExact space.exercise space.sheet budget outcome
      → IsFoundBy space outcome found → IsFound space.exercise space.sheet budget found
  found_exactly (outcome.Found path value) (Best score penalty) exact is = record {
    best = rw (is.0.columns, is.1) exact.found.best;
    cantus = is.0.cantus;
    complete = is.0.complete;
  }
  found_exactly outcome.Nothing Nothing exact is = exact.nothing
  found_exactly (outcome.Spent least) (Spent told) exact is =
      rw is exact.spent
  found_exactly (outcome.Found path value) Nothing exact is = absurd is
  found_exactly (outcome.Found path value) (Spent told) exact is = absurd is
  found_exactly outcome.Nothing (Best score penalty) exact is = absurd is
  found_exactly outcome.Nothing (Spent told) exact is = absurd is
  found_exactly (outcome.Spent least) (Best score penalty) exact is = absurd is
  found_exactly (outcome.Spent least) Nothing exact is = absurd is

  pub answered_exactly : (outcome : Outcome) (result : Result Found Memory)
      → IsExact space.exercise space.sheet budget outcome → IfOk result (IsFoundBy space outcome)
      → IfOk result (IsFound space.exercise space.sheet budget)
  answered_exactly outcome (Err fault) exact is = tt
  answered_exactly outcome (Ok found) exact is = found_exactly outcome found exact is

-- what each search found is what a form asks for
module _ (ex : Exercise) (sheet : Sheet) (budget : ℕ) where
  pub first_finds : (found : Found) → IsFound ex sheet budget found → IsFoundFor First ex sheet budget found
  first_finds (Best score penalty) is = is
  first_finds Nothing is = is
  first_finds (Spent bound) is = is

  pub second_finds : (found : Found) → IsFound ex sheet budget found → IsFoundFor Second ex sheet budget found
  second_finds (Best score penalty) is = is
  second_finds Nothing is = is
  second_finds (Spent bound) is = is

  pub third_finds : (found : Found) → IsFoundSharply ex sheet budget found → IsFoundFor Third ex sheet budget found
  third_finds (Best score penalty) is = is
  third_finds Nothing is = is
  third_finds (Spent bound) is = is

-- what is written of what was found tells it
module _ (ex : Exercise) (sheet : Sheet) where
  pub told_exactly : (budget : ℕ) (found : Found) → IsFound ex sheet budget found
      → Tells ex sheet budget (found_output ex found).verdict (found_output ex found).bytes
  told_exactly budget (Best score penalty) is =
      record { setting = score.columns; penalty = penalty; best = is.best; cantus = is.cantus; spelled = refl }
  told_exactly budget Nothing is = record { none = is; spelled = refl }
  told_exactly budget (Spent bound) is = record { bound = bound; is_bound = is; spelled = refl }

  pub told_sharply : (budget : ℕ) (found : Found) → IsFoundSharply ex sheet budget found
      → TellsSharply ex sheet budget (found_output ex found).verdict (found_output ex found).bytes
  told_sharply budget (Best score penalty) is =
      record { setting = score.columns; penalty = penalty; best = is.best; cantus = is.cantus; spelled = refl }
  told_sharply budget Nothing is = record { none = is; spelled = refl }
  told_sharply budget (Spent bound) is = record { bound = bound; is_bound = is; spelled = refl }
