-- The web of what is kept of the settings of an exercise (`IsWoven`), and what a try to find the
-- best of them answers (`IsTry`), or a search that has the whole budget (`IsSearch`).
use Rattle.std.specs.Prelude.{◌≤◌, ℕ, []}
use Rattle.fux_grid.specs.declared.exercise.Exercise.{Exercise}
use Rattle.fux_grid.specs.Exercises.{columns_in}
use Rattle.penalty_sheet.specs.declared.sheet.Sheet.{Sheet}
use Rattle.open_ends.specs.declared.keeps.Keeps.{Keeps}
use Rattle.priced_paths.specs.declared.web.Web.{Web}
use Rattle.priced_paths.specs.Webs.{IsWeb}
use Rattle.priced_floors.specs.declared.kept.Kept.{Kept}
use Rattle.priced_floors.specs.Kept.{kept_of, step_of}
use Rattle.priced_floors.specs.PricedLaws.{breadth_of}
use Rattle.floor_graphs.specs.Sameness.{AgreesWithAnswers}
use Rattle.species_space.specs.Paths.{live_at}
use Rattle.tree_search.specs.Answer.{BoundsLeaves, HasNoLeaf, IsFirstLeast, IsOverBudget}
use Rattle.tree_search.specs.Outcomes.{IfFound, IfSpent, IsSpent, OnNothing}
use Rattle.tree_search.specs.declared.outcome.Outcome.{Outcome}

abbrev pub IsWoven : Exercise → Sheet → Keeps → Web Kept → Type 0
IsWoven ex sheet keeps web = IsWeb (kept_of ex keeps []) (columns_in ex) (breadth_of ex) (step_of ex sheet keeps) web

-- what is found is the first best setting, where nothing is found there is none, the bound of a
-- spent try is one of all and at least the one that is known, and whatever ends answers the same
pub record IsTry (ex : Exercise) (sheet : Sheet) (known : ℕ) (outcome : Outcome) : Type 0 where
  pub found : IfFound outcome (IsFirstLeast (live_at ex sheet) (columns_in ex))
  pub nothing : OnNothing outcome (HasNoLeaf (live_at ex sheet) (columns_in ex))
  pub bound : IfSpent outcome (BoundsLeaves (live_at ex sheet) (columns_in ex))
  pub kept : IfSpent outcome (λ least. known ≤ least)
  pub agrees : AgreesWithAnswers (live_at ex sheet) (columns_in ex) outcome

-- so is what is searched for within a budget, and it is spent only where that isn't enough
pub record IsSearch (ex : Exercise) (sheet : Sheet) (known budget : ℕ) (outcome : Outcome) : Type 0 where
  pub tried : IsTry ex sheet known outcome
  pub over : IsSpent outcome → IsOverBudget (live_at ex sheet) (columns_in ex) budget
