-- What a try answers, by what a search over a web does (`tried`, `searched`), and what is searched
-- for behind a try that is spent (`later`).
use Rattle.std.specs.Prelude.{Result, Ok, Err, IfOk}
use Rattle.std.proofs.Common.{ℕ, ◌≤◌, arith}
use Rattle.floor_graphs.specs.Sameness.{AgreesWithAnswers}
use Rattle.fux_grid.specs.declared.exercise.Exercise.{Exercise}
use Rattle.fux_grid.specs.Exercises.{columns_in}
use Rattle.penalty_sheet.specs.declared.sheet.Sheet.{Sheet}
use Rattle.price_rounds.specs.Woven.{IsSearch, IsTry}
use Rattle.species_space.specs.Paths.{live_at}
use Rattle.tree_search.specs.Answer.{BoundsLeaves, HasNoLeaf, IsFirstLeast, IsOverBudget}
use Rattle.tree_search.specs.Outcomes.{IfFound, IfSpent, IsSpent, OnNothing}
use Rattle.tree_search.specs.declared.outcome.Outcome.{Outcome}
use Rattle.tree_search.specs.declared.outcome.Outcome.TheVariants.{Found, Nothing, Spent}

-- a bound that is known later is at least one that was known before
least_later : (known bound : ℕ) (outcome : Outcome) → known ≤ bound → IfSpent outcome (λ least. bound ≤ least)
    → IfSpent outcome (λ least. known ≤ least)
least_later known bound (Found path value) rises kept = tt
least_later known bound Nothing rises kept = tt
least_later known bound (Spent least) rises kept = omega (arith, rises, kept)

module _ {E : Type 0} (ex : Exercise) (sheet : Sheet) (known : ℕ) where
  pub tried : (result : Result Outcome E)
      → IfOk result (λ outcome. IfFound outcome (IsFirstLeast (live_at ex sheet) (columns_in ex)))
      → IfOk result (λ outcome. OnNothing outcome (HasNoLeaf (live_at ex sheet) (columns_in ex)))
      → IfOk result (λ outcome. IfSpent outcome (BoundsLeaves (live_at ex sheet) (columns_in ex)))
      → IfOk result (λ outcome. IfSpent outcome (λ least. known ≤ least))
      → IfOk result (AgreesWithAnswers (live_at ex sheet) (columns_in ex)) → IfOk result (IsTry ex sheet known)
  tried (Ok outcome) found nothing bound kept agrees = record {
    found = found;
    nothing = nothing;
    bound = bound;
    kept = kept;
    agrees = agrees;
  }
  tried (Err fault) found nothing bound kept agrees = tt

  pub searched : (budget : ℕ) (result : Result Outcome E) → IfOk result (IsTry ex sheet known)
      → IfOk result (λ outcome. IsSpent outcome → IsOverBudget (live_at ex sheet) (columns_in ex) budget)
      → IfOk result (IsSearch ex sheet known budget)
  searched budget (Ok outcome) first over = record { tried = first; over = over }
  searched budget (Err fault) first over = tt

  pub later : (bound budget : ℕ) (result : Result Outcome E) → known ≤ bound
      → IfOk result (IsSearch ex sheet bound budget) → IfOk result (IsSearch ex sheet known budget)
  later bound budget (Ok outcome) rises found = record {
    tried = record {
      found = found.tried.found;
      nothing = found.tried.nothing;
      bound = found.tried.bound;
      kept = least_later known bound outcome rises found.tried.kept;
      agrees = found.tried.agrees;
    };
    over = found.over;
  }
  later bound budget (Err fault) rises found = tt
