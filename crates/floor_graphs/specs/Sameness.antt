-- What two searches of one tree have in common.
use Rattle.std.specs.Prelude.{◌≡◌, ℕ, List, Option}
use Rattle.tree_search.specs.Outcomes.{IsAnswer, IsSpent}
use Rattle.tree_search.specs.declared.outcome.Outcome.{Outcome}

-- if it isn't spent, the outcome is that of each search that isn't
abbrev pub AgreesWithAnswers : (List ℕ → Option ℕ) → ℕ → Outcome → Type 0
AgreesWithAnswers live height outcome =
    (IsSpent outcome → ⊥) → (other : Outcome) → IsAnswer live height other → outcome ≡ other
