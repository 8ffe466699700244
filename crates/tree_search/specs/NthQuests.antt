-- What a search for the one of a number tells of what is sought, within a budget that is spent
-- exactly where it must be (`IsExactNth`).
use Rattle.std.specs.Prelude.{◌≡◌, ℕ, ◌+◌, ◌-◌, ◌<◌, ◌⊎◌, ◌↔◌, List, Option, IsSome}
use Rattle.tree_search.specs.Numbered.{IfFound, IfOnly, IfSpent, IsSpent}
use Rattle.tree_search.specs.Quests.{HasAtMost, HasMany, IsLiveBegun, IsLoaded, Quest}
use Rattle.tree_search.specs.declared.outcome.Numbered.{Numbered}

-- exactly so many lists are of a kind
abbrev pub HasCount : {E : Type 0} → (List E → Type 0) → ℕ → Type 0
HasCount Kind count = HasMany Kind count × HasAtMost Kind count

-- t is lawful and comes before s: it costs less, or as much and is earlier
pub record ComesBefore {E : Type 0} (quest : Quest E) (s t : List E) : Type 0 where
  pub lawful : quest.IsLawful t
  pub before : (quest.penalty t < quest.penalty s) ⊎ ((quest.penalty t ≡ quest.penalty s) × quest.IsEarlier t s)

-- the one of this number, from 1 on: it is lawful, and exactly those of the numbers below come
-- before it
pub record IsNth {E : Type 0} (quest : Quest E) (nth : ℕ) (s : List E) : Type 0 where
  pub lawful : quest.IsLawful s
  pub before : HasCount (ComesBefore quest s) (nth - 1)

-- fewer are lawful
abbrev pub HasFewer : {E : Type 0} → Quest E → ℕ → Type 0
HasFewer quest nth = HasAtMost quest.IsLawful (nth - 1)

-- the load of the penalty of the one of this number, or where there are fewer the number of all
-- live lists, is above the budget
pub record IsOverBudget {E : Type 0} (quest : Quest E) (nth budget : ℕ) : Type 0 where
  pub load : (s : List E) → IsNth quest nth s → HasMany (IsLoaded quest (quest.penalty s)) (budget + 1)
  pub whole : HasFewer quest nth → HasMany (IsLiveBegun quest) (budget + 1)

-- the one of this number, with its penalty, whose load is within the budget
pub record IsNthWithin {E : Type 0} (quest : Quest E) (nth budget : ℕ) (s : List E) (penalty : ℕ) : Type 0 where
  pub is_nth : IsNth quest nth s
  pub charged : penalty ≡ quest.penalty s
  pub load : HasAtMost (IsLoaded quest penalty) budget

-- exactly so many are lawful, fewer than were asked for, and all live lists are within the budget
pub record IsOnlyWithin {E : Type 0} (quest : Quest E) (nth budget count : ℕ) : Type 0 where
  pub fewer : count < nth
  pub counted : HasCount quest.IsLawful count
  pub load : HasAtMost (IsLiveBegun quest) budget

-- t is lawful and costs less than the bound
abbrev pub CostsLess : {E : Type 0} → Quest E → ℕ → List E → Type 0
CostsLess quest bound t = quest.IsLawful t × (quest.penalty t < bound)

-- the least number whose load is above the budget; fewer cost less, so the one of this number
-- doesn't, and the load of its penalty, or where there are fewer the number of all live lists, is
-- above the budget too
pub record IsLeastOver {E : Type 0} (quest : Quest E) (nth budget bound : ℕ) : Type 0 where
  pub many : HasMany (IsLoaded quest bound) (budget + 1)
  pub least : (x : ℕ) → x < bound → HasAtMost (IsLoaded quest x) budget
  pub reached : HasAtMost (CostsLess quest bound) (nth - 1)
  pub over : IsOverBudget quest nth budget

-- a live path to the one of this number, whose load is within the budget
pub record LeadsToNth {E : Type 0} (quest : Quest E) (live : List ℕ → Option ℕ) (there : List ℕ → List E) (nth budget : ℕ)
    (path : List ℕ) (penalty : ℕ) : Type 0 where
  pub is_live : IsSome (live path)
  pub it : IsNthWithin quest nth budget (there path) penalty

-- the answer of a search for the one of a number within a budget: spent exactly where it must be
pub record IsExactNth {E : Type 0} (quest : Quest E) (live : List ℕ → Option ℕ) (there : List ℕ → List E) (nth budget : ℕ)
    (outcome : Numbered) : Type 0 where
  pub found : IfFound outcome (LeadsToNth quest live there nth budget)
  pub only : IfOnly outcome (IsOnlyWithin quest nth budget)
  pub over : IsSpent outcome ↔ IsOverBudget quest nth budget
  pub spent : IfSpent outcome (IsLeastOver quest nth budget)
