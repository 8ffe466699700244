-- A fact for each outcome of a search.
use Rattle.std.specs.Prelude.{ℕ, List, Option}
use Rattle.tree_search.specs.Answer.{IsFirstLeast, HasNoLeaf}
use Rattle.tree_search.specs.declared.outcome.Outcome.{Outcome}
use Rattle.tree_search.specs.declared.outcome.Outcome.TheVariants.{Found, Nothing, Spent}

-- a fact of the path and the value, where they were found
abbrev pub IfFound : Outcome → (List ℕ → ℕ → Type 0) → Type 0
IfFound (Found path value) P = P path value
IfFound Nothing P = Unit {0}
IfFound (Spent bound) P = Unit {0}

-- a fact where nothing was found
abbrev pub OnNothing : Outcome → Type 0 → Type 0
OnNothing (Found path value) P = Unit {0}
OnNothing Nothing P = P
OnNothing (Spent bound) P = Unit {0}

-- a fact of the bound, where the budget was spent
abbrev pub IfSpent : Outcome → (ℕ → Type 0) → Type 0
IfSpent (Found path value) P = Unit {0}
IfSpent Nothing P = Unit {0}
IfSpent (Spent bound) P = P bound

-- the budget was spent
abbrev pub IsSpent : Outcome → Type 0
IsSpent (Found path value) = ⊥
IsSpent Nothing = ⊥
IsSpent (Spent bound) = Unit {0}

-- what each search promises of an outcome that is not spent
pub record IsAnswer (live : List ℕ → Option ℕ) (height : ℕ) (outcome : Outcome) : Type 0 where
  pub found : IfFound outcome (IsFirstLeast live height)
  pub nothing : OnNothing outcome (HasNoLeaf live height)
  pub unspent : IsSpent outcome → ⊥
