-- A fact for each outcome of a search for the leaf of a number.
use Rattle.std.specs.Prelude.{ℕ, List}
use Rattle.tree_search.specs.declared.outcome.Numbered.{Numbered}
use Rattle.tree_search.specs.declared.outcome.Numbered.TheVariants.{Found, Only, Spent}
use Rattle.tree_search.specs.declared.outcome.Outcome.{Outcome}
use Rattle.tree_search.specs.declared.outcome.Outcome.TheVariants as outcome

-- a fact of the path and the value, where they were found
abbrev pub IfFound : Numbered → (List ℕ → ℕ → Type 0) → Type 0
IfFound (Found path value) P = P path value
IfFound (Only count) P = Unit {0}
IfFound (Spent bound) P = Unit {0}

-- a fact of how many there are, where there are fewer
abbrev pub IfOnly : Numbered → (ℕ → Type 0) → Type 0
IfOnly (Found path value) P = Unit {0}
IfOnly (Only count) P = P count
IfOnly (Spent bound) P = Unit {0}

-- a fact of the bound, where the budget was spent
abbrev pub IfSpent : Numbered → (ℕ → Type 0) → Type 0
IfSpent (Found path value) P = Unit {0}
IfSpent (Only count) P = Unit {0}
IfSpent (Spent bound) P = P bound

-- the budget was spent
abbrev pub IsSpent : Numbered → Type 0
IsSpent (Found path value) = ⊥
IsSpent (Only count) = ⊥
IsSpent (Spent bound) = Unit {0}

-- what is told where the first was asked for
abbrev pub first_of : Numbered → Outcome
first_of (Found path value) = outcome.Found path value
first_of (Only count) = outcome.Nothing
first_of (Spent bound) = outcome.Spent bound
