-- Prefixes and settings; which of them are alive and lawful, and which setting is best.
use Rattle.std.specs.Prelude.{◌≡◌, ◌≢◌, ℕ, ◌<◌, ◌≤◌, Bool, false, ◌&&◌, List, [], ◌∷◌, length}
use Rattle.std.specs.List.{list_any, AllByRecursion}
use Rattle.fux_grid.specs.declared.cell.Cell.{Cell}
use Rattle.fux_grid.specs.declared.exercise.Exercise.{Exercise}
use Rattle.fux_grid.specs.Order.{IsEarlier}
use Rattle.rule_law.specs.Places.{Reading}
use Rattle.rule_law.specs.Prefixes.{IsPrefix, IsSetting}
use Rattle.penalty_sheet.specs.declared.sheet.Sheet.{Sheet}
use Rattle.fux_judge.specs.Rules.{rules_read, all_sets, is_broken}
use Rattle.fux_judge.specs.Penalties.{is_strict_at, has_strict_break, penalty_of}

-- some rule is strictly broken at a place, for some set of voices
abbrev pub breaks_strictly : Exercise → Reading Bool
breaks_strictly ex s i = list_any (λ rule. list_any
    (λ voices. is_broken rule ex voices s i && is_strict_at rule ex voices i) all_sets) rules_read

-- a lawful setting has no strict break
pub record IsLawful (ex : Exercise) (s : List (List Cell)) : Type 0 where
  pub setting : IsSetting ex s
  pub unbroken : (i : ℕ) → i < length s → breaks_strictly ex s i ≡ false

-- the best setting: it is lawful, no lawful setting has a lesser penalty, and it comes before every
-- other one of equal penalty in reading order
pub record IsBest (ex : Exercise) (sheet : Sheet) (s : List (List Cell)) : Type 0 where
  pub lawful : IsLawful ex s
  pub least : (t : List (List Cell)) → IsLawful ex t → penalty_of ex sheet s ≤ penalty_of ex sheet t
  pub first : (t : List (List Cell)) → IsLawful ex t → penalty_of ex sheet t ≡ penalty_of ex sheet s → s ≢ t
      → IsEarlier s t

-- no setting is lawful
abbrev pub HasNoLawful : Exercise → Type 0
HasNoLawful ex = (s : List (List Cell)) → IsLawful ex s → ⊥

-- no lawful setting has a penalty below the bound
abbrev pub BoundsLawful : Exercise → Sheet → ℕ → Type 0
BoundsLawful ex sheet bound = (s : List (List Cell)) → IsLawful ex s → bound ≤ penalty_of ex sheet s

-- a prefix in which no strict break is settled
pub record IsAlive (ex : Exercise) (p : List (List Cell)) : Type 0 where
  pub prefix : IsPrefix ex p
  pub unbroken : has_strict_break ex p ≡ false

-- no prefix stands twice
abbrev pub AllDiffer : List (List (List Cell)) → Type 0
AllDiffer [] = Unit {0}
AllDiffer (p ∷ others) = AllByRecursion (λ other. p ≢ other) others × AllDiffer others
