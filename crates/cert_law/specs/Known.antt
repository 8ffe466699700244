-- What is known of a prefix so that its claims can be judged, and how prefixes are found by the
-- numbers of columns.
use Rattle.std.specs.Prelude.{◌≡◌, ◌↔◌, ℕ, ◌+◌, ◌<◌, ◌&&◌, Bool, nat_lt, IfSome, IsTrue, List, [], ◌∷◌, ◌++◌, Option, Some, None, drop, length, map, reverse, slice_index_or}
use Rattle.std.specs.List.{filter}
use Rattle.cert_text.specs.declared.claim.Claim.{Claim}
use Rattle.cert_text.specs.declared.potential.Potential.{Potential}
use Rattle.cert_tree.specs.Trees.{Tree}
use Rattle.cert_tree.specs.Walks.{IsBehind, IsOfStep, Ways}
use Rattle.cert_law.specs.declared.known.PrefixKnown.{PrefixKnown}
use Rattle.cert_law.specs.Bases.{Basis, HasTails}
use Rattle.cert_law.specs.Cases.{IsCase, Matter}
use Rattle.cert_law.specs.Certificates.{tree_of}
use Rattle.cert_law.specs.Prefixes.{IsJudged}
use Rattle.cert_law.specs.VoicesTold.{AreVoicesTold}
use Rattle.cert_law.specs.Tails.{tail_of}
use Rattle.cert_law.specs.Writer.{first_claim}
use Rattle.chain_sums.specs.Sums.{column_follows}
use Rattle.fux_grid.specs.declared.cell.Cell.{Cell}
use Rattle.fux_grid.specs.declared.exercise.Exercise.{Exercise}
use Rattle.fux_grid.specs.Columns.{newest_column}
use Rattle.fux_grid.specs.Exercises.{columns_in}
use Rattle.fux_grid.specs.Menus.{menu_of}
use Rattle.rule_law.specs.Prefixes.{GoesOn}

-- ---- the numbers of columns

-- the column of a number in the menu behind a prefix
abbrev pub column_after : Exercise → List (List Cell) → ℕ → List Cell
column_after ex p k = slice_index_or (menu_of ex (length p)) k []

-- the columns that may come next, from a number on
abbrev pub next_from : Exercise → List (List Cell) → ℕ → List (List Cell)
next_from ex p from = filter (column_follows (newest_column (reverse p))) (drop from (menu_of ex (length p)))

-- the prefixes that are longer by one of them
abbrev pub longer_from : Exercise → List (List Cell) → ℕ → List (List (List Cell))
longer_from ex p from = map (λ col. p ++ col ∷ []) (next_from ex p from)

-- the number of the first column of a menu, from a number on, that follows these cells
abbrev pub IsNextNumber : List (List Cell) → List Cell → ℕ → Option ℕ → Type 0
IsNextNumber menu before from None = filter (column_follows before) (drop from menu) ≡ []
IsNextNumber menu before from (Some k) =
    (k < length menu) × IsTrue (column_follows before (slice_index_or menu k []))
    × (filter (column_follows before) (drop from menu)
    ≡ slice_index_or menu k [] ∷ filter (column_follows before) (drop (k + 1) menu))

-- the column of a number is one of those that may come next
abbrev pub is_step_of : Exercise → List (List Cell) → ℕ → Bool
is_step_of ex p k =
    nat_lt k (length (menu_of ex (length p))) && column_follows (newest_column (reverse p)) (column_after ex p k)

abbrev pub ways_of : Exercise → Ways (List (List Cell))
ways_of ex = record {
  root = [];
  child = λ p k. p ++ column_after ex p k ∷ [];
  is_step = is_step_of ex;
  longer_from = longer_from ex;
  steps = length;
  height = columns_in ex;
}

-- ---- a case with tails

-- a case, and the entries, where some are stated
pub record Tailed : Type 0 where
  pub case : Matter
  pub stated : Option (List Potential)

abbrev pub tailed_of : Matter → Basis → Tailed
tailed_of t basis = record { case = t; stated = basis.stated }

-- its prefixes, with the claims of them
abbrev pub tree_in : Tailed → Tree (List (List Cell)) Claim
tree_in t = tree_of t.case.exercise t.case.sheet t.case.head t.stated

-- the claim that is written of each of them
abbrev pub own_in : Tailed → List (List Cell) → Claim
own_in t = first_claim t.case.exercise t.case.sheet t.case.head t.stated

-- the case is one, and the tails are its own
pub record IsTailed (t : Matter) (basis : Basis) : Type 0 where
  pub case : IsCase t
  pub has : HasTails t basis

-- what is known of a prefix, and its tail
pub record IsKnown (t : Tailed) (known : PrefixKnown) (p : List (List Cell)) : Type 0 where
  pub judged : IsJudged t.case p known.judged
  pub tail : known.tail ≡ tail_of t.case.exercise t.case.sheet t.stated p
  pub voices : AreVoicesTold t.case.exercise known.judged.state known.voices

-- what is known of each prefix of which this is known, with the column of a number more that may
-- come next
abbrev pub IsKnownAfter : Tailed → PrefixKnown → ℕ → PrefixKnown → Type 0
IsKnownAfter t known k longer =
    (p : List (List Cell)) → IsKnown t known p → GoesOn t.case.exercise p (column_after t.case.exercise p k ∷ [])
    → IsKnown t longer (p ++ column_after t.case.exercise p k ∷ [])

-- this is known of an open prefix, and the column of the number may come next
abbrev pub IsStepOf : Tailed → ℕ → PrefixKnown → Type 0
IsStepOf t k known = IsOfStep (tree_in t) (IsKnown t) (ways_of t.case.exercise) k known

-- this holds of each prefix of which this is known with the column of the number more, where that
-- may come next
abbrev pub IsBehindKnown : Tailed → PrefixKnown → ℕ → (List (List Cell) → Type 0) → Type 0
IsBehindKnown t known k Holds = IsBehind (IsKnown t) (ways_of t.case.exercise) known k Holds

-- whether a claim is true of it, and which claim is its own
abbrev pub TellsTruthBehind : Tailed → PrefixKnown → ℕ → Claim → Bool → Type 0
TellsTruthBehind t known k claim told = IsBehindKnown t known k (λ q. IsTrue told ↔ (tree_in t).IsTrueOf q claim)

abbrev pub TellsOwnBehind : Tailed → PrefixKnown → ℕ → Claim → Type 0
TellsOwnBehind t known k claim = IsBehindKnown t known k (λ q. claim ≡ own_in t q)

-- where something was found, it is known of it
abbrev pub IsFoundBehind : Tailed → PrefixKnown → ℕ → Option PrefixKnown → Type 0
IsFoundBehind t known k found = IfSome found (λ next. IsBehindKnown t known k (IsKnown t next))

-- of each prefix of which the one is known, the other is known as well
abbrev pub KeepsKnown : Tailed → PrefixKnown → PrefixKnown → Type 0
KeepsKnown t old new = (p : List (List Cell)) → IsKnown t old p → IsKnown t new p
