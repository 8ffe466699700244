-- What canons cost and what the book's tolls do: read of the columns of a canon, whose voices are
-- both free voices of first species, the tolls of canons cost just what a canon's bars cost.
use Rattle.std.specs.Prelude.{◌≡◌, ℕ, ◌+◌, ◌*◌, ◌<◌, List, [], ◌∷◌, ◌++◌, length, reverse, slice_index_or, take}
use Rattle.std.specs.List.{range_with_len, sum_by}
use Rattle.works.specs.BookRules.{as_exercise}
use Rattle.canon_space.specs.declared.canon.Canon.{Canon}
use Rattle.canon_space.specs.Rules.{bar_cost, columns_of, penalty_of}
use Rattle.fux_grid.specs.declared.cell.Cell.{Cell}
use Rattle.fux_grid.specs.declared.exercise.Exercise.{Exercise}
use Rattle.fux_judge.specs.Rules.{cost_at}
use Rattle.penalty_sheet.specs.declared.sheet.Sheet.{Sheet}
use Rattle.penalty_sheet.specs.Weights.{weight_of}
use Rattle.rule_law.specs.Growth.{sum_below}

-- the tolls of one voice, Q7 to Q10 and Q13, and those of both: Q1, Q11 and Q14
abbrev pub voice_tolls : List ℕ
voice_tolls = 7 ∷ 8 ∷ 9 ∷ 10 ∷ 13 ∷ []

abbrev pub pair_tolls : List ℕ
pair_tolls = 1 ∷ 11 ∷ 14 ∷ []

abbrev pub canon_tolls : List ℕ
canon_tolls = voice_tolls ++ pair_tolls

-- what a toll of the book costs, without its weight, at the eight columns of a bar, counted from 0
abbrev pub costs_in_bar : Exercise → List (List Cell) → ℕ → ℕ → ℕ
costs_in_bar ex bars bar toll = sum_by (λ slot. cost_at toll ex (columns_of bars) (8 * bar + slot)) (range_with_len 0 8)

-- what some tolls cost there, each by its weight
abbrev pub tolls_in_bar : List ℕ → Exercise → Sheet → List (List Cell) → ℕ → ℕ
tolls_in_bar tolls ex sheet bars bar = sum_by (λ toll. costs_in_bar ex bars bar toll * weight_of sheet toll) tolls

-- what those of canons cost
abbrev pub paid_by_the_book : Canon → Sheet → List (List Cell) → ℕ → ℕ
paid_by_the_book canon = tolls_in_bar canon_tolls (as_exercise canon)

-- a bar of two voices, after the bars before it, costs what the book's tolls cost in it
abbrev pub CanonCostsAreTheBooks : Type 0
CanonCostsAreTheBooks =
    (canon : Canon) (sheet : Sheet) (bars : List (List Cell)) (bar : ℕ) → bar < length bars
    → length (slice_index_or bars bar []) ≡ 2
    → bar_cost canon sheet (reverse (take bar bars)) (slice_index_or bars bar []) ≡ paid_by_the_book canon sheet bars bar

-- and bars of two voices cost what they cost in all of them
abbrev pub CanonPenaltyIsTheBooks : Type 0
CanonPenaltyIsTheBooks =
    (canon : Canon) (sheet : Sheet) (bars : List (List Cell))
    → ((bar : ℕ) → bar < length bars → length (slice_index_or bars bar []) ≡ 2)
    → penalty_of canon sheet bars ≡ sum_below (paid_by_the_book canon sheet bars) (length bars)
