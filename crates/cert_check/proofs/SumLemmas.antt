-- The sum through a column: none, where it doesn't follow (`closed_sum`); else what it costs with
-- what is stated for it (`open_sum`).
use Rattle.std.proofs.Common.{◌≡◌, ℕ, Bool, true, false, List, Option, Some, None, refl, sym, ap, ◌∙◌, if◌then◌else◌}
use Rattle.std.specs.Borrow.{Bor}
use Rattle.std.proofs.lemmas.Bool.{false_from_ne_true}
use Rattle.arrayvec.specs.ArrayVec.{ArrayVec}
use Rattle.cert_law.specs.Entries.{entry_of, menu_column, number_in, sum_through}
use Rattle.cert_law.proofs.NumberLemmas.{follow_from, follow_test}
use Rattle.cert_text.specs.declared.potential.Potential.{Potential}
use Rattle.chain_sums.specs.Chains.{cells_of, plus}
use Rattle.chain_sums.specs.Sums.{column_follows}
use Rattle.fux_grid.specs.declared.cell.Cell.{Cell}
use Rattle.fux_grid.specs.declared.exercise.Exercise.{Exercise}
use Rattle.fux_grid.specs.Columns.{ColumnFollows, cells_before}
use Rattle.fux_judge.specs.Links.{given, link_of}
use Rattle.penalty_sheet.specs.declared.sheet.Sheet.{Sheet}

pub given_cells : (prev : Option (Bor (ArrayVec Cell))) → cells_before prev ≡ cells_of (given prev)
given_cells None = refl
given_cells (Some col) = refl

module _ (ex : Exercise) (sheet : Sheet) (entries : List Potential) (i k : ℕ) (prev : Option (Bor (ArrayVec Cell)))
    (cells next : List Cell) (before : cells ≡ cells_before prev) (column : next ≡ menu_column ex i k) where
  same_test : column_follows cells (menu_column ex i k) ≡ column_follows (cells_of (given prev)) (menu_column ex i k)
  same_test = ap (λ c. column_follows c (menu_column ex i k)) (before ∙ given_cells prev)

  -- what there is through it, by the test whether it follows
  by_test : (b : Bool) → column_follows cells (menu_column ex i k) ≡ b
      → sum_through ex sheet entries i (given prev) k
      ≡ (if b then plus (link_of ex sheet i (given prev) (menu_column ex i k)) (number_in (entry_of ex entries i k)) else None)
  by_test b e =
      ap (λ (t : Bool). if t then plus (link_of ex sheet i (given prev) (menu_column ex i k))
      (number_in (entry_of ex entries i k)) else None)
      (sym same_test ∙ e)

  pub closed_sum : (ColumnFollows cells next → ⊥) → sum_through ex sheet entries i (given prev) k ≡ None
  closed_sum out =
      by_test false
      (false_from_ne_true (column_follows cells (menu_column ex i k)) (λ t. out (follow_from cells next (menu_column ex i k) column t)))

  pub open_sum : ColumnFollows cells next
      → sum_through ex sheet entries i (given prev) k
      ≡ plus (link_of ex sheet i (given prev) (menu_column ex i k)) (number_in (entry_of ex entries i k))
  open_sum follows = by_test true (follow_test cells next (menu_column ex i k) column follows)
