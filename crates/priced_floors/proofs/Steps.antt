-- A step by its parts.
use Rattle.std.specs.Prelude.{◌≡◌, ◌↔◌, ℕ, Bool, true, false, List, [], Option, Some, None, IsTrue, slice_index_or, if◌then◌else◌, refl}
use Rattle.std.specs.Borrow.{Bor}
use Rattle.std.proofs.Common.{ap, ap₂, sym, ◌∙◌}
use Rattle.arrayvec.specs.ArrayVec.{ArrayVec}
use Rattle.fux_grid.specs.declared.cell.Cell.{Cell}
use Rattle.fux_grid.specs.declared.exercise.Exercise.{Exercise}
use Rattle.fux_grid.specs.Columns.{ColumnFollows, cells_before}
use Rattle.fux_grid.specs.Menus.{menu_of}
use Rattle.penalty_sheet.specs.declared.sheet.Sheet.{Sheet}
use Rattle.chain_sums.specs.Chains.{cells_of}
use Rattle.fux_judge.specs.Links.{given, link_of}
use Rattle.open_ends.specs.declared.keeps.Keeps.{Keeps}
use Rattle.open_ends.specs.Ends.{ends_after}
use Rattle.species_space.specs.Leaves.{follows_from_test, test_from_follows}
use Rattle.species_space.specs.Paths.{column_follows}
use Rattle.priced_floors.specs.declared.kept.Kept.{Kept}
use Rattle.priced_floors.specs.Kept.{column_kept, kept_with, step_of, step_on}

-- the cells of a column that may be lacking, by either name
before_is : (prev : Option (Bor (ArrayVec Cell))) → cells_before prev ≡ cells_of (given prev)
before_is None = refl
before_is (Some col) = refl

-- the test of code is that of the definitions
test_is : (before next : List Cell) (told : Bool) → (IsTrue told ↔ ColumnFollows before next)
    → column_follows before next ≡ told
test_is before next true same = test_from_follows before next (same.0 refl)
test_is before next false same = at (column_follows before next) refl
  where
    at : (b : Bool) → column_follows before next ≡ b → b ≡ false
    at false e = refl
    at true e = let holds : false ≡ true = same.1 (follows_from_test before next e) in cc

module _ (ex : Exercise) (sheet : Sheet) (keeps : Keeps) (i : ℕ) (kept : Kept) (k : ℕ)
    (prev : Option (Bor (ArrayVec Cell))) (col : List Cell) (is_kept : given prev ≡ column_kept ex i kept)
    (is_col : col ≡ slice_index_or (menu_of ex i) k []) where
  -- a step is made where the column follows
  pub step_by : (told : Bool) → (IsTrue told ↔ ColumnFollows (cells_before prev) col) → (follows : Bool) → told ≡ follows
      → step_of ex sheet keeps i kept k
      ≡ (if follows then kept_with k (ends_after ex sheet keeps i kept.ends (cells_before prev) col)
      (link_of ex sheet i (given prev) col) else None)
  unfolding step_of
  step_by told same follows e =
      let own : cells_of (column_kept ex i kept) ≡ cells_before prev = sym (before_is prev ∙ ap cells_of is_kept) in
      ap (λ b. if b then step_on ex sheet keeps i kept k (column_kept ex i kept) else None)
      (ap₂ column_follows own (sym is_col) ∙ test_is (cells_before prev) col told same ∙ e)
      ∙ ap (λ o. if follows then o else None)
      (ap₂ (kept_with k) (ap₂ (ends_after ex sheet keeps i kept.ends) own (sym is_col))
      (ap₂ (link_of ex sheet i) (sym is_kept) (sym is_col)))
