-- What a step reads of a column that comes after a live path is exact, since its prefix is orderly.
use Rattle.std.proofs.Common.{◌≡◌, ℕ, ◌+◌, ◌<◌, ◌≤◌, true, List, [], ◌∷◌, ◌++◌, length, reverse, slice_index_or, sym, subst, inl, inr, arith}
use Rattle.std.proofs.Math.ListN.{get_or-append}
use Rattle.std.proofs.Math.Seq.{get_or-append_seam}
use Rattle.std.proofs.lemmas.Bool.{cases_lt}
use Rattle.std.proofs.lemmas.List.{length-append}
use Rattle.std.proofs.lemmas.List.Elements.{Contains-get_or}
use Rattle.fux_grid.specs.declared.cell.Cell.{Cell}
use Rattle.fux_grid.specs.declared.exercise.Exercise.{Exercise}
use Rattle.fux_grid.specs.Columns.{ColumnFollows, HistoryFollows, newest_column}
use Rattle.fux_grid.specs.Exercises.{columns_in}
use Rattle.fux_grid.specs.Menus.{IsInMenu, menu_of}
use Rattle.fux_grid.proofs.Histories.{reverse-push}
use Rattle.rule_law.specs.Prefixes.{GoesOn, IsPrefix}
use Rattle.fux_judge.proofs.Alive.{alive_orderly}
use Rattle.species_space.specs.Exact.{menus_are_exact}
use Rattle.species_space.specs.Leaves.{prefix_is_alive}
use Rattle.species_space.specs.Paths.{column_at, is_alive_path, length-columns_on, prefix_at, prefix_at-append, width_at}

-- a prefix with a column more
prefix_with : (ex : Exercise) (p : List (List Cell)) (col : List Cell) → IsPrefix ex p → length p < columns_in ex
    → IsInMenu ex (length p) col → ColumnFollows (newest_column (reverse p)) col → IsPrefix ex (p ++ col ∷ [])
prefix_with ex p col prefix room menu follows =
    let size : length (p ++ col ∷ []) ≡ length p + 1 = length-append p (col ∷ []) in
    let H : List (List Cell) → Type 0 = λ h. HistoryFollows h in
    record {
      few = omega (arith, size);
      menus = λ i h. elim (cases_lt i (length p)) [
        | inl there ↦ let M : List Cell → Type 0 =
            λ c. IsInMenu ex i c in subst M (sym (get_or-append p (col ∷ []) [] i there)) (prefix.menus i there)
        | inr beyond ↦
            let last : length p ≡ i = omega (arith, size) in
            let M : ℕ → Type 0 = λ n. IsInMenu ex n (slice_index_or (p ++ col ∷ []) n []) in
            let C : List Cell → Type 0 = λ c. IsInMenu ex (length p) c in
            subst M last (subst C (sym (get_or-append_seam p col [] [])) menu)
      ];
      follows = subst H (sym (reverse-push p col)) (follows, prefix.follows);
    }

-- a column of the menu that follows a live path's prefix goes on from an orderly one
pub goes_on_from : (ex : Exercise) (path : List ℕ) (k : ℕ) → ex.voices ≤ 4 → is_alive_path ex path ≡ true
    → length path < columns_in ex → k < width_at ex path
    → ColumnFollows (newest_column (reverse (prefix_at ex path))) (column_at ex path k)
    → GoesOn ex (prefix_at ex path) (column_at ex path k ∷ [])
goes_on_from ex path k few live room within follows =
    let alive = prefix_is_alive ex (menus_are_exact ex) path live in
    let size : length (prefix_at ex path) ≡ length path = length-columns_on ex 0 path in
    let M : ℕ → Type 0 = λ n. IsInMenu ex n (column_at ex path k) in
    record {
      orderly = alive_orderly ex few (prefix_at ex path) alive.unbroken;
      longer =
          prefix_with ex (prefix_at ex path) (column_at ex path k) alive.prefix (omega (arith, size))
          (subst M (sym size) ((menus_are_exact ex (length path)).only (column_at ex path k)
          (Contains-get_or (menu_of ex (length path)) k [] within)))
          follows;
    }

-- nothing more is needed of a column that leads to an alive path
pub goes_on_alive : (ex : Exercise) (path : List ℕ) (k : ℕ) → ex.voices ≤ 4 → is_alive_path ex path ≡ true
    → is_alive_path ex (path ++ k ∷ []) ≡ true → GoesOn ex (prefix_at ex path) (column_at ex path k ∷ [])
goes_on_alive ex path k few live next =
    let P : List (List Cell) → Type 0 = λ p. IsPrefix ex p in
    record {
      orderly =
          alive_orderly ex few (prefix_at ex path) (prefix_is_alive ex (menus_are_exact ex) path live).unbroken;
      longer =
          subst P (prefix_at-append ex path k) (prefix_is_alive ex (menus_are_exact ex) (path ++ k ∷ []) next).prefix;
    }
