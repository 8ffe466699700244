-- Each column of a live path may be pushed behind those before it (`column_fits`).
use Rattle.std.proofs.Common.{◌≡◌, ℕ, zero, suc, ◌+◌, ◌<◌, true, List, [], ◌∷◌, length, reverse, take, slice_index_or, refl, sym, ap, ◌∙◌, subst, arith}
use Rattle.std.proofs.lemmas.List.{take_all, length-take-le}
use Rattle.fux_grid.specs.declared.cell.Cell.{Cell}
use Rattle.fux_grid.specs.declared.exercise.Exercise.{Exercise}
use Rattle.fux_grid.specs.Columns.{ColumnFollows, earlier, newest_column}
use Rattle.fux_grid.specs.Exercises.{columns_in}
use Rattle.fux_grid.specs.Menus.{menu_of}
use Rattle.fux_grid.proofs.NoteLemmas.{follows-at}
use Rattle.species_space.specs.Exact.{menus_are_exact}
use Rattle.species_space.specs.Leaves.{prefix_is_alive}
use Rattle.species_space.specs.Paths.{columns_on, prefix_at, is_alive_path, length-columns_on}

-- the column that a path chooses at a place
abbrev pub chosen_column : Exercise → List ℕ → ℕ → List Cell
chosen_column ex path i = slice_index_or (menu_of ex i) (slice_index_or path i 0) []

columns_on-at : (ex : Exercise) (j : ℕ) (path : List ℕ) (i : ℕ) → i < length path
    → slice_index_or (columns_on ex j path) i [] ≡ slice_index_or (menu_of ex (j + i)) (slice_index_or path i 0) []
columns_on-at ex j [] i h = absurd (omega arith)
columns_on-at ex j (k ∷ path) zero h =
    let e : j ≡ j + 0 = omega arith in
    ap (λ n. slice_index_or (menu_of ex n) k []) e
columns_on-at ex j (k ∷ path) (suc i) h =
    let e : suc j + i ≡ j + suc i = omega arith in
    columns_on-at ex (suc j) path i (omega arith)
    ∙ ap (λ n. slice_index_or (menu_of ex n) (slice_index_or path i 0) []) e

columns_on-take : (ex : Exercise) (j i : ℕ) (path : List ℕ) → columns_on ex j (take i path)
    ≡ take i (columns_on ex j path)
columns_on-take ex j zero path = refl
columns_on-take ex j (suc i) [] = refl
columns_on-take ex j (suc i) (k ∷ path) =
    ap (λ cols. slice_index_or (menu_of ex j) k [] ∷ cols) (columns_on-take ex (suc j) i path)

-- a column has a cell for each voice, and follows the ones before it
pub record Fits (ex : Exercise) (before : List (List Cell)) (col : List Cell) : Type 0 where
  pub room : length before < columns_in ex
  pub full : length col ≡ ex.voices
  pub follows : ColumnFollows (newest_column (reverse before)) col

pub column_fits : (ex : Exercise) (path : List ℕ) → is_alive_path ex path ≡ true → (i : ℕ) → i < length path
    → Fits ex (prefix_at ex (take i path)) (chosen_column ex path i)
unfolding earlier
column_fits ex path h i within =
    let s = prefix_at ex path in
    let live = prefix_is_alive ex (menus_are_exact ex) path h in
    let size : length s ≡ length path = length-columns_on ex 0 path in
    let e : 0 + i ≡ i = omega arith in
    let col : slice_index_or s i [] ≡ chosen_column ex path i =
    columns_on-at ex 0 path i within ∙ ap (λ n. slice_index_or (menu_of ex n) (slice_index_or path i 0) []) e in
    let before : take i s ≡ prefix_at ex (take i path) = sym (columns_on-take ex 0 i path) in
    let all : take (length s) s ≡ s = take_all (length s) s (omega arith) in
    let follows = follows-at s (length s) (omega arith) (rw all live.prefix.follows) i (omega (arith, size, within)) in
    record {
      room = rw (← before) (omega (
        arith,
        length-take-le i s (omega (arith, size, within)),
        size,
        live.prefix.few,
        within,
      ));
      full = subst (λ c. length c ≡ ex.voices) col (live.prefix.menus i (omega (arith, size, within))).full;
      follows = subst (λ c. ColumnFollows (newest_column (reverse (prefix_at ex (take i path)))) c) col
          (rw before at follows);
    }
