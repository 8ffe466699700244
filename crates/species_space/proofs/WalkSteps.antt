-- What a walk over a menu passes over after a node's path is no better than the best leaf so far: a
-- column that strays or dies (`stray_no_better`), as all do but one where a column of holds follows
-- (`other_no_better`), and one that is pruned (`pruned_no_better`). In a menu of holds no child
-- behind a live one is live (`last_of_holds`).
use Rattle.std.specs.Prelude.{IsSomeAnd, nat_lt, not}
use Rattle.std.proofs.Common.{◌≡◌, ◌&&◌, None, Some, IsSome, ◌∷◌, ◌++◌, false, refl, inl, inr, ◌+◌, ◌<◌, ◌≤◌, All, Option, ℕ, Bool, List, [], length, reverse, slice_index_or, ap, sym, ◌∙◌, subst, true, arith}
use Rattle.std.specs.List.{list_any}
use Rattle.fux_grid.specs.declared.cell.Cell.{Cell}
use Rattle.fux_grid.specs.declared.exercise.Exercise.{Exercise}
use Rattle.fux_grid.specs.Columns.{newest_column, ColumnFollows}
use Rattle.fux_grid.specs.Exercises.{columns_in}
use Rattle.fux_grid.specs.Menus.{IsAscending, menu_of}
use Rattle.penalty_sheet.specs.declared.sheet.Sheet.{Sheet}
use Rattle.fux_judge.specs.Penalties.{newly_broken, newly_paid}
use Rattle.fux_judge.specs.Pruning.{IsPruned}
use Rattle.fux_judge.specs.Rules.{rules_read}
use Rattle.species_space.specs.declared.node.Node.{Node}
use Rattle.species_space.specs.Blocks.{HasOneWidth, IsOnlyHolds, StraysOrDies}
use Rattle.species_space.specs.Nodes.{IsNodeOf}
use Rattle.species_space.specs.Paths.{IsNoBetter, alive_goes_on, column_at, column_follows, goes_on, is_alive_path, live_with, prefix_at, width_at}
use Rattle.species_space.specs.Grows.{goes_on_parts, with_value}
use Rattle.species_space.specs.Leaves.{follows_from_test}
use Rattle.species_space.proofs.Live.{path_is_alive}
use Rattle.species_space.proofs.Passing.{only_one_follows}
use Rattle.species_space.proofs.Children.{as_long, no_better_if_costly, no_better_if_dead, some_lower}

third_of : (a b c d : Bool) → (a && b && c && d) ≡ true → c ≡ true
third_of true true true d h = refl
third_of true true false d h = cc
third_of true false c d h = cc
third_of false b c d h = cc

module _ (ex : Exercise) (sheet : Sheet) (node : Node) (path : List ℕ) (at : IsNodeOf ex sheet node path) where
  -- the column of a number in the menu that is next
  pub column_of_menu : (menu : List (List Cell)) (k : ℕ) → menu ≡ menu_of ex node.state.newest.len
      → slice_index_or menu k [] ≡ column_at ex path k
  column_of_menu menu k is =
      ap (λ cols. slice_index_or cols k []) (is ∙ ap (menu_of ex) (as_long ex sheet node path at))

  pub stray_no_better : (k : ℕ) (chained : Bool) (best : Option ℕ) (before col : List Cell) → before
      ≡ newest_column (reverse (prefix_at ex path)) → col ≡ column_at ex path k
      → StraysOrDies ex node.state.newest.len before col → IsNoBetter chained ex sheet path best k
  stray_no_better k chained best before col e same stray =
      no_better_if_dead ex path k at.alive sheet chained best
      (λ follows.
      subst (λ (c : List Cell). list_any (newly_broken ex (prefix_at ex path) c) rules_read ≡ true) same
      (stray (subst (λ (b : List Cell). ColumnFollows b col) (sym e)
      (subst (λ (c : List Cell). ColumnFollows (newest_column (reverse (prefix_at ex path))) c) (sym same) follows))
      (prefix_at ex path) (sym at.state.newest.count)))

  -- where a column of a menu of holds follows, each other one strays
  pub other_no_better : (menu : List (List Cell)) (hint k : ℕ) (chained : Bool) (best : Option ℕ) (before : List Cell)
      → menu ≡ menu_of ex node.state.newest.len → before ≡ newest_column (reverse (prefix_at ex path))
      → All IsOnlyHolds menu → IsAscending menu → HasOneWidth menu → hint < length menu
      → ColumnFollows before (slice_index_or menu hint []) → k < length menu → (k ≡ hint → ⊥)
      → IsNoBetter chained ex sheet path best k
  other_no_better menu hint k chained best before is same held order full there follows within differ =
      stray_no_better k chained best before (slice_index_or menu k []) same (column_of_menu menu k is)
      (λ its. absurd (differ (only_one_follows menu before k hint held order full within there its follows)))

  -- the column of a live child is in the menu, and follows
  follower : (menu : List (List Cell)) (k : ℕ) → menu ≡ menu_of ex node.state.newest.len
      → is_alive_path ex (path ++ k ∷ []) ≡ true
      → (k < length menu) × ColumnFollows (newest_column (reverse (prefix_at ex path))) (slice_index_or menu k [])
  follower menu k is alive =
      let on : goes_on ex path k ≡ true = sym (alive_goes_on ex path k at.alive) ∙ alive in
      let inside = (goes_on_parts ex path k on).within in
      let long : length menu ≡ length (menu_of ex (length path)) =
      ap length is ∙ ap (λ i. length (menu_of ex i)) (as_long ex sheet node path at) in (
        omega (arith, inside, long),
        subst (ColumnFollows (newest_column (reverse (prefix_at ex path)))) (sym (column_of_menu menu k is))
            (follows_from_test (newest_column (reverse (prefix_at ex path))) (column_at ex path k)
            (third_of (nat_lt (length path) (columns_in ex)) (nat_lt k (width_at ex path))
            (column_follows (newest_column (reverse (prefix_at ex path))) (column_at ex path k))
            (not (list_any (newly_broken ex (prefix_at ex path) (column_at ex path k)) rules_read)) on)),
      )

  -- in a menu of holds no child behind a live one is live
  pub last_of_holds : (menu : List (List Cell)) (k later : ℕ) (chained : Bool) → menu
      ≡ menu_of ex node.state.newest.len → All IsOnlyHolds menu → IsAscending menu → HasOneWidth menu
      → IsSome (live_with chained ex sheet (path ++ k ∷ [])) → k < later
      → (floor : ℕ) → live_with chained ex sheet (path ++ later ∷ []) ≡ Some floor → ⊥
  last_of_holds menu k later chained is held order full here lt floor there =
      let own = follower menu k is (path_is_alive chained ex sheet (path ++ k ∷ []) here) in
      let its = follower menu later is (with_value chained ex sheet (path ++ later ∷ []) floor there).0 in
      other_no_better menu k later chained None (newest_column (reverse (prefix_at ex path))) is refl held order full
      own.0 own.1 its.0 (λ same. omega (arith, same, lt)) floor there

  pub pruned_no_better : (k : ℕ) (chained : Bool) (best limit : Option ℕ) (col : List Cell) → col ≡ column_at ex path k
      → ((cost : ℕ) → IsSomeAnd limit (λ most. most ≤ cost)
      → IsSomeAnd best (λ value. value ≤ node.paid + node.least + cost))
      → IsPruned ex sheet (prefix_at ex path) limit col → IsNoBetter chained ex sheet path best k
  pruned_no_better k chained best limit col same dear (inl broken) =
      no_better_if_dead ex path k at.alive sheet chained best
      (λ follows. subst (λ (c : List Cell). list_any (newly_broken ex (prefix_at ex path) c) rules_read ≡ true) same
      broken)
  pruned_no_better k chained best limit col same dear (inr costs) =
      no_better_if_costly ex path k at.alive sheet chained best
      (some_lower best _ _ (omega (arith, at.paid, at.least, ap (newly_paid ex sheet (prefix_at ex path)) same))
      (dear (newly_paid ex sheet (prefix_at ex path) col) costs))
