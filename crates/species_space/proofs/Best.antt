-- Leaves are the lawful settings, with their penalties (`leaf_is_lawful`, `lawful_is_leaf`), in
-- reading order (`before_is_earlier`).
use Rattle.std.specs.Prelude.{◌≡◌, ℕ, suc, ◌<◌, Bool, true, nat_lt, List, [], ◌∷◌, Some, length, slice_index_or}
use Rattle.std.proofs.Common.{ap, sym, ◌∙◌, arith, inl, inr}
use Rattle.fux_grid.specs.declared.cell.Cell.{Cell}
use Rattle.fux_grid.specs.declared.exercise.Exercise.{Exercise}
use Rattle.fux_grid.specs.Exercises.{IsValid, columns_in}
use Rattle.fux_grid.specs.Menus.{menu_of}
use Rattle.fux_grid.specs.Order.{IsEarlier}
use Rattle.fux_grid.proofs.OrderLemmas.{earlier-itself}
use Rattle.rule_law.specs.Law.{first_true, second_true, below_from_test}
use Rattle.rule_law.specs.Prefixes.{IsSetting}
use Rattle.penalty_sheet.specs.declared.sheet.Sheet.{Sheet}
use Rattle.fux_judge.specs.Penalties.{penalty_of}
use Rattle.fux_judge.proofs.Alive.{unbroken_if_alive, alive_if_unbroken}
use Rattle.fux_judge.specs.Lawful.{IsAlive, IsLawful}
use Rattle.species_space.specs.Chained.{floor_with}
use Rattle.tree_search.specs.Answer as tree
use Rattle.tree_search.proofs.Quests.{same_path}
use Rattle.species_space.specs.Paths.{columns_on, prefix_at, is_in_menus, is_alive_path, live_with, alive_parts, length-columns_on}
use Rattle.species_space.specs.Grows.{with_some, with_value}
use Rattle.species_space.specs.Leaves.{prefix_is_alive, path_to_alive}
use Rattle.species_space.specs.Exact.{menus_are_exact}
use Rattle.species_space.specs.FloorLaws.{floor_with_at_end}

module _ (ex : Exercise) where
  -- a path that comes before another leads to the earlier columns
  pub before_is_earlier : (i : ℕ) (path other : List ℕ) → length path ≡ length other → is_in_menus ex i other ≡ true
      → tree.IsBefore path other → IsEarlier (columns_on ex i path) (columns_on ex i other)
  before_is_earlier i path [] e m h = absurd h
  before_is_earlier i [] (b ∷ other) e m h = absurd (omega arith)
  before_is_earlier i (a ∷ path) (b ∷ other) e m (inl h) =
      let within : b < length (menu_of ex i) = below_from_test b (length (menu_of ex i))
      (first_true (nat_lt b (length (menu_of ex i))) (is_in_menus ex (suc i) other) m) in
      inl ((menus_are_exact ex i).ascends a b [] h within)
  before_is_earlier i (a ∷ path) (b ∷ other) e m (inr h) =
      inr (
        ap (λ k. slice_index_or (menu_of ex i) k []) h.0,
        before_is_earlier (suc i) path other (omega arith)
            (second_true (nat_lt b (length (menu_of ex i))) (is_in_menus ex (suc i) other) m) h.1,
      )

  -- different alive paths lead to different prefixes
  pub one_path : (path other : List ℕ) → is_alive_path ex path ≡ true → is_alive_path ex other ≡ true
      → prefix_at ex path ≡ prefix_at ex other → path ≡ other
  one_path path other live its_live e =
      let size : length path ≡ length other = sym (length-columns_on ex 0 path) ∙ ap length e
      ∙ length-columns_on ex 0 other in
      same_path (prefix_at ex) (λ s t. IsEarlier s t) earlier-itself path other size
      (before_is_earlier 0 path other size (alive_parts ex other its_live).menus)
      (before_is_earlier 0 other path (sym size) (alive_parts ex path live).menus) e

  module _ (valid : IsValid ex) (sheet : Sheet) (chained : Bool) where
    -- a leaf leads to a lawful setting, and its value is the penalty
    pub leaf_is_lawful : (path : List ℕ) (value : ℕ) → tree.IsLeaf (live_with chained ex sheet) (columns_in ex) path value
        → IsLawful ex (prefix_at ex path) × (penalty_of ex sheet (prefix_at ex path) ≡ value)
    leaf_is_lawful path value leaf =
        let own = with_value chained ex sheet path value leaf.1 in
        let alive = prefix_is_alive ex (menus_are_exact ex) path own.0 in
        let whole : length (prefix_at ex path) ≡ columns_in ex = length-columns_on ex 0 path ∙ leaf.0 in
        let setting : IsSetting ex (prefix_at ex path) = record { prefix = alive.prefix; whole = whole } in (
          record {
            setting = setting;
            unbroken = unbroken_if_alive ex valid.most_voices (prefix_at ex path) setting
                alive.unbroken;
          },
          same_number (sym (floor_with_at_end ex sheet chained (prefix_at ex path) valid.most_voices setting alive) ∙ own.1),
        )
      where
        same_number : {m n : ℕ} → Some m ≡ Some n → m ≡ n
        same_number h = cc

    -- a lawful setting is at the end of a path to a leaf
    pub lawful_is_leaf : (s : List (List Cell)) → IsLawful ex s → (path : List ℕ) × (prefix_at ex path ≡ s)
        × tree.IsLeaf (live_with chained ex sheet) (columns_in ex) path (penalty_of ex sheet s)
    lawful_is_leaf s lawful =
        let alive : IsAlive ex s = record {
          prefix = lawful.setting.prefix;
          unbroken = alive_if_unbroken ex valid.most_voices s lawful.setting lawful.unbroken;
        } in
        let way = path_to_alive ex (menus_are_exact ex) valid s alive in
        let size : length way.path ≡ columns_in ex = sym (length-columns_on ex 0 way.path) ∙ ap length way.there
        ∙ lawful.setting.whole in (
          way.path,
          way.there,
          (
            size,
            with_some chained ex sheet way.path way.alive ∙ ap (floor_with chained ex sheet) way.there
                ∙ floor_with_at_end ex sheet chained s valid.most_voices lawful.setting alive,
          ),
        )
