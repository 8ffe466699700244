-- The numbers of a lawful setting's columns lead to it (`way_back`) and to a leaf of its penalty
-- (`lawful_leaf`).
use Rattle.std.proofs.Common.{◌≡◌, ℕ, suc, ◌+◌, ◌<◌, true, List, [], ◌∷◌, ◌++◌, length, reverse, nat_le, nat_lt, refl, sym, ap, ◌∙◌, subst, arith, slice_index_or}
use Rattle.std.specs.List.{Contains}
use Rattle.std.proofs.lemmas.Bool.{and_from}
use Rattle.cert_law.specs.Tails.{number_of}
use Rattle.cert_law.proofs.TailLemmas.{number_found}
use Rattle.fux_grid.specs.declared.cell.Cell.{Cell}
use Rattle.fux_grid.specs.declared.exercise.Exercise.{Exercise}
use Rattle.fux_grid.specs.Exercises.{IsValid, columns_in}
use Rattle.fux_grid.specs.Menus.{IsInMenu, menu_of}
use Rattle.fux_grid.proofs.MenuLemmas.{menu_of-contains}
use Rattle.fux_judge.specs.Lawful.{IsAlive, IsLawful}
use Rattle.fux_judge.specs.Penalties.{has_strict_break, penalty_of}
use Rattle.fux_judge.proofs.Alive.{alive_if_unbroken}
use Rattle.penalty_sheet.specs.declared.sheet.Sheet.{Sheet}
use Rattle.rule_law.specs.Law.{test_from_below}
use Rattle.rule_law.specs.Prefixes.{IsPrefix}
use Rattle.species_space.specs.Exact.{menus_are_exact}
use Rattle.species_space.specs.FloorLaws.{floor_at_end}
use Rattle.species_space.specs.Grows.{live_some}
use Rattle.species_space.specs.Leaves.{path_to_alive}
use Rattle.species_space.specs.Paths.{alive_from_parts, alive_parts, columns_on, history_follows, is_alive_path, is_in_menus, length-columns_on, live_at, prefix_at}
use Rattle.floor_tables.specs.Floors.{floor_of}
use Rattle.tree_search.specs.Answer.{IsLeaf}
use Rattle.price_check.specs.PriceLists.{numbers_from, path_of}

-- each column is one of its place's menu
abbrev pub AreInMenus : Exercise → ℕ → List (List Cell) → Type 0
AreInMenus ex i p = (j : ℕ) → j < length p → IsInMenu ex (i + j) (slice_index_or p j [])

module _ (ex : Exercise) where
  pub numbers_from-append : (i : ℕ) (p rest : List (List Cell))
      → numbers_from ex i (p ++ rest) ≡ numbers_from ex i p ++ numbers_from ex (i + length p) rest
  numbers_from-append i [] rest = let e : i ≡ i + 0 = omega arith in ap (λ j. numbers_from ex j rest) e
  numbers_from-append i (col ∷ p) rest =
      let e : suc i + length p ≡ i + suc (length p) = omega arith in
      ap (λ path. number_of (menu_of ex i) col ∷ path) (numbers_from-append (suc i) p rest
      ∙ ap (λ j. numbers_from ex (suc i) p ++ numbers_from ex j rest) e)

  pub length-numbers_from : (i : ℕ) (p : List (List Cell)) → length (numbers_from ex i p) ≡ length p
  length-numbers_from i [] = refl
  length-numbers_from i (col ∷ p) = ap suc (length-numbers_from (suc i) p)

  first_found : (i : ℕ) (col : List Cell) (p : List (List Cell)) → AreInMenus ex i (col ∷ p) → Contains (menu_of ex i) col
  first_found i col p menus =
      let e : i + 0 ≡ i = omega arith in
      (menu_of-contains ex i col).1 (subst (λ (m : ℕ). IsInMenu ex m col) e (menus 0 (omega arith)))

  others : (i : ℕ) (col : List Cell) (p : List (List Cell)) → AreInMenus ex i (col ∷ p) → AreInMenus ex (suc i) p
  others i col p menus j within =
      let e : i + suc j ≡ suc i + j = omega arith in
      subst (λ (m : ℕ). IsInMenu ex m (slice_index_or p j [])) e (menus (suc j) (omega (arith, within)))

  -- the numbers of columns from menus lead to them
  pub leads_back : (i : ℕ) (p : List (List Cell)) → AreInMenus ex i p → columns_on ex i (numbers_from ex i p) ≡ p
  leads_back i [] menus = refl
  leads_back i (col ∷ p) menus =
      ap (λ c. c ∷ columns_on ex (suc i) (numbers_from ex (suc i) p))
      (number_found (menu_of ex i) col (first_found i col p menus)).1
      ∙ ap (λ cols. col ∷ cols) (leads_back (suc i) p (others i col p menus))

  are_in_menus : (i : ℕ) (p : List (List Cell)) → AreInMenus ex i p → is_in_menus ex i (numbers_from ex i p) ≡ true
  are_in_menus i [] menus = refl
  are_in_menus i (col ∷ p) menus =
      and_from (nat_lt (number_of (menu_of ex i) col) (length (menu_of ex i))) (is_in_menus ex (suc i) (numbers_from ex (suc i) p))
      (test_from_below (number_of (menu_of ex i) col) (length (menu_of ex i))
      (number_found (menu_of ex i) col (first_found i col p menus)).0)
      (are_in_menus (suc i) p (others i col p menus))

  from_prefix : (p : List (List Cell)) → IsPrefix ex p → AreInMenus ex 0 p
  from_prefix p prefix j within =
      let e : j ≡ 0 + j = omega arith in
      subst (λ (m : ℕ). IsInMenu ex m (slice_index_or p j [])) e (prefix.menus j within)

  pub way_back : (p : List (List Cell)) → IsPrefix ex p → prefix_at ex (path_of ex p) ≡ p
  way_back p prefix = leads_back 0 p (from_prefix p prefix)

  pub length-path_of : (p : List (List Cell)) → length (path_of ex p) ≡ length p
  length-path_of p = length-numbers_from 0 p

  -- the path of a prefix is alive where some path to it is
  pub path_alive : (p : List (List Cell)) → IsPrefix ex p → (path : List ℕ) → prefix_at ex path ≡ p
      → is_alive_path ex path ≡ true → is_alive_path ex (path_of ex p) ≡ true
  path_alive p prefix path there alive =
      let live = alive_parts ex path alive in
      let same : prefix_at ex path ≡ prefix_at ex (path_of ex p) = there ∙ sym (way_back p prefix) in
      let size : length path ≡ length (path_of ex p) = sym (length-columns_on ex 0 path) ∙ ap length same
      ∙ length-columns_on ex 0 (path_of ex p) in
      alive_from_parts ex (path_of ex p) record {
        voices = live.voices;
        room = sym (ap (λ n. nat_le n (columns_in ex)) size) ∙ live.room;
        menus = are_in_menus 0 p (from_prefix p prefix);
        follows = sym (ap (λ q. history_follows (reverse q)) same) ∙ live.follows;
        alive = sym (ap (has_strict_break ex) same) ∙ live.alive;
      }

  pub lawful_leaf : (valid : IsValid ex) (sheet : Sheet) (s : List (List Cell)) → IsLawful ex s
      → IsLeaf (live_at ex sheet) (columns_in ex) (path_of ex s) (penalty_of ex sheet s)
  lawful_leaf valid sheet s lawful =
      let alive : IsAlive ex s = record {
        prefix = lawful.setting.prefix;
        unbroken = alive_if_unbroken ex valid.most_voices s lawful.setting lawful.unbroken;
      } in
      let way = path_to_alive ex (menus_are_exact ex) valid s alive in
      let own = path_alive s lawful.setting.prefix way.path way.there way.alive in (
        length-path_of s ∙ lawful.setting.whole,
        live_some ex sheet (path_of ex s) own
            ∙ ap (floor_of ex sheet) (way_back s lawful.setting.prefix)
            ∙ floor_at_end ex sheet s valid.most_voices lawful.setting alive,
      )
