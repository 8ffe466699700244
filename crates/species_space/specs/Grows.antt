-- Counterpoint is a tree whose floors don't fall (`paths_grow`).
use Rattle.std.specs.Prelude.{◌≡◌, ℕ, ◌<◌, ◌≤◌, Bool, true, false, ◌&&◌, nat_lt, nat_le, List, [], ◌∷◌, ◌++◌, Option, Some, None, IsSomeAnd, length, if◌then◌else◌, refl}
use Rattle.std.proofs.Common.{ap, sym, ◌∙◌, subst, arith}
use Rattle.std.proofs.lemmas.Bool.Decides.{nat_tests}
use Rattle.fux_grid.specs.declared.cell.Cell.{Cell}
use Rattle.fux_grid.specs.declared.exercise.Exercise.{Exercise}
use Rattle.fux_grid.specs.Exercises.{columns_in}
use Rattle.rule_law.specs.Law.{below_from_test, first_true, second_true}
use Rattle.penalty_sheet.specs.declared.sheet.Sheet.{Sheet}
use Rattle.fux_judge.specs.Lawful.{IsAlive}
use Rattle.floor_tables.specs.Floors.{floor_of}
use Rattle.tree_search.specs.Space.{FloorsGrow, IsParent}
use Rattle.species_space.specs.Chained.{floor_with}
use Rattle.species_space.specs.Exact.{menus_are_exact}
use Rattle.species_space.specs.FloorLaws.{floor_with_grows}
use Rattle.species_space.specs.Leaves.{prefix_is_alive}
use Rattle.species_space.specs.Paths.{prefix_at, column_at, is_alive_path, goes_on, live_at, live_with, width_at, alive_parts, alive_goes_on, alive_parent, prefix_at-append}

-- the tests of one step
pub record GoesOn (ex : Exercise) (path : List ℕ) (k : ℕ) : Type 0 where
  pub above : length path < columns_in ex
  pub within : k < width_at ex path

-- ---- what holds of them

-- what is chosen is there where the test holds
chosen : (b : Bool) (x : Option ℕ) (y : ℕ) → (if b then x else None) ≡ Some y → (b ≡ true) × (x ≡ Some y)
chosen true x y h = (refl, h)
chosen false x y h = cc

module _ (chained : Bool) (ex : Exercise) (sheet : Sheet) (path : List ℕ) where
  pub with_value : (value : ℕ) → live_with chained ex sheet path ≡ Some value
      → (is_alive_path ex path ≡ true) × (floor_with chained ex sheet (prefix_at ex path) ≡ Some value)
  unfolding live_with
  with_value value h =
      chosen (is_alive_path ex path) (floor_with chained ex sheet (prefix_at ex path)) value h

  pub with_some : is_alive_path ex path ≡ true → live_with chained ex sheet path
      ≡ floor_with chained ex sheet (prefix_at ex path)
  unfolding live_with
  with_some h = ap (λ b. if b then floor_with chained ex sheet (prefix_at ex path) else None) h

  pub with_none : is_alive_path ex path ≡ false → live_with chained ex sheet path ≡ None
  unfolding live_with
  with_none h = ap (λ b. if b then floor_with chained ex sheet (prefix_at ex path) else None) h

module _ (ex : Exercise) (sheet : Sheet) (path : List ℕ) where
  pub live_value : (value : ℕ) → live_at ex sheet path ≡ Some value
      → (is_alive_path ex path ≡ true) × (floor_of ex sheet (prefix_at ex path) ≡ Some value)
  live_value = with_value true ex sheet path

  pub live_some : is_alive_path ex path ≡ true → live_at ex sheet path ≡ floor_of ex sheet (prefix_at ex path)
  live_some = with_some true ex sheet path

  pub live_none : is_alive_path ex path ≡ false → live_at ex sheet path ≡ None
  live_none = with_none true ex sheet path

pub goes_on_parts : (ex : Exercise) (path : List ℕ) (k : ℕ) → goes_on ex path k ≡ true → GoesOn ex path k
goes_on_parts ex path k h = five (nat_lt (length path) (columns_in ex)) (nat_lt k (width_at ex path)) _ _ h refl refl
  where
    five : (a b c d : Bool) → (a && b && c && d) ≡ true → nat_lt (length path) (columns_in ex) ≡ a
        → nat_lt k (width_at ex path) ≡ b → GoesOn ex path k
    five true true c d h e f = record {
      above = below_from_test (length path) (columns_in ex) e;
      within = below_from_test k (width_at ex path) f;
    }
    five true false c d h e f = cc
    five false b c d h e f = cc

four_at_most : (n : ℕ) → nat_le n 4 ≡ true → n ≤ 4
four_at_most n h = grind (arith, nat_tests)

-- an exercise with an alive path has at most four voices, one of which has the cantus
at_most_four : (ex : Exercise) (path : List ℕ) → is_alive_path ex path ≡ true → ex.voices ≤ 4
at_most_four ex path h =
    four_at_most ex.voices (first_true (nat_le ex.voices 4) (nat_lt ex.cantus_voice ex.voices)
    (alive_parts ex path h).voices)

cantus_among : (ex : Exercise) (path : List ℕ) → is_alive_path ex path ≡ true → ex.cantus_voice < ex.voices
cantus_among ex path h =
    below_from_test ex.cantus_voice ex.voices
    (second_true (nat_le ex.voices 4) (nat_lt ex.cantus_voice ex.voices) (alive_parts ex path h).voices)

-- the parent of a live path is live, and its floor is no higher
pub with_grow : (chained : Bool) (ex : Exercise) (sheet : Sheet)
    → FloorsGrow (live_with chained ex sheet) (width_at ex) (columns_in ex)
with_grow chained ex sheet path k floor h =
    let here = with_value chained ex sheet (path ++ k ∷ []) floor h in
    let before = alive_parent ex path k here.0 in
    let steps = goes_on_parts ex path k (sym (alive_goes_on ex path k before) ∙ here.0) in
    let A : List (List Cell) → Type 0 = λ p. IsAlive ex p in
    let alive = subst A (prefix_at-append ex path k) (prefix_is_alive ex (menus_are_exact ex) (path ++ k ∷ []) here.0)
    in
    let grown = floor_with_grows ex sheet chained (prefix_at ex path) (column_at ex path k) (at_most_four ex path before)
    (cantus_among ex path before) alive floor
    (sym (ap (floor_with chained ex sheet) (prefix_at-append ex path k)) ∙ here.1) in
    parent steps before (floor_with chained ex sheet (prefix_at ex path)) refl grown
  where
    parent : GoesOn ex path k → is_alive_path ex path ≡ true → (own : Option ℕ) → floor_with chained ex sheet (prefix_at ex path)
        ≡ own
        → IsSomeAnd own (λ value. value ≤ floor)
        → IsParent (live_with chained ex sheet) (width_at ex) (columns_in ex) path k floor
    parent steps before None e low = absurd low
    parent steps before (Some own) e low = record {
      own_floor = own;
      is_live = with_some chained ex sheet path before ∙ e;
      no_higher = low;
      within = steps.within;
      above = steps.above;
    }

pub paths_grow : (ex : Exercise) (sheet : Sheet) → FloorsGrow (live_at ex sheet) (width_at ex) (columns_in ex)
paths_grow = with_grow true
