-- Paths of child numbers, and the prefixes that they lead to.
use Rattle.std.specs.Prelude.{◌≡◌, ◌<◌, ◌≤◌, ℕ, suc, ◌+◌, Bool, true, false, not, ◌&&◌, ◌||◌, nat_lt, nat_le, List, [], ◌∷◌, ◌++◌, Option, Some, None, IsSomeAnd, IsTrue, length, reverse, slice_index_or, if◌then◌else◌, refl}
use Rattle.std.specs.List.{list_any}
use Rattle.std.proofs.Common.{ap, sym, ◌∙◌, arith}
use Rattle.std.proofs.lemmas.List.{length-append}
use Rattle.std.proofs.lemmas.Bool.Decides.{nat_tests}
use Rattle.std.proofs.lemmas.Bool.{or_parts, not-true}
use Rattle.fux_grid.specs.declared.cell.Cell.{Cell}
use Rattle.fux_grid.specs.declared.exercise.Exercise.{Exercise}
use Rattle.fux_grid.specs.Cells.{cell_in, cell_follows}
use Rattle.fux_grid.specs.Columns.{newest_column}
use Rattle.fux_grid.specs.Exercises.{columns_in}
use Rattle.fux_grid.specs.Menus.{menu_of}
use Rattle.fux_grid.proofs.Histories.{reverse-push}
use Rattle.rule_law.specs.Growth.{any_below}
use Rattle.rule_law.specs.Law.{first_true, second_true}
use Rattle.penalty_sheet.specs.declared.sheet.Sheet.{Sheet}
use Rattle.fux_judge.specs.Rules.{rules_read}
use Rattle.fux_judge.specs.Penalties.{has_strict_break, newly_broken}
use Rattle.fux_judge.proofs.Grows.{strict_break_grows}
use Rattle.species_space.specs.Chained.{floor_with}

-- the columns on a path from column i on: each number chooses one of the column's menu
abbrev pub columns_on : Exercise → ℕ → List ℕ → List (List Cell)
columns_on ex i [] = []
columns_on ex i (k ∷ path) = slice_index_or (menu_of ex i) k [] ∷ columns_on ex (suc i) path

-- the prefix that a path leads to
abbrev pub prefix_at : Exercise → List ℕ → List (List Cell)
prefix_at ex path = columns_on ex 0 path

-- each number is that of a column of its menu
abbrev pub is_in_menus : Exercise → ℕ → List ℕ → Bool
is_in_menus ex i [] = true
is_in_menus ex i (k ∷ path) = nat_lt k (length (menu_of ex i)) && is_in_menus ex (suc i) path

-- each cell may follow the one of its voice
abbrev pub column_follows : List Cell → List Cell → Bool
column_follows before next = not (any_below (λ v. not (cell_follows (cell_in before v) (cell_in next v))) (length next))

-- each column of a history, which goes from the newest to the oldest, follows the one before it
abbrev pub history_follows : List (List Cell) → Bool
history_follows [] = true
history_follows (col ∷ cols) = column_follows (newest_column cols) col && history_follows cols

-- at most four voices, one of which has the cantus
abbrev pub has_voices : Exercise → Bool
has_voices ex = nat_le ex.voices 4 && nat_lt ex.cantus_voice ex.voices

-- the path leads to a prefix in which no strict break is settled; there is none where the
-- exercise's voices aren't such
abbrev pub is_alive_path : Exercise → List ℕ → Bool
is_alive_path ex path =
    has_voices ex && nat_le (length path) (columns_in ex) && is_in_menus ex 0 path
    && history_follows (reverse (prefix_at ex path)) && not (has_strict_break ex (prefix_at ex path))

-- the floor of the prefix that a path leads to, where it is live: no strict break is settled in it,
-- and with chains one goes on from it
unfoldable pub live_with : Bool → Exercise → Sheet → List ℕ → Option ℕ
live_with chained ex sheet path =
    if is_alive_path ex path then floor_with chained ex sheet (prefix_at ex path) else None

-- the same with chains
abbrev pub live_at : Exercise → Sheet → List ℕ → Option ℕ
live_at ex sheet = live_with true ex sheet

-- how many columns there are to go on with
abbrev pub width_at : Exercise → List ℕ → ℕ
width_at ex path = length (menu_of ex (length path))

-- the column that a number chooses after a path
abbrev pub column_at : Exercise → List ℕ → ℕ → List Cell
column_at ex path k = slice_index_or (menu_of ex (length path)) k []

-- the child of this number is dead, or no better than the best leaf so far: its floor is no lower
-- than that leaf's value
abbrev pub IsNoBetter : Bool → Exercise → Sheet → List ℕ → Option ℕ → ℕ → Type 0
IsNoBetter chained ex sheet path best k =
    (floor : ℕ) → live_with chained ex sheet (path ++ k ∷ []) ≡ Some floor → IsSomeAnd best (λ value. value ≤ floor)

-- and so is each from one number up to another
abbrev pub ArePassed : Bool → Exercise → Sheet → List ℕ → Option ℕ → ℕ → ℕ → Type 0
ArePassed chained ex sheet path best from to =
    (k : ℕ) → from ≤ k → k < to → IsNoBetter chained ex sheet path best k

-- a path that is longer by a number is alive where the path is, it has room, the number is in the
-- menu, and its column follows and settles no strict break
abbrev pub goes_on : Exercise → List ℕ → ℕ → Bool
goes_on ex path k =
    nat_lt (length path) (columns_in ex) && nat_lt k (width_at ex path)
    && column_follows (newest_column (reverse (prefix_at ex path))) (column_at ex path k)
    && not (list_any (newly_broken ex (prefix_at ex path) (column_at ex path k)) rules_read)

-- what makes a path alive, test by test
pub record IsAlivePath (ex : Exercise) (path : List ℕ) : Type 0 where
  pub voices : has_voices ex ≡ true
  pub room : nat_le (length path) (columns_in ex) ≡ true
  pub menus : is_in_menus ex 0 path ≡ true
  pub follows : history_follows (reverse (prefix_at ex path)) ≡ true
  pub alive : has_strict_break ex (prefix_at ex path) ≡ false

-- ---- what holds of them

columns_on-append : (ex : Exercise) (i : ℕ) (path : List ℕ) (k : ℕ) → columns_on ex i (path ++ k ∷ [])
    ≡ columns_on ex i path ++ slice_index_or (menu_of ex (i + length path)) k [] ∷ []
columns_on-append ex i [] k =
    let e : i ≡ i + 0 = omega arith in
    ap (λ j. slice_index_or (menu_of ex j) k [] ∷ []) e
columns_on-append ex i (l ∷ path) k =
    let e : suc i + length path ≡ i + suc (length path) = omega arith in
    ap (λ cols. slice_index_or (menu_of ex i) l [] ∷ cols)
    (columns_on-append ex (suc i) path k
    ∙ ap (λ j. columns_on ex (suc i) path ++ slice_index_or (menu_of ex j) k [] ∷ []) e)

pub prefix_at-append : (ex : Exercise) (path : List ℕ) (k : ℕ) → prefix_at ex (path ++ k ∷ []) ≡ prefix_at ex path
    ++ column_at ex path k ∷ []
prefix_at-append ex path k =
    let e : 0 + length path ≡ length path = omega arith in
    columns_on-append ex 0 path k ∙ ap (λ j. prefix_at ex path ++ slice_index_or (menu_of ex j) k [] ∷ []) e

pub length-columns_on : (ex : Exercise) (i : ℕ) (path : List ℕ) → length (columns_on ex i path) ≡ length path
length-columns_on ex i [] = refl
length-columns_on ex i (k ∷ path) = ap suc (length-columns_on ex (suc i) path)

and_right : (a b c : Bool) → (a && b && c) ≡ (a && (b && c))
and_right true b c = refl
and_right false b c = refl

is_in_menus-append : (ex : Exercise) (i : ℕ) (path : List ℕ) (k : ℕ) → is_in_menus ex i (path ++ k ∷ [])
    ≡ (is_in_menus ex i path && nat_lt k (length (menu_of ex (i + length path))))
is_in_menus-append ex i [] k =
    let e : i ≡ i + 0 = omega arith in
    and_true (nat_lt k (length (menu_of ex i))) ∙ ap (λ j. nat_lt k (length (menu_of ex j))) e
  where
    and_true : (b : Bool) → (b && true) ≡ b
    and_true true = refl
    and_true false = refl
is_in_menus-append ex i (l ∷ path) k =
    let e : suc i + length path ≡ i + suc (length path) = omega arith in
    ap (λ b. nat_lt l (length (menu_of ex i)) && b)
    (is_in_menus-append ex (suc i) path k
    ∙ ap (λ j. is_in_menus ex (suc i) path && nat_lt k (length (menu_of ex j))) e)
    ∙ sym (and_right (nat_lt l (length (menu_of ex i))) (is_in_menus ex (suc i) path)
    (nat_lt k (length (menu_of ex (i + suc (length path))))))

pub alive_parts : (ex : Exercise) (path : List ℕ) → is_alive_path ex path ≡ true → IsAlivePath ex path
alive_parts ex path h =
    let few = has_voices ex in
    let room = nat_le (length path) (columns_in ex) in
    let menus = is_in_menus ex 0 path in
    let follows = history_follows (reverse (prefix_at ex path)) in
    let alive = not (has_strict_break ex (prefix_at ex path)) in
    let four : IsTrue (few && room && menus && follows) = first_true (few && room && menus && follows) alive h in
    let three : IsTrue (few && room && menus) = first_true (few && room && menus) follows four in
    let two : IsTrue (few && room) = first_true (few && room) menus three in
    record {
      voices = first_true few room two;
      room = second_true few room two;
      menus = second_true (few && room) menus three;
      follows = second_true (few && room && menus) follows four;
      alive =
          not-true (has_strict_break ex (prefix_at ex path)) (second_true (few && room && menus && follows) alive h);
    }

pub alive_from_parts : (ex : Exercise) (path : List ℕ) → IsAlivePath ex path → is_alive_path ex path ≡ true
alive_from_parts ex path live = rw (live.voices, live.room, live.menus, live.follows, live.alive) refl

below_test : (n m : ℕ) → nat_le (n + 1) m ≡ nat_lt n m
below_test n m = grind (arith, nat_tests)

shorter_test : (n m : ℕ) → nat_lt n m ≡ true → nat_le n m ≡ true
shorter_test n m h = grind (arith, nat_tests)

four_tests : (r w f b : Bool) → (r && (true && w) && (f && true) && not (false || b)) ≡ (r && w && f && not b)
four_tests true true true b = refl
four_tests true true false b = refl
four_tests true false f b = refl
four_tests false w f b = refl

module _ (ex : Exercise) (path : List ℕ) (k : ℕ) where
  longer_room : nat_le (length (path ++ k ∷ [])) (columns_in ex) ≡ nat_lt (length path) (columns_in ex)
  longer_room =
      ap (λ n. nat_le n (columns_in ex)) (length-append path (k ∷ [])) ∙ below_test (length path) (columns_in ex)

  longer_menus : is_in_menus ex 0 (path ++ k ∷ [])
      ≡ (is_in_menus ex 0 path && nat_lt k (length (menu_of ex (length path))))
  longer_menus =
      let e : 0 + length path ≡ length path = omega arith in
      is_in_menus-append ex 0 path k ∙ ap (λ n. is_in_menus ex 0 path && nat_lt k (length (menu_of ex n))) e

  longer_follows : history_follows (reverse (prefix_at ex (path ++ k ∷ [])))
      ≡ (column_follows (newest_column (reverse (prefix_at ex path))) (column_at ex path k)
      && history_follows (reverse (prefix_at ex path)))
  longer_follows = ap (λ p. history_follows (reverse p)) (prefix_at-append ex path k)
      ∙ ap history_follows (reverse-push (prefix_at ex path) (column_at ex path k))

  longer_breaks : has_strict_break ex (prefix_at ex (path ++ k ∷ []))
      ≡ (has_strict_break ex (prefix_at ex path)
      || list_any (newly_broken ex (prefix_at ex path) (column_at ex path k)) rules_read)
  longer_breaks = ap (has_strict_break ex) (prefix_at-append ex path k)
      ∙ strict_break_grows ex (prefix_at ex path) (column_at ex path k)

  -- after an alive path, the next is alive where it goes on
  pub alive_goes_on : is_alive_path ex path ≡ true → is_alive_path ex (path ++ k ∷ []) ≡ goes_on ex path k
  alive_goes_on h =
      let live = alive_parts ex path h in
      rw (live.voices, longer_room, longer_menus, longer_follows, longer_breaks, live.menus, live.follows, live.alive)
      (four_tests (nat_lt (length path) (columns_in ex)) (nat_lt k (length (menu_of ex (length path))))
      (column_follows (newest_column (reverse (prefix_at ex path))) (column_at ex path k))
      (list_any (newly_broken ex (prefix_at ex path) (column_at ex path k)) rules_read))

  -- the parent of an alive path is alive
  pub alive_parent : is_alive_path ex (path ++ k ∷ []) ≡ true → is_alive_path ex path ≡ true
  alive_parent h =
      let live = alive_parts ex (path ++ k ∷ []) h in
      alive_from_parts ex path record {
        voices = live.voices;
        room = shorter_test (length path) (columns_in ex) (sym longer_room ∙ live.room);
        menus = first_true (is_in_menus ex 0 path) (nat_lt k (length (menu_of ex (length path))))
            (sym longer_menus ∙ live.menus);
        follows = second_true (column_follows (newest_column (reverse (prefix_at ex path))) (column_at ex path k))
            (history_follows (reverse (prefix_at ex path))) (sym longer_follows ∙ live.follows);
        alive = (or_parts (has_strict_break ex (prefix_at ex path))
            (list_any (newly_broken ex (prefix_at ex path) (column_at ex path k)) rules_read)
            (sym longer_breaks ∙ live.alive)).0;
      }
