-- Alive paths lead to the prefixes in which no strict break is settled (`prefix_is_alive`), and
-- each of these is at the end of one (`path_to_alive`).
use Rattle.std.specs.Prelude.{◌≡◌, ℕ, zero, suc, ◌+◌, ◌<◌, ◌≤◌, Bool, true, false, not, nat_lt, nat_le, List, [], ◌∷◌, IsTrue, Contains, length, reverse, slice_index_or, refl}
use Rattle.std.specs.List.{AllPairs}
use Rattle.std.proofs.Common.{ap, sym, ◌∙◌, subst, arith}
use Rattle.std.proofs.lemmas.List.Elements.{Contains-get_or}
use Rattle.std.proofs.lemmas.Bool.Decides.{nat_tests}
use Rattle.std.specs.declared.cmp.Ordering.TheVariants.{Less}
use Rattle.std.proofs.lemmas.Bool.{and_from, not-false, not-true, not_from_true}
use Rattle.fux_grid.specs.declared.cell.Cell.{Cell}
use Rattle.fux_grid.specs.declared.cell.Cell.TheVariants.{Rest}
use Rattle.fux_grid.specs.declared.exercise.Exercise.{Exercise}
use Rattle.fux_grid.specs.Cells.{cell_in, cell_follows}
use Rattle.fux_grid.specs.Columns.{newest_column, ColumnFollows, HistoryFollows}
use Rattle.fux_grid.specs.Exercises.{IsValid, columns_in}
use Rattle.fux_grid.specs.Menus.{menu_of, IsInMenu}
use Rattle.fux_grid.specs.Order.{column_order}
use Rattle.rule_law.specs.Growth.{any_below}
use Rattle.rule_law.specs.Law.{first_true, second_true, below_from_test, test_from_below}
use Rattle.fux_judge.specs.Penalties.{has_strict_break}
use Rattle.fux_judge.proofs.Ends.{none_below, from_none_below}
use Rattle.fux_judge.specs.Lawful.{IsAlive}
use Rattle.species_space.specs.Paths.{columns_on, prefix_at, is_in_menus, column_follows, history_follows, is_alive_path, alive_parts, alive_from_parts, length-columns_on}

-- what is known of each menu: it has exactly its columns, and they ascend
pub record IsExactMenu (ex : Exercise) (i : ℕ) : Type 0 where
  pub only : (col : List Cell) → Contains (menu_of ex i) col → IsInMenu ex i col
  pub each : (col : List Cell) → IsInMenu ex i col → Contains (menu_of ex i) col
  pub ascends : AllPairs (λ c d. column_order c d ≡ Less) (menu_of ex i)

-- a path that leads to a list of columns
pub record LeadsTo (ex : Exercise) (i : ℕ) (p : List (List Cell)) : Type 0 where
  pub path : List ℕ
  pub there : columns_on ex i path ≡ p
  pub menus : is_in_menus ex i path ≡ true

-- an alive path to a prefix
pub record PathTo (ex : Exercise) (p : List (List Cell)) : Type 0 where
  pub path : List ℕ
  pub there : prefix_at ex path ≡ p
  pub alive : is_alive_path ex path ≡ true

-- ---- what holds of them

-- a cell that a column lacks is a rest
past_end : (col : List Cell) (v : ℕ) → length col ≤ v → cell_in col v ≡ Rest
past_end [] v h = refl
past_end (c ∷ col) zero h = absurd (omega arith)
past_end (c ∷ col) (suc v) h = past_end col v (omega arith)

pub follows_from_test : (before next : List Cell) → column_follows before next ≡ true → ColumnFollows before next
follows_from_test before next h v = at (nat_lt v (length next)) refl
  where
    at : (b : Bool) → nat_lt v (length next) ≡ b → IsTrue (cell_follows (cell_in before v) (cell_in next v))
    at true e = not-false (cell_follows (cell_in before v) (cell_in next v))
        (none_below (λ v. not (cell_follows (cell_in before v) (cell_in next v))) (length next)
        (not-true (any_below (λ v. not (cell_follows (cell_in before v) (cell_in next v))) (length next)) h) v
        (below_from_test v (length next) e))
    at false e =
        let P : Cell → Type 0 = λ c. IsTrue (cell_follows (cell_in before v) c) in
        subst P (sym (past_end next v (grind (arith, nat_tests)))) refl

pub test_from_follows : (before next : List Cell) → ColumnFollows before next → column_follows before next ≡ true
test_from_follows before next h =
    ap not (from_none_below (λ v. not (cell_follows (cell_in before v) (cell_in next v))) (length next)
    (λ v k. not_from_true (cell_follows (cell_in before v) (cell_in next v)) (h v)))

history_from_test : (h : List (List Cell)) → history_follows h ≡ true → HistoryFollows h
history_from_test [] e = tt
history_from_test (col ∷ h) e = (
  follows_from_test (newest_column h) col (first_true (column_follows (newest_column h) col) (history_follows h) e),
  history_from_test h (second_true (column_follows (newest_column h) col) (history_follows h) e),
)

test_from_history : (h : List (List Cell)) → HistoryFollows h → history_follows h ≡ true
test_from_history [] f = refl
test_from_history (col ∷ h) f = and_from (column_follows (newest_column h) col) (history_follows h)
    (test_from_follows (newest_column h) col f.0) (test_from_history h f.1)

module _ (ex : Exercise) (exact : (i : ℕ) → IsExactMenu ex i) where
  in_its_menu : (i : ℕ) (path : List ℕ) → is_in_menus ex i path ≡ true → (j : ℕ) → j < length path
      → Contains (menu_of ex (i + j)) (slice_index_or (columns_on ex i path) j [])
  in_its_menu i [] h j k = absurd (omega arith)
  in_its_menu i (l ∷ path) h zero k =
      let e : i ≡ i + 0 = omega arith in
      let within : l < length (menu_of ex i) = below_from_test l (length (menu_of ex i))
      (first_true (nat_lt l (length (menu_of ex i))) (is_in_menus ex (suc i) path) h) in
      let P : ℕ → Type 0 = λ m. Contains (menu_of ex m) (slice_index_or (menu_of ex i) l []) in
      subst P e (Contains-get_or (menu_of ex i) l [] within)
  in_its_menu i (l ∷ path) h (suc j) k =
      let e : suc i + j ≡ i + suc j = omega arith in
      let P : ℕ → Type 0 = λ m. Contains (menu_of ex m) (slice_index_or (columns_on ex (suc i) path) j []) in
      subst P e (in_its_menu (suc i) path (second_true (nat_lt l (length (menu_of ex i))) (is_in_menus ex (suc i) path)
      h) j (omega arith))

  -- in the prefix that an alive path leads to no strict break is settled
  pub prefix_is_alive : (path : List ℕ) → is_alive_path ex path ≡ true → IsAlive ex (prefix_at ex path)
  prefix_is_alive path h =
      let live = alive_parts ex path h in
      let same : length (prefix_at ex path) ≡ length path = length-columns_on ex 0 path in
      record {
        prefix = record {
          few = few live.room same;
          menus = λ i k. (exact i).only (slice_index_or (prefix_at ex path) i [])
              (at_zero i (in_its_menu 0 path live.menus i (omega arith)));
          follows = history_from_test (reverse (prefix_at ex path)) live.follows;
        };
        unbroken = live.alive;
      }
    where
      few : nat_le (length path) (columns_in ex) ≡ true → length (prefix_at ex path) ≡ length path
          → length (prefix_at ex path) ≤ columns_in ex
      few e f = grind (arith, nat_tests)

      at_zero : (i : ℕ) → Contains (menu_of ex (0 + i)) (slice_index_or (prefix_at ex path) i [])
          → Contains (menu_of ex i) (slice_index_or (prefix_at ex path) i [])
      at_zero i c =
          let e : 0 + i ≡ i = omega arith in
          let P : ℕ → Type 0 = λ m. Contains (menu_of ex m) (slice_index_or (prefix_at ex path) i []) in
          subst P e c

  -- each list of columns from menus is on a path
  lead : (i : ℕ) (p : List (List Cell)) → ((j : ℕ) → j < length p → IsInMenu ex (i + j) (slice_index_or p j []))
      → LeadsTo ex i p
  lead i [] h = record { path = []; there = refl; menus = refl }
  lead i (col ∷ p) h =
      let e : i + 0 ≡ i = omega arith in
      let P : ℕ → Type 0 = λ m. IsInMenu ex m col in
      let place = (exact i).each col (subst P e (h 0 (omega arith))) in
      let rest = lead (suc i) p (λ j k. later j (h (suc j) (omega arith))) in
      record {
        path = place.0 ∷ rest.path;
        there = ap (λ c. c ∷ columns_on ex (suc i) rest.path)
            (other_default (menu_of ex i) place.0 [] col place.1 ∙ place.2) ∙ ap (λ cols. col ∷ cols) rest.there;
        menus = and_from (nat_lt place.0 (length (menu_of ex i))) (is_in_menus ex (suc i) rest.path)
            (test_from_below place.0 (length (menu_of ex i)) place.1) rest.menus;
      }
    where
      later : (j : ℕ) → IsInMenu ex (i + suc j) (slice_index_or p j [])
          → IsInMenu ex (suc i + j) (slice_index_or p j [])
      later j m =
          let e : i + suc j ≡ suc i + j = omega arith in
          let P : ℕ → Type 0 = λ m. IsInMenu ex m (slice_index_or p j []) in
          subst P e m

      other_default : (xs : List (List Cell)) (k : ℕ) (d d' : List Cell) → k < length xs → slice_index_or xs k d
          ≡ slice_index_or xs k d'
      other_default [] k d d' h = absurd (omega arith)
      other_default (x ∷ xs) zero d d' h = refl
      other_default (x ∷ xs) (suc k) d d' h = other_default xs k d d' (omega arith)

  -- each prefix in which no strict break is settled is at the end of an alive path
  pub path_to_alive : IsValid ex → (p : List (List Cell)) → IsAlive ex p → PathTo ex p
  path_to_alive valid p live =
      let way = lead 0 p (λ j k. at_zero j (live.prefix.menus j k)) in
      record { path = way.path; there = way.there; alive = whole way.path way.there way.menus }
    where
      at_zero : (j : ℕ) → IsInMenu ex j (slice_index_or p j []) → IsInMenu ex (0 + j) (slice_index_or p j [])
      at_zero j m =
          let e : j ≡ 0 + j = omega arith in
          let P : ℕ → Type 0 = λ m. IsInMenu ex m (slice_index_or p j []) in
          subst P e m

      room_test : (n m : ℕ) → n ≤ m → nat_le n m ≡ true
      room_test n m h = grind (arith, nat_tests)

      whole : (path : List ℕ) → prefix_at ex path ≡ p → is_in_menus ex 0 path ≡ true → is_alive_path ex path ≡ true
      whole path e menus =
          let size : length path ≡ length p = sym (length-columns_on ex 0 path) ∙ ap length e in
          alive_from_parts ex path record {
            voices = and_from (nat_le ex.voices 4) (nat_lt ex.cantus_voice ex.voices)
                (room_test ex.voices 4 valid.most_voices)
                (test_from_below ex.cantus_voice ex.voices valid.cantus_there);
            room = room_test (length path) (columns_in ex) (omega (arith, live.prefix.few));
            menus = menus;
            follows = ap (λ q. history_follows (reverse q)) e ∙ test_from_history (reverse p) live.prefix.follows;
            alive = ap (has_strict_break ex) e ∙ live.unbroken;
          }
