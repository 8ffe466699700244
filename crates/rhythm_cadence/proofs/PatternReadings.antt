-- Q16 compares the cells of two bars (`bar_reading`), and is settled by the second bar's last
-- column (`pattern_settles`).
use Rattle.std.specs.Prelude.{◌≡◌, ℕ, ◌+◌, ◌-◌, ◌%◌, ◌<◌, ◌≤◌, ◌==◌, Bool, true, false, not, ◌&&◌, nat_le, nat_lt, List, [], ◌∷◌, ◌++◌, if◌then◌else◌, length, drop, slice_index_or, refl}
use Rattle.std.specs.List.{list_all}
use Rattle.std.proofs.Common.{ap, sym, ◌∙◌, add-one, arith, drop-cons, subst}
use Rattle.std.proofs.Math.Seq.{get_or-drop}
use Rattle.std.proofs.lemmas.Bool.{and_parts, and_right, eq-eqb, eqb-true}
use Rattle.std.proofs.lemmas.Bool.Decides.{nat_tests}
use Rattle.std.proofs.lemmas.List.{length-drop}
use Rattle.fux_grid.specs.declared.cell.Cell.{Cell}
use Rattle.fux_grid.specs.declared.exercise.Exercise.{Exercise}
use Rattle.fux_grid.specs.Cells.{cell_in, same_cell}
use Rattle.fux_grid.specs.Columns.{cell_at, earlier}
use Rattle.fux_grid.specs.Exercises.{slot_of}
use Rattle.fux_grid.proofs.Histories.{get_or-earlier}
use Rattle.rule_law.proofs.AtOnce.{among_own, newly_costs-there}
use Rattle.rule_law.specs.Bars.{begins_bar, begins_inner_bar}
use Rattle.rule_law.specs.Places.{reading_of}
use Rattle.rule_law.specs.Rulebooks.{IsAmong, newly_costs}
use Rattle.rhythm_cadence.specs.Book.{inflection_row, ligature_row, pattern_row}
use Rattle.rhythm_cadence.specs.BarCells.{bar_behind}
use Rattle.rhythm_cadence.specs.Inflections.{inflection_toll}
use Rattle.rhythm_cadence.specs.Patterns.{missing_ligatures, pattern_toll, repeats_bar, repeats_slot, same_cells, settles_pattern}
use Rattle.rhythm_cadence.proofs.BookLaws.{pattern_newly}

module _ (s : List (List Cell)) (v i : ℕ) (second : 8 ≤ i) (whole : i + 8 ≤ length s) where
  columns : slice_index_or s i [] ∷ drop (i + 1) s ≡ drop i s
  columns = ap (λ k. slice_index_or s i [] ∷ drop k s) (add-one i) ∙ sym (drop-cons s i [] (omega (arith, whole)))

  slot_reading : (k a b : ℕ) → k ≤ 7 → a + 8 ≡ i + k → b ≡ i + k
      → repeats_slot v (earlier s i) (slice_index_or s i []) (drop (i + 1) s) k
      ≡ same_cell (cell_at s v a) (cell_at s v b)
  slot_reading k a b h e f =
      let far : i - 1 - (7 - k) ≡ a = omega (arith, e, second, h) in
      ap (λ c. same_cell (cell_in c v) (cell_in (slice_index_or (slice_index_or s i [] ∷ drop (i + 1) s) k []) v))
      (get_or-earlier s i (7 - k) (omega (arith, second)) (omega (arith, whole)) ∙ ap (λ n. slice_index_or s n []) far)
      ∙ ap (λ c. same_cell (cell_at s v a) (cell_in c v))
      (ap (λ cs. slice_index_or cs k []) columns ∙ get_or-drop i s k [] ∙ ap (λ n. slice_index_or s n []) (sym f))

  pub bar_reading : repeats_bar v (earlier s i) (slice_index_or s i []) (drop (i + 1) s)
      ≡ same_cells (bar_behind s v i) (bar_behind s v (i + 8))
  bar_reading =
      let seven : nat_le 7 (length (drop (i + 1) s))
      ≡ true = enough (length (drop (i + 1) s)) (omega (arith, whole, length-drop (i + 1) s)) in
      rw (
        seven,
        slot_reading 0 (i - 8) (i + 8 - 8) (omega arith) (omega (arith, second)) (omega arith),
        slot_reading 1 (i - 7) (i + 8 - 7) (omega arith) (omega (arith, second)) (omega arith),
        slot_reading 2 (i - 6) (i + 8 - 6) (omega arith) (omega (arith, second)) (omega arith),
        slot_reading 3 (i - 5) (i + 8 - 5) (omega arith) (omega (arith, second)) (omega arith),
        slot_reading 4 (i - 4) (i + 8 - 4) (omega arith) (omega (arith, second)) (omega arith),
        slot_reading 5 (i - 3) (i + 8 - 3) (omega arith) (omega (arith, second)) (omega arith),
        slot_reading 6 (i - 2) (i + 8 - 2) (omega arith) (omega (arith, second)) (omega arith),
        slot_reading 7 (i - 1) (i + 8 - 1) (omega arith) (omega (arith, second)) (omega arith),
      ) refl
    where
      enough : (n : ℕ) → 7 ≤ n → nat_le 7 n ≡ true
      enough n h = grind (arith, nat_tests)

  abbrev at_slot : ℕ → Bool
  at_slot = repeats_slot v (earlier s i) (slice_index_or s i []) (drop (i + 1) s)

  -- a bar whose first cell is another one repeats nothing
  pub first_differs : same_cell (cell_at s v (i - 8)) (cell_at s v i) ≡ false
      → repeats_bar v (earlier s i) (slice_index_or s i []) (drop (i + 1) s) ≡ false
  first_differs h =
      let first : at_slot 0 ≡ false = slot_reading 0 (i - 8) i (omega arith) (omega (arith, second)) (omega arith) ∙ h in
      and_right (nat_le 7 (length (drop (i + 1) s))) (list_all at_slot (0 ∷ 1 ∷ 2 ∷ 3 ∷ 4 ∷ 5 ∷ 6 ∷ 7 ∷ []))
      (ap (λ b. b && list_all at_slot (1 ∷ 2 ∷ 3 ∷ 4 ∷ 5 ∷ 6 ∷ 7 ∷ [])) first)

  -- and so does one in whose middle there is another cell
  pub middle_differs : same_cell (cell_at s v (i + 4 - 8)) (cell_at s v (i + 4)) ≡ false
      → repeats_bar v (earlier s i) (slice_index_or s i []) (drop (i + 1) s) ≡ false
  middle_differs h =
      let middle : at_slot 4 ≡ false = slot_reading 4 (i + 4 - 8) (i + 4) (omega arith) (omega (arith, second))
      (omega arith) ∙ h in
      and_right (nat_le 7 (length (drop (i + 1) s))) (list_all at_slot (0 ∷ 1 ∷ 2 ∷ 3 ∷ 4 ∷ 5 ∷ 6 ∷ 7 ∷ []))
      (and_right (at_slot 0) (list_all at_slot (1 ∷ 2 ∷ 3 ∷ 4 ∷ 5 ∷ 6 ∷ 7 ∷ []))
      (and_right (at_slot 1) (list_all at_slot (2 ∷ 3 ∷ 4 ∷ 5 ∷ 6 ∷ 7 ∷ []))
      (and_right (at_slot 2) (list_all at_slot (3 ∷ 4 ∷ 5 ∷ 6 ∷ 7 ∷ []))
      (and_right (at_slot 3) (list_all at_slot (4 ∷ 5 ∷ 6 ∷ 7 ∷ []))
      (ap (λ b. b && list_all at_slot (5 ∷ 6 ∷ 7 ∷ [])) middle)))))

-- a bar that isn't whole repeats nothing
pub part_reading : (s : List (List Cell)) (v i : ℕ) → length s < i + 8
    → repeats_bar v (earlier s i) (slice_index_or s i []) (drop (i + 1) s) ≡ false
part_reading s v i part =
    ap (λ b. b && list_all (repeats_slot v (earlier s i) (slice_index_or s i []) (drop (i + 1) s))
    (0 ∷ 1 ∷ 2 ∷ 3 ∷ 4 ∷ 5 ∷ 6 ∷ 7 ∷ []))
    (few (length (drop (i + 1) s)) (omega (arith, part, length-drop (i + 1) s)))
  where
    few : (n : ℕ) → n < 7 → nat_le 7 n ≡ false
    few n h = grind (arith, nat_tests, h)

-- where a bar begins, and where the newest column ends it
bar_facts : (n : ℕ) → settles_pattern n ≡ true → (begins_bar (n - 7) ≡ true) × (n - 7 + 7 ≡ n)
bar_facts n e =
    let both = and_parts (slot_of n == 7) (nat_le 15 n) e in
    let seven : n % 8 ≡ 7 = eqb-true (n % 8) 7 both.0 in
    let far : 15 ≤ n = grind (arith, nat_tests, both.1) in
    let zero : (n - 7) % 8 ≡ 0 = omega (arith, seven, far) in
    (eq-eqb ((n - 7) % 8) 0 zero, omega (arith, far))

-- at its place among the newest columns, eight before the end of the list, the last one settles Q16
pub pattern_settles : (ex : Exercise) (p : List (List Cell)) (col : List Cell) (i : ℕ)
    → IsAmong (length p - 7) (pattern_row.count ex (length p)) i
    → (i + 7 ≡ length p) × (newly_costs pattern_row ex p col i ≡ reading_of (pattern_toll ex) (p ++ col ∷ []) i)
pattern_settles ex p col i = at (settles_pattern (length p)) refl
  where
    within : (i n : ℕ) → i + 7 ≡ n → (nat_lt (i + 7) (n + 1) && not (nat_lt (i + 7) n)) ≡ true
    within i n e = grind (arith, nat_tests, e)

    at : (b : Bool) → settles_pattern (length p) ≡ b → IsAmong (length p - 7) (if b then 1 else 0) i
        → (i + 7 ≡ length p) × (newly_costs pattern_row ex p col i ≡ reading_of (pattern_toll ex) (p ++ col ∷ []) i)
    at false e a = absurd (omega (arith, a.from, a.to))
    at true e a =
        let here : i ≡ length p - 7 = omega (arith, a.from, a.to) in
        let facts = bar_facts (length p) e in
        let ends : i + 7 ≡ length p = omega (arith, facts.1, here) in
        let P : ℕ → Type 0 = λ n. begins_bar n ≡ true in (
          ends,
          ap (λ b. if b then reading_of (pattern_toll ex) (p ++ col ∷ []) i else 0)
              (pattern_newly ex p col i (subst P (sym here) facts.0) ∙ within i (length p) ends),
        )

-- Q15 is settled at once
pub ligature_settles : (ex : Exercise) (p : List (List Cell)) (col : List Cell) (i : ℕ)
    → IsAmong (length p) (ligature_row.count ex (length p)) i
    → (i ≡ length p)
    × (newly_costs ligature_row ex p col i ≡ missing_ligatures ex i (slice_index_or (p ++ col ∷ []) i []))
ligature_settles ex p col i among =
    let own : i ≡ length p = among_own (begins_inner_bar ex (length p)) i (length p) among in
    (own, newly_costs-there ligature_row ex (λ i behind now ahead. refl) p col i own)

-- and so is Q21
pub inflection_settles : (ex : Exercise) (p : List (List Cell)) (col : List Cell) (i : ℕ) → IsAmong (length p) 1 i
    → (i ≡ length p) × (newly_costs inflection_row ex p col i ≡ reading_of (inflection_toll ex) (p ++ col ∷ []) i)
inflection_settles ex p col i among =
    let own : i ≡ length p = among_own true i (length p) among in
    (own, newly_costs-there inflection_row ex (λ i behind now ahead. refl) p col i own)
