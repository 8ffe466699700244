-- A suspended voice is unprepared by the note's start just where it is by the three columns before
-- (`unprepared_same`).
use Rattle.std.specs.Prelude.{◌≡◌, ℕ, suc, ◌+◌, ◌-◌, ◌%◌, ◌≤◌, Bool, true, false, not, ◌&&◌, ◌||◌, nat_lt, List, [], ◌∷◌, None, length, slice_index_or, if◌then◌else◌, refl}
use Rattle.std.proofs.Common.{ap, sym, ◌∙◌, arith}
use Rattle.std.proofs.lemmas.Bool.{and_parts, eqb-true, lt-ltb}
use Rattle.std.proofs.lemmas.Bool.Decides.{nat_tests}
use Rattle.std.proofs.lemmas.List.{length-map}
use Rattle.fux_grid.specs.declared.cell.Cell.{Cell}
use Rattle.fux_grid.specs.declared.cell.Cell.TheVariants.{Rest, Hold, Start}
use Rattle.fux_grid.specs.Cells.{cell_in, first_of, is_hold, notes_from}
use Rattle.fux_grid.specs.Columns.{line, newest_column}
use Rattle.rule_law.specs.Bars.{begins_bar}
use Rattle.rule_law.specs.Sounding.{sounding_note, started_after}
use Rattle.rule_law.specs.Terms.{clash, is_clean, sounds, starts}
use Rattle.rule_law.proofs.AroundLemmas.{newest-first}
use Rattle.dissonance_rules.specs.Ligatures.{is_suspended, is_unprepared}

-- no note of so many cells starts after the column before the last one
none_after : (n h : ℕ) (cells : List Cell) → length cells ≤ n + 1
    → started_after n (first_of (notes_from h cells)) ≡ false
none_after n h [] b = refl
none_after n h (Rest ∷ cells) b = none_after n 0 cells (omega (arith, b))
none_after n h (Hold p ∷ cells) b = none_after n (suc h) cells (omega (arith, b))
none_after n h (Start p ∷ cells) b = not_below (length cells) (omega (arith, b))
  where
    not_below : (m : ℕ) → m ≤ n → nat_lt n m ≡ false
    not_below m k = grind (arith, nat_tests, k)

-- of a cell before them, and of two, and of three
module _ (n : ℕ) (rest : List Cell) (size : length rest ≡ n + 1) where
  third : (h : ℕ) (z : Cell) → started_after n (first_of (notes_from h (z ∷ rest))) ≡ starts z
  third h Rest = none_after n 0 rest (omega (arith, size))
  third h (Hold p) = none_after n (suc h) rest (omega (arith, size))
  third h (Start p) = lt-ltb n (length rest) (omega (arith, size))

  second : (h : ℕ) (y z : Cell) → started_after n (first_of (notes_from h (y ∷ z ∷ rest))) ≡ (starts y || starts z)
  second h Rest z = third 0 z
  second h (Hold p) z = third (suc h) z
  second h (Start p) z = lt-ltb n (suc (length rest)) (omega (arith, size))

  first : (h : ℕ) (x y z : Cell)
      → started_after n (first_of (notes_from h (x ∷ y ∷ z ∷ rest))) ≡ (starts x || (starts y || starts z))
  first h Rest y z = second 0 y z
  first h (Hold p) y z = second (suc h) y z
  first h (Start p) y z = lt-ltb n (suc (suc (length rest))) (omega (arith, size))

-- a held note is that of the line behind
held_note : (c : Cell) (cells : List Cell) → is_hold c ≡ true
    → (if sounds c then first_of (notes_from 0 (c ∷ cells)) else None) ≡ first_of (notes_from 1 cells)
held_note Rest cells h = cc
held_note (Hold p) cells h = refl
held_note (Start p) cells h = cc

regroup : (a b c d : Bool) → (a || b || c || d) ≡ ((a || (b || c)) || d)
regroup true b c d = refl
regroup false true c d = refl
regroup false false true d = refl
regroup false false false d = refl

-- the columns before the beginning of a bar are none, or eight at least
started_same : (v i : ℕ) (behind : List (List Cell)) → length behind ≡ i → i % 8 ≡ 0
    → started_after (i - 4) (first_of (notes_from 1 (line v behind)))
    ≡ (starts (cell_in (slice_index_or behind 0 []) v)
    || (starts (cell_in (slice_index_or behind 1 []) v) || starts (cell_in (slice_index_or behind 2 []) v)))
started_same v i [] e slot = refl
started_same v i (a ∷ []) e slot = absurd (omega (arith, e, slot))
started_same v i (a ∷ b ∷ []) e slot = absurd (omega (arith, e, slot))
started_same v i (a ∷ b ∷ c ∷ rest) e slot =
    let same : length (line v rest) ≡ length rest = length-map rest (λ col. cell_in col v) in
    first (i - 4) (line v rest) (omega (arith, same, e, slot)) 1 (cell_in a v) (cell_in b v) (cell_in c v)

pub unprepared_same : (i v w : ℕ) (behind : List (List Cell)) (now : List Cell) → length behind ≡ i
    → is_suspended i now v w ≡ true
    → is_unprepared (slice_index_or behind 0 []) (slice_index_or behind 1 []) (slice_index_or behind 2 []) v
    ≡ (started_after (i - 4) (sounding_note v (now ∷ behind)) || not (is_clean (newest_column behind) v))
unprepared_same i v w behind now e suspended =
    let held = (and_parts (begins_bar i && is_hold (cell_in now v)) (clash now v w) suspended).0 in
    let parts = and_parts (begins_bar i) (is_hold (cell_in now v)) held in
    let slot : i % 8 ≡ 0 = eqb-true (i % 8) 0 parts.0 in
    regroup (starts (cell_in (slice_index_or behind 0 []) v)) (starts (cell_in (slice_index_or behind 1 []) v))
    (starts (cell_in (slice_index_or behind 2 []) v)) (not (is_clean (slice_index_or behind 0 []) v))
    ∙ ap (λ b. b || not (is_clean (slice_index_or behind 0 []) v))
    (sym (ap (started_after (i - 4)) (held_note (cell_in now v) (line v behind) parts.1)
    ∙ started_same v i behind e slot))
    ∙ ap (λ col. started_after (i - 4) (sounding_note v (now ∷ behind)) || not (is_clean col v))
    (sym (newest-first behind))
