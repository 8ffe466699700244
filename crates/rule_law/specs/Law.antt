-- A row that what comes later does not disturb is read locally.
use Rattle.std.specs.Prelude.{◌≡◌, ℕ, ◌+◌, ◌<◌, Bool, true, false, ◌&&◌, ◌||◌, List, [], ◌∷◌, ◌++◌, IsTrue, nat_lt, length, drop, reverse, slice_index_or, refl}
use Rattle.std.proofs.Common.{ap, ◌∙◌, arith}
use Rattle.std.proofs.Math.ListN.{get_or-append}
use Rattle.std.proofs.Math.Seq.{get_or-append_seam}
use Rattle.std.proofs.lemmas.List.{drop-append-le, drop_all, length-append}
use Rattle.std.proofs.lemmas.Bool.{and_from, or_left, or_right}
use Rattle.std.proofs.lemmas.Bool.Decides.{nat_tests}
use Rattle.fux_grid.specs.declared.cell.Cell.{Cell}
use Rattle.fux_grid.specs.declared.exercise.Exercise.{Exercise}
use Rattle.fux_grid.specs.Columns.{earlier}
use Rattle.fux_grid.proofs.Histories.{earlier-all, earlier-append}
use Rattle.rule_law.specs.Places.{Row, IsLocal, IsUndisturbed, SettlesAtEnd, reading_of, settled_by, at_once}

pub first_true : (a b : Bool) → IsTrue (a && b) → IsTrue a
first_true true b h = refl
first_true false b h = h

pub second_true : (a b : Bool) → IsTrue (a && b) → IsTrue b
second_true true b h = h
second_true false b h = cc

pub or_each : (a b c d : Bool) → (a ≡ true → c ≡ true) → (b ≡ true → d ≡ true) → (a || b) ≡ true → (c || d) ≡ true
or_each true b c d f g h = or_left c d (f refl)
or_each false b c d f g h = or_right c d (g h)

pub below_from_test : (i n : ℕ) → IsTrue (nat_lt i n) → i < n
below_from_test i n h = grind (arith, nat_tests)

pub test_from_below : (i n : ℕ) → i < n → IsTrue (nat_lt i n)
test_from_below i n h = grind (arith, nat_tests)

-- at a place of a prefix, a longer list has the same columns before it and at it, and after it the
-- prefix's and more
pub reading-append : {R : Type 0} (row : Row R) (p t : List (List Cell)) (i : ℕ) → i < length p
    → reading_of row (p ++ t) i ≡ row i (earlier p i) (slice_index_or p i []) (drop (i + 1) p ++ t)
reading-append row p t i h =
    ap (λ b. row i b (slice_index_or (p ++ t) i []) (drop (i + 1) (p ++ t))) (earlier-append p t i (omega arith))
    ∙ ap (λ c. row i (earlier p i) c (drop (i + 1) (p ++ t))) (get_or-append p t [] i h)
    ∙ ap (λ a. row i (earlier p i) (slice_index_or p i []) a) (drop-append-le (i + 1) p t (omega arith))

-- where nothing later disturbs a row, its settled readings stay in every list
pub reads_on : {R : Type 0} (row : Row R) (enough : Row Bool) → IsUndisturbed row enough
    → (p t : List (List Cell)) (i : ℕ) → IsTrue (settled_by enough p i) → reading_of row (p ++ t) i ≡ reading_of row p i
reads_on row enough u p t i settled =
    let here : i < length p = below_from_test i (length p)
    (first_true (nat_lt i (length p)) (reading_of enough p i) settled) in
    reading-append row p t i here
    ∙ u i (earlier p i) (slice_index_or p i []) (drop (i + 1) p) t
    (second_true (nat_lt i (length p)) (reading_of enough p i) settled)

pub local_from_row : {R : Type 0} (ex : Exercise) (row : Row R) (enough : Row Bool) → IsUndisturbed row enough
    → IsLocal ex (reading_of row) (settled_by enough)
local_from_row ex row enough u p t i on settled = reads_on row enough u p t i settled

-- what is settled at once is settled in every list that has the place
pub at_once_settles : (ex : Exercise) → SettlesAtEnd ex (settled_by at_once)
at_once_settles ex s i whole here = and_from (nat_lt i (length s)) true (test_from_below i (length s) here) refl

drop-at_end : (p : List (List Cell)) (next : List Cell) → drop (length p + 1) (p ++ next ∷ []) ≡ []
drop-at_end p next = drop_all (length p + 1) (p ++ next ∷ []) (omega (arith, length-append p (next ∷ [])))

-- at its last place a list has all the columns before it behind, and none ahead
pub reading-at_end : {R : Type 0} (row : Row R) (p : List (List Cell)) (next : List Cell)
    → reading_of row (p ++ next ∷ []) (length p) ≡ row (length p) (reverse p) next []
reading-at_end row p next =
    ap (λ b. row (length p) b (slice_index_or (p ++ next ∷ []) (length p) []) (drop (length p + 1) (p ++ next ∷ [])))
    (earlier-append p (next ∷ []) (length p) (omega arith) ∙ earlier-all p (length p) (omega arith))
    ∙ ap (λ c. row (length p) (reverse p) c (drop (length p + 1) (p ++ next ∷ []))) (get_or-append_seam p next [] [])
    ∙ ap (λ a. row (length p) (reverse p) next a) (drop-at_end p next)
