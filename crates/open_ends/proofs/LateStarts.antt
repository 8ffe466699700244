-- At the beginning of a bar, a late start tells whether a note started in one of the three columns
-- before it (`late-at_bar`).
use Rattle.std.specs.Prelude.{◌≡◌, ℕ, suc, ◌%◌, ◌&&◌, ◌||◌, Bool, true, false, nat_lt, List, [], ◌∷◌, length, slice_index_or, refl}
use Rattle.std.proofs.Common.{arith}
use Rattle.std.proofs.lemmas.Bool.{eqb-true}
use Rattle.std.proofs.lemmas.Bool.Decides.{nat_tests}
use Rattle.fux_grid.specs.declared.cell.Cell.{Cell}
use Rattle.fux_grid.specs.Cells.{cell_in}
use Rattle.rule_law.specs.Bars.{begins_bar}
use Rattle.rule_law.specs.Terms.{starts}
use Rattle.open_ends.specs.Suspended.{starts_late_in}

-- of three late columns behind one that isn't
three_late : (a b c d x y z more unclean : Bool) → a ≡ true → b ≡ true → c ≡ true → d ≡ false
    → ((a && (x || (b && (y || (c && (z || (d && more))))))) || unclean) ≡ (x || y || z || unclean)
three_late a b c d true y z more unclean e f g h = rw e refl
three_late a b c d false true z more unclean e f g h = rw (e, f) refl
three_late a b c d false false true more unclean e f g h = rw (e, f, g) refl
three_late a b c d false false false more unclean e f g h = rw (e, f, g, h) refl

pub late-at_bar : (v : ℕ) (behind : List (List Cell)) (unclean : Bool) → begins_bar (length behind) ≡ true
    → (starts_late_in behind v || unclean)
    ≡ (starts (cell_in (slice_index_or behind 0 []) v)
    || starts (cell_in (slice_index_or behind 1 []) v)
    || starts (cell_in (slice_index_or behind 2 []) v)
    || unclean)
late-at_bar v [] unclean bar = refl
late-at_bar v (a ∷ []) unclean bar = cc
late-at_bar v (a ∷ b ∷ []) unclean bar = cc
late-at_bar v (a ∷ b ∷ c ∷ []) unclean bar = cc
late-at_bar v (a ∷ b ∷ c ∷ d ∷ behind) unclean bar =
    let slot : suc (suc (suc (suc (length behind)))) % 8 ≡ 0 =
    eqb-true (suc (suc (suc (suc (length behind)))) % 8) 0 bar in
    three_late (nat_lt 4 (suc (suc (suc (length behind))) % 8)) (nat_lt 4 (suc (suc (length behind)) % 8))
    (nat_lt 4 (suc (length behind) % 8)) (nat_lt 4 (length behind % 8)) (starts (cell_in a v)) (starts (cell_in b v))
    (starts (cell_in c v)) (starts (cell_in d v) || starts_late_in behind v) unclean (seventh (length behind) slot)
    (sixth (length behind) slot) (fifth (length behind) slot) (fourth (length behind) slot)
  where
    seventh : (n : ℕ) → suc (suc (suc (suc n))) % 8 ≡ 0 → nat_lt 4 (suc (suc (suc n)) % 8) ≡ true
    seventh n e = grind (arith, nat_tests, e)

    sixth : (n : ℕ) → suc (suc (suc (suc n))) % 8 ≡ 0 → nat_lt 4 (suc (suc n) % 8) ≡ true
    sixth n e = grind (arith, nat_tests, e)

    fifth : (n : ℕ) → suc (suc (suc (suc n))) % 8 ≡ 0 → nat_lt 4 (suc n % 8) ≡ true
    fifth n e = grind (arith, nat_tests, e)

    fourth : (n : ℕ) → suc (suc (suc (suc n))) % 8 ≡ 0 → nat_lt 4 (n % 8) ≡ false
    fourth n e = grind (arith, nat_tests, e)
