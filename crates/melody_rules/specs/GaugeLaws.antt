-- From a prefix of a setting to a longer one no gauge's least value falls, and in a setting it is
-- the gauge's value.
use Rattle.std.specs.Prelude.{◌≡◌, ℕ, zero, suc, ◌+◌, ◌-◌, ◌*◌, ◌<◌, ◌≤◌, ◌==◌, ℤ, ◌≤ℤ◌, int_le, Bool, true, false, not, cond, ◌&&◌, ◌||◌, List, ◌∷◌, length, Option, Some, None, if◌then◌else◌, refl}
use Rattle.std.specs.Int.{from_bool, int_max}
use Rattle.std.specs.List.{AllByRecursion, list_all, range_with_len}
use Rattle.std.specs.Option.{option_map_or}
use Rattle.std.specs.Ordering.{int_eq}
use Rattle.std.proofs.Common.{ap, sym, ◌∙◌, subst, arith}
use Rattle.std.proofs.lemmas.Bool.{and_parts}
use Rattle.std.proofs.lemmas.Bool.Decides.{nat_tests}
use Rattle.std.proofs.lemmas.Int.{ints, clamps}
use Rattle.std.proofs.lemmas.List.Sums.{sum_by-cons}
use Rattle.fux_pitch.specs.declared.pitch.Pitch.{Pitch}
use Rattle.fux_pitch.specs.Pitch.{key_of}
use Rattle.fux_grid.specs.declared.cell.Cell.{Cell}
use Rattle.fux_grid.specs.declared.cell.Cell.TheVariants.{Rest, Hold, Start}
use Rattle.fux_grid.specs.declared.exercise.Exercise.{Exercise}
use Rattle.fux_grid.specs.Cells.{cell_in}
use Rattle.fux_grid.specs.Exercises.{bar_of, columns_in}
use Rattle.fux_grid.specs.Menus.{is_between, range_of}
use Rattle.rule_law.specs.Gauges.{EndsAtValue, IsNextCell, LeastValue, LineValue, NeverFalls, menu_starts, starts_ahead, KeepsGaugeLaws}
use Rattle.rule_law.specs.Terms.{starts}
use Rattle.rule_law.proofs.NextPitch.{next_in_range}
use Rattle.rule_law.proofs.MenuStarts.{any_from, starts_ahead-more, starts_ahead-none}
use Rattle.melody_rules.specs.ClimaxKeys.{climax_is, least_by_key, least_is}
use Rattle.melody_rules.specs.Gauges.{beyond_fourth, climax_least, climax_value, compass_least, compass_value, is_at_top, is_final_climax, is_narrow, is_topped, leaps_in, leaps_least, leaps_value, moves_in, notes_at, strikes_least, strikes_value, climax_gauge, compass_gauge, leaps_gauge, strikes_gauge, gauges}
use Rattle.melody_rules.specs.Held.{pitches-hold}
use Rattle.melody_rules.specs.Keys.{greatest_key}
use Rattle.melody_rules.specs.Rows.{pitches}

-- a start of the next cell is one that the menu has
next_starts : (ex : Exercise) (v : ℕ) (cells col : List Cell) (p : Pitch) → IsNextCell ex v cells col → cell_in col v
    ≡ Start p → menu_starts ex v (length cells) ≡ true
next_starts ex v cells col p next e = any_from (λ c. starts (cell_in c v)) _ col next.in_menu (ap starts e)

next_place : (i : ℕ) → i + 1 ≡ suc i
next_place i = omega arith

-- with it one start less is ahead
fewer_ahead : (ex : Exercise) (v : ℕ) (cells col : List Cell) (p : Pitch) → IsNextCell ex v cells col → cell_in col v
    ≡ Start p → starts_ahead ex v (length cells) ≡ suc (starts_ahead ex v (suc (length cells)))
fewer_ahead ex v cells col p next e =
    starts_ahead-more ex v (length cells) next.room
    ∙ ap (λ b. cond b 1 0 + starts_ahead ex v (length cells + 1)) (next_starts ex v cells col p next e)
    ∙ ap (λ n. 1 + starts_ahead ex v n) (next_place (length cells))
    ∙ one_and (starts_ahead ex v (suc (length cells)))
  where
    one_and : (n : ℕ) → 1 + n ≡ suc n
    one_and n = omega arith

no_more_ahead : (ex : Exercise) (v i : ℕ) → i < columns_in ex → starts_ahead ex v (suc i) ≤ starts_ahead ex v i
no_more_ahead ex v i h =
    let P : ℕ → Type 0 = λ n. starts_ahead ex v n ≤ starts_ahead ex v i in
    let less : starts_ahead ex v (i + 1) ≤ starts_ahead ex v i = omega (arith, starts_ahead-more ex v i h) in
    subst P (next_place i) less

one_more : (ex : Exercise) (i : ℕ) → i < columns_in ex → columns_in ex - i ≡ suc (columns_in ex - (i + 1))
one_more ex i h = omega (arith, h)

not_zero : (n : ℕ) → (suc n == 0) ≡ false
not_zero n = grind (arith, nat_tests)

-- a held cell and a rest leave the pitches as they are
same_pitches : (c : Cell) (cells : List Cell) → starts c ≡ false → pitches (c ∷ cells) ≡ pitches cells
same_pitches Rest cells e = refl
same_pitches (Hold p) cells e = pitches-hold p cells
same_pitches (Start p) cells e = cc

-- Q19
leaps_cell : (ex : Exercise) (v : ℕ) (cells col : List Cell) (c : Cell) → cell_in col v ≡ c → IsNextCell ex v cells col
    → leaps_least ex v cells ≤ leaps_least ex v (c ∷ cells)
leaps_cell ex v cells col c e next = at c refl
  where
    fewer : starts_ahead ex v (suc (length cells)) ≤ starts_ahead ex v (length cells)
    fewer = no_more_ahead ex v (length cells) next.room

    unmoved : (d : Cell) → starts d ≡ false → leaps_least ex v cells ≤ leaps_least ex v (d ∷ cells)
    unmoved d k =
        let moves : 3 * leaps_in (pitches (d ∷ cells)) - moves_in (pitches (d ∷ cells))
        ≡ 3 * leaps_in (pitches cells) - moves_in (pitches cells) = ap (λ ps. 3 * leaps_in ps - moves_in ps)
        (same_pitches d cells k) in
        omega (arith, moves, fewer)

    at : (d : Cell) → c ≡ d → leaps_least ex v cells ≤ leaps_least ex v (d ∷ cells)
    at Rest k = unmoved Rest refl
    at (Hold p) k = unmoved (Hold p) refl
    at (Start p) k =
        let ahead : starts_ahead ex v (length cells)
        ≡ suc (starts_ahead ex v (suc (length cells))) = fewer_ahead ex v cells col p next (e ∙ k) in
        omega (arith, ahead)

pub leaps_grow : NeverFalls leaps_least
leaps_grow ex v cells col next = leaps_cell ex v cells col (cell_in col v) refl next

pub leaps_end : EndsAtValue leaps_least leaps_value
leaps_end ex v cells whole = omega (arith, starts_ahead-none ex v (length cells) whole)

-- Q18: a value so far, where nothing is ahead
so_far : (n m x y : ℕ) → m ≤ n → x ≡ y → (if n == 0 then x else 0) ≤ (if m == 0 then y else 0)
so_far zero zero x y h e = omega (arith, e)
so_far zero (suc m) x y h e = absurd (omega (arith, h))
so_far (suc n) m x y h e = rw (not_zero n) (omega arith)

nothing_so_far : (n x y : ℕ) → (if suc n == 0 then x else 0) ≤ y
nothing_so_far n x y = rw (not_zero n) (omega arith)

compass_cell : (ex : Exercise) (v : ℕ) (cells col : List Cell) (c : Cell) → cell_in col v ≡ c
    → IsNextCell ex v cells col → compass_least ex v cells ≤ compass_least ex v (c ∷ cells)
compass_cell ex v cells col c e next = at c refl
  where
    fewer : starts_ahead ex v (suc (length cells)) ≤ starts_ahead ex v (length cells)
    fewer = no_more_ahead ex v (length cells) next.room

    unmoved : (d : Cell) → starts d ≡ false → compass_least ex v cells ≤ compass_least ex v (d ∷ cells)
    unmoved d k =
        so_far (starts_ahead ex v (length cells)) (starts_ahead ex v (suc (length cells))) (compass_value cells)
        (compass_value (d ∷ cells)) fewer
        (sym (ap (λ ps. from_bool (is_narrow ps)) (same_pitches d cells k)))

    at : (d : Cell) → c ≡ d → compass_least ex v cells ≤ compass_least ex v (d ∷ cells)
    at Rest k = unmoved Rest refl
    at (Hold p) k = unmoved (Hold p) refl
    at (Start p) k =
        let P : ℕ → Type 0 = λ n. (if n == 0 then compass_value cells else 0) ≤ compass_least ex v (Start p ∷ cells) in
        subst P (sym (fewer_ahead ex v cells col p next (e ∙ k)))
        (nothing_so_far (starts_ahead ex v (suc (length cells))) (compass_value cells)
        (compass_least ex v (Start p ∷ cells)))

pub compass_grows : NeverFalls compass_least
compass_grows ex v cells col next = compass_cell ex v cells col (cell_in col v) refl next

pub compass_ends : EndsAtValue compass_least compass_value
compass_ends ex v cells whole =
    ap (λ n. if n == 0 then compass_value cells else 0) (starts_ahead-none ex v (length cells) whole)

-- Q20
strikes_cell : (c : Cell) (cells : List Cell) → strikes_value cells ≤ strikes_value (c ∷ cells)
strikes_cell Rest cells = omega arith
strikes_cell (Hold p) cells = omega (arith, ap beyond_fourth (pitches-hold p cells))
strikes_cell (Start p) cells = omega arith

pub strikes_grow : NeverFalls strikes_least
strikes_grow ex v cells col next = strikes_cell (cell_in col v) cells

pub strikes_end : EndsAtValue strikes_least strikes_value
strikes_end ex v cells whole = refl

-- Q17: each column from one on is topped where that one is, and each from the next one on
pub final_more : (ex : Exercise) (v i : ℕ) (key : ℤ) → i < columns_in ex → is_final_climax ex v i key
    ≡ (is_topped ex v key i && is_final_climax ex v (i + 1) key)
final_more ex v i key h = ap (λ n. list_all (is_topped ex v key) (range_with_len i n)) (one_more ex i h)

pub final_none : (ex : Exercise) (v i : ℕ) (key : ℤ) → i ≡ columns_in ex → is_final_climax ex v i key ≡ true
final_none ex v i key h =
    let none : columns_in ex - i ≡ 0 = omega (arith, h) in
    ap (λ n. list_all (is_topped ex v key) (range_with_len i n)) none

final_parts : (ex : Exercise) (v i : ℕ) (key : ℤ) → i < columns_in ex → is_final_climax ex v i key ≡ true
    → (is_topped ex v key i ≡ true) × (is_final_climax ex v (i + 1) key ≡ true)
final_parts ex v i key h e =
    and_parts (is_topped ex v key i) (is_final_climax ex v (i + 1) key) (sym (final_more ex v i key h) ∙ e)

final_later : (ex : Exercise) (v i : ℕ) (key : ℤ) → i < columns_in ex → is_final_climax ex v i key ≡ true
    → is_final_climax ex v (suc i) key ≡ true
final_later ex v i key h e = sym (ap (λ n. is_final_climax ex v n key) (next_place i)) ∙ (final_parts ex v i key h e).1

-- a pitch within a range whose high end the key reaches isn't above the key
below_top : (key : ℤ) (ends : Option (Pitch × Pitch)) (p : Pitch) → is_at_top key ends ≡ true
    → option_map_or (λ e. is_between e.0 e.1 p) ends false ≡ true → key_of p ≤ℤ key
below_top key None p h k = cc
below_top key (Some ends) p h k =
    let high : key_of p ≤ℤ key_of ends.1 = grind
    (arith, ints, and_parts (int_le (key_of ends.0) (key_of p)) (int_le (key_of p) (key_of ends.1)) k) in
    let top : key_of ends.1 ≤ℤ key = grind (arith, ints, h) in
    omega (arith, ints, high, top)

topped : (b t : Bool) → b ≡ true → (not b || t) ≡ true → t ≡ true
topped true t e h = h
topped false t e h = cc

-- a greatest key that isn't passed stays the greatest
pub max_keeps : (k g : ℤ) → k ≤ℤ g → int_max k g ≡ g
max_keeps k g h = omega (arith, ints, clamps, h)

repeats_more : (key : ℤ) (p : Pitch) (ps : List Pitch) → notes_at key ps ≤ notes_at key (p ∷ ps)
repeats_more key p ps = omega (arith, sum_by-cons (λ q. cond (int_eq (key_of q) key) 1 0) p ps)

if_true : (b : Bool) (x : ℕ) → b ≡ true → x ≤ (if b then x else 0)
if_true true x e = omega arith
if_true false x e = cc

if_less : (b : Bool) (x y : ℕ) → (b ≡ true → x ≤ y) → (if b then x else 0) ≤ y
if_less true x y f = f refl
if_less false x y f = omega arith

-- the value and the least value by the greatest key
abbrev value_by_key : LineValue
value_by_key cells = notes_at (greatest_key (pitches cells)) (pitches cells) - 1

abbrev by_key : LeastValue
by_key ex v cells = least_by_key ex v (length cells) (pitches cells)

climax_start : (ex : Exercise) (v : ℕ) (cells col : List Cell) (p : Pitch) → cell_in col v ≡ Start p
    → IsNextCell ex v cells col → by_key ex v cells ≤ by_key ex v (Start p ∷ cells)
climax_start ex v cells col p e next =
    let i : ℕ = length cells in
    let key : ℤ = greatest_key (pitches cells) in
    if_less (is_final_climax ex v i key) (value_by_key cells) (by_key ex v (Start p ∷ cells)) (λ final.
    let top = topped (menu_starts ex v i) (is_at_top key (range_of ex v (bar_of i)))
    (next_starts ex v cells col p next e) (final_parts ex v i key next.room final).0 in
    let same : greatest_key (p ∷ pitches cells)
    ≡ key = max_keeps (key_of p) key (below_top key (range_of ex v (bar_of i)) p top
    (next_in_range ex v cells col p next e)) in
    let P : ℤ → Type 0 = λ k. value_by_key cells ≤
    (if is_final_climax ex v (suc i) k then notes_at k (p ∷ pitches cells) - 1 else 0) in
    subst P (sym same) (grown (final_later ex v i key next.room final)))
  where
    grown : is_final_climax ex v (suc (length cells)) (greatest_key (pitches cells)) ≡ true
        → value_by_key cells ≤ (if is_final_climax ex v (suc (length cells)) (greatest_key (pitches cells))
        then notes_at (greatest_key (pitches cells)) (p ∷ pitches cells) - 1 else 0)
    grown final =
        omega (
          arith,
          repeats_more (greatest_key (pitches cells)) p (pitches cells),
          if_true (is_final_climax ex v (suc (length cells)) (greatest_key (pitches cells)))
              (notes_at (greatest_key (pitches cells)) (p ∷ pitches cells) - 1) final,
        )

climax_other : (ex : Exercise) (v : ℕ) (cells : List Cell) (c : Cell) → starts c ≡ false → length cells < columns_in ex
    → by_key ex v cells ≤ by_key ex v (c ∷ cells)
climax_other ex v cells c k room =
    let P : List Pitch → Type 0 = λ ps. by_key ex v cells ≤
    (if is_final_climax ex v (suc (length cells)) (greatest_key ps) then notes_at (greatest_key ps) ps - 1 else 0)
    in
    subst P (sym (same_pitches c cells k))
    (if_less (is_final_climax ex v (length cells) (greatest_key (pitches cells))) (value_by_key cells) _ (λ final.
    if_true (is_final_climax ex v (suc (length cells)) (greatest_key (pitches cells))) (value_by_key cells)
    (final_later ex v (length cells) (greatest_key (pitches cells)) room final)))

climax_cell : (ex : Exercise) (v : ℕ) (cells col : List Cell) (c : Cell) → cell_in col v ≡ c → IsNextCell ex v cells col
    → by_key ex v cells ≤ by_key ex v (c ∷ cells)
climax_cell ex v cells col Rest e next = climax_other ex v cells Rest refl next.room
climax_cell ex v cells col (Hold p) e next = climax_other ex v cells (Hold p) refl next.room
climax_cell ex v cells col (Start p) e next = climax_start ex v cells col p e next

by_key_grows : NeverFalls by_key
by_key_grows ex v cells col next = climax_cell ex v cells col (cell_in col v) refl next

pub climax_grows : NeverFalls climax_least
climax_grows ex v cells col next =
    omega (arith, least_is ex v cells, least_is ex v (cell_in col v ∷ cells), by_key_grows ex v cells col next)

pub climax_ends : EndsAtValue climax_least climax_value
climax_ends ex v cells whole =
    least_is ex v cells
    ∙ ap (λ b. if b then value_by_key cells else 0)
    (final_none ex v (length cells) (greatest_key (pitches cells)) whole)
    ∙ ap (λ n. n - 1) (sym (climax_is (pitches cells)))

-- ---- what is owed of the gauges

pub climax_keeps : KeepsGaugeLaws climax_gauge
climax_keeps = record { grows = climax_grows; ends = climax_ends }

pub compass_keeps : KeepsGaugeLaws compass_gauge
compass_keeps = record { grows = compass_grows; ends = compass_ends }

pub leaps_keeps : KeepsGaugeLaws leaps_gauge
leaps_keeps = record { grows = leaps_grow; ends = leaps_end }

pub strikes_keeps : KeepsGaugeLaws strikes_gauge
strikes_keeps = record { grows = strikes_grow; ends = strikes_end }

pub gauges_keep : AllByRecursion KeepsGaugeLaws gauges
gauges_keep = (climax_keeps, (compass_keeps, (leaps_keeps, (strikes_keeps, tt))))
