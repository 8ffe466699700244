-- The menu has a start of a voice exactly where some column of it starts a note there.
use Rattle.std.specs.Prelude.{◌≡◌, ℕ, suc, ◌+◌, ◌-◌, ◌<◌, ◌≤◌, Bool, true, false, cond, ◌||◌, List, [], ◌∷◌, Contains, count_by, refl}
use Rattle.std.specs.Int.{from_bool}
use Rattle.std.specs.List.{list_any, range_with_len}
use Rattle.std.proofs.Common.{◌∙◌, ap, inl, inr, sym, arith}
use Rattle.std.proofs.lemmas.Bool.{or_left, or_right}
use Rattle.std.proofs.lemmas.List.Elements.{Contains-append_right}
use Rattle.std.proofs.lemmas.List.Sums.{sum_by-cons}
use Rattle.fux_grid.specs.declared.cell.Cell.{Cell}
use Rattle.fux_grid.specs.declared.cell.Cell.TheVariants.{Rest, Hold, Start}
use Rattle.fux_grid.specs.declared.exercise.Exercise.{Exercise}
use Rattle.fux_grid.specs.Cells.{cell_in}
use Rattle.fux_grid.specs.Exercises.{columns_in}
use Rattle.fux_grid.specs.Menus.{CanStart, IsStart, menu_of}
use Rattle.fux_grid.proofs.Combinations.{Contains-cons_cases}
use Rattle.rule_law.specs.Gauges.{menu_starts, starts_ahead}
use Rattle.rule_law.specs.Terms.{starts}

-- what one of a list passes, some of it do
pub any_from : {X : Type 0} (test : X → Bool) (xs : List X) (x : X) → Contains xs x → test x ≡ true → list_any test xs
    ≡ true
any_from test [] x h e = absurd (omega (arith, h.1))
any_from test (y ∷ xs) x h e =
    elim (Contains-cons_cases y xs x h) [
      | inl same ↦ or_left (test y) (list_any test xs) (ap test same ∙ e)
      | inr more ↦ or_right (test y) (list_any test xs) (any_from test xs x more e)
    ]

-- and the other way round
pub any_only : {X : Type 0} (test : X → Bool) (xs : List X) → list_any test xs ≡ true → (x : X) × Contains xs x
    × (test x ≡ true)
any_only test [] h = cc
any_only {X = X} test (y ∷ xs) h = pick (test y) refl h (any_only test xs)
  where
    pick : (b : Bool) → test y ≡ b → (b || list_any test xs) ≡ true
        → (list_any test xs ≡ true → (x : X) × Contains xs x × (test x ≡ true)) → (x : X) × Contains (y ∷ xs) x
        × (test x ≡ true)
    pick true e k f = (y, (0, omega arith, refl), e)
    pick false e k f = let found = f k in (found.0, Contains-append_right (y ∷ []) xs found.0 found.1, found.2)

start_from : (c : Cell) → starts c ≡ true → IsStart c
start_from Rest e = cc
start_from (Hold p) e = cc
start_from (Start p) e = tt

start_only : (c : Cell) → IsStart c → starts c ≡ true
start_only Rest e = absurd e
start_only (Hold p) e = absurd e
start_only (Start p) e = refl

pub menu_starts-from : (ex : Exercise) (v i : ℕ) → CanStart ex v i → menu_starts ex v i ≡ true
menu_starts-from ex v i h =
    any_from (λ col. starts (cell_in col v)) (menu_of ex i) h.0 h.1 (start_only (cell_in h.0 v) h.2)

pub menu_starts-only : (ex : Exercise) (v i : ℕ) → menu_starts ex v i ≡ true → CanStart ex v i
menu_starts-only ex v i e =
    let found = any_only (λ col. starts (cell_in col v)) (menu_of ex i) e in
    (found.0, found.1, start_from (cell_in found.0 v) found.2)

-- two tests that are true together are one
pub same_truth : (a b : Bool) → (a ≡ true → b ≡ true) → (b ≡ true → a ≡ true) → a ≡ b
same_truth true b f g = sym (f refl)
same_truth false true f g = g refl
same_truth false false f g = refl

-- of the columns from one on, the first is that one
pub starts_ahead-more : (ex : Exercise) (v i : ℕ) → i < columns_in ex → starts_ahead ex v i
    ≡ cond (menu_starts ex v i) 1 0 + starts_ahead ex v (i + 1)
starts_ahead-more ex v i h =
    let e : columns_in ex - i ≡ suc (columns_in ex - (i + 1)) = omega (arith, h) in
    ap (λ n. count_by (menu_starts ex v) (range_with_len i n)) e
    ∙ sum_by-cons (λ k. cond (menu_starts ex v k) 1 0) i (range_with_len (i + 1) (columns_in ex - (i + 1)))

pub starts_ahead-none : (ex : Exercise) (v i : ℕ) → i ≡ columns_in ex → starts_ahead ex v i ≡ 0
starts_ahead-none ex v i h =
    let e : columns_in ex - i ≡ 0 = omega (arith, h) in
    ap (λ n. count_by (menu_starts ex v) (range_with_len i n)) e

-- a test as a number
pub as_number : (b : Bool) → from_bool b ≡ cond b 1 0
as_number true = refl
as_number false = refl

pub as_number-bound : (b : Bool) → from_bool b ≤ 1
as_number-bound true = omega arith
as_number-bound false = omega arith
