-- The cells that a voice may have: which, how many, and in which order.
use Rattle.std.proofs.Common.{◌≡◌, ◌≢◌, inl, inr, ℕ, ◌+◌, ◌/◌, ◌<◌, ◌≤◌, ℤ, ◌<ℤ◌, Bool, true, false, cond, List, [], ◌∷◌, ◌++◌, IsTrue, filter, length, get_or, map, Option, Some, None, option_map, slice_get, refl, ap, sym, ◌∙◌, subst, arith, eq-eqb, length-append}
use Rattle.std.specs.List.{AllPairs, Contains}
use Rattle.std.specs.Option.{option_to_list}
use Rattle.std.specs.Ordering.{int_cmp, nat_cmp, ordering_then, MatchOrdering}
use Rattle.std.specs.declared.cmp.Ordering.{Ordering}
use Rattle.std.specs.declared.cmp.Ordering.TheVariants.{Less, Equal, Greater}
use Rattle.std.proofs.lemmas.Bool.{cases_eq, ne_eqb}
use Rattle.std.proofs.lemmas.Cmp.{int_ranked}
use Rattle.std.proofs.lemmas.Int.{ints}
use Rattle.std.proofs.lemmas.List.{length-map}
use Rattle.std.proofs.lemmas.List.Elements.{Contains-append_cases}
use Rattle.std.proofs.lemmas.Option.{slice_get_read}
use Rattle.fux_pitch.specs.declared.pitch.Pitch.{Pitch}
use Rattle.fux_pitch.specs.Pitch.{key_of, degree_of}
use Rattle.fux_grid.specs.declared.exercise.Exercise.{Exercise}
use Rattle.fux_grid.specs.declared.cell.Cell.{Cell}
use Rattle.fux_grid.specs.declared.cell.Cell.TheVariants.{Rest, Hold, Start}
use Rattle.fux_grid.specs.declared.given.Given.TheVariants.{Blank}
use Rattle.fux_grid.specs.Exercises.{bar_of, cantus_cell, given_at, slot_of, species_in}
use Rattle.fux_grid.specs.Givens.{fits}
use Rattle.fux_grid.specs.Order.{pitch_order}
use Rattle.fux_grid.specs.Shapes.{allows, shapes_in}
use Rattle.fux_grid.specs.Menus.{cantus_cells, cells_at, free_cells, open_cells, pool_of}
use Rattle.fux_grid.proofs.Combinations.{AllPairs-append, AllPairs-map, AllPairs-short, Contains-cons_cases, Contains-map_only, IsBefore}
use Rattle.fux_grid.proofs.Pools.{AllPairs-filter, Contains-cons, IsLower, pool_of-ascends, length-filter_le, length-pool_of}

pub cells_at-cantus : (ex : Exercise) (i v : ℕ) → v ≡ ex.cantus_voice → cells_at ex i v ≡ cantus_cells ex i
unfolding cells_at
cells_at-cantus ex i v e = rw (eq-eqb v ex.cantus_voice e) refl

pub cantus_cells-one : (ex : Exercise) (i : ℕ) (p : Pitch) → i / 8 < length ex.cantus → p ≡ get_or ex.cantus (i / 8) p
    → cantus_cells ex i ≡ cantus_cell i p ∷ []
cantus_cells-one ex i p h e = ap (λ o. option_to_list (option_map (cantus_cell i) o))
    (slice_get_read ex.cantus (length ex.cantus) (i / 8) p refl h e)

pub cells_at-free : (ex : Exercise) (i v : ℕ) → v ≢ ex.cantus_voice → cells_at ex i v
    ≡ filter (fits (given_at ex i v)) (open_cells ex i v)
unfolding cells_at
cells_at-free ex i v e = rw (ne_eqb v ex.cantus_voice e) refl

pub length-chosen : {X : Type 0} (allowed : Bool) (xs : List X) → length (cond allowed xs []) ≤ length xs
length-chosen true xs = omega arith
length-chosen false xs = omega arith

length-free_cells : (shapes : List (List ℕ)) (slot : ℕ) (pool : List Pitch)
    → length (free_cells shapes slot pool) ≤ 1 + (length pool + length pool)
length-free_cells shapes slot pool =
    let rest : List Cell = cond (allows shapes slot 82) (Rest ∷ []) [] in
    let holds : List Cell = cond (allows shapes slot 72) (map Hold pool) [] in
    let starts : List Cell = cond (allows shapes slot 83) (map Start pool) [] in
    omega (
      arith,
      length-append (rest ++ holds) starts,
      length-append rest holds,
      length-chosen (allows shapes slot 82)
          (Rest ∷ []),
      length-chosen (allows shapes slot 72) (map Hold pool),
      length-chosen (allows shapes slot 83)
          (map Start pool),
      length-map pool Hold,
      length-map pool Start,
    )

pub length-cantus_cells : (o : Option Cell) → length (option_to_list o) ≤ 1
length-cantus_cells None = omega arith
length-cantus_cells (Some c) = omega arith

-- a voice has at most a rest, and a hold and a start of each of 73 pitches
pub length-cells_at : (ex : Exercise) (i v : ℕ) → length (cells_at ex i v) ≤ 147
length-cells_at ex i v = elim (cases_eq v ex.cantus_voice) [
  | inl same ↦ omega (
    arith,
    ap length (cells_at-cantus ex i v same),
    length-cantus_cells
        (option_map (cantus_cell i) (slice_get ex.cantus (i / 8))),
  )
  | inr other ↦ omega (
    arith,
    ap length (cells_at-free ex i v other),
    length-filter_le (fits (given_at ex i v))
        (open_cells ex i v),
    length-free_cells
        (shapes_in (species_in ex v) (bar_of i) ex.bars) (slot_of i) (pool_of ex v (bar_of i)),
    length-pool_of ex v
        (bar_of i),
  )
]

-- ---- in which order

int_cmp-less : (x y : ℤ) → x <ℤ y → int_cmp x y ≡ Less
int_cmp-less x y h = by_answer (int_cmp x y) (int_ranked x y (int_cmp x y) refl)
  where
    by_answer : (o : Ordering) → MatchOrdering o (x <ℤ y) (x ≡ y) (y <ℤ x) → o ≡ Less
    by_answer Less k = refl
    by_answer Equal k = absurd (omega (arith, ints))
    by_answer Greater k = absurd (omega (arith, ints))

-- a pitch with a lower key is read first
pitch_order-lower : (p q : Pitch) → IsLower p q → pitch_order p q ≡ Less
pitch_order-lower p q h =
    ap (λ o. ordering_then o (nat_cmp (degree_of p) (degree_of q))) (int_cmp-less (key_of p) (key_of q) h)

chosen-ascends : (allowed : Bool) (cells : List Cell) → AllPairs IsBefore cells
    → AllPairs IsBefore (cond allowed cells [])
chosen-ascends true cells h = h
chosen-ascends false cells h = AllPairs-short IsBefore [] (omega arith)

chosen-only : (allowed : Bool) (cells : List Cell) (c : Cell) → Contains (cond allowed cells []) c → Contains cells c
chosen-only true cells c h = h
chosen-only false cells c (k, h, e) = absurd (omega arith)

-- rests come first, then what is held, then what starts
free_cells-ascend : (shapes : List (List ℕ)) (slot : ℕ) (pool : List Pitch) → AllPairs IsLower pool
    → AllPairs IsBefore (free_cells shapes slot pool)
free_cells-ascend shapes slot pool h =
    let rest : List Cell = cond (allows shapes slot 82) (Rest ∷ []) [] in
    let holds : List Cell = cond (allows shapes slot 72) (map Hold pool) [] in
    let starts : List Cell = cond (allows shapes slot 83) (map Start pool) [] in
    let a : AllPairs IsBefore rest = chosen-ascends (allows shapes slot 82) (Rest ∷ [])
    (AllPairs-short IsBefore (Rest ∷ []) (omega arith)) in
    let b : AllPairs IsBefore holds = chosen-ascends (allows shapes slot 72) (map Hold pool)
    (AllPairs-map IsLower IsBefore Hold pitch_order-lower pool h) in
    let c : AllPairs IsBefore starts = chosen-ascends (allows shapes slot 83) (map Start pool)
    (AllPairs-map IsLower IsBefore Start pitch_order-lower pool h) in
    AllPairs-append IsBefore (rest ++ holds) starts
    (AllPairs-append IsBefore rest holds a b (λ x y i j. before_hold x y (is_rest x i) (is_hold y j))) c
    (λ x y i j. elim (Contains-append_cases rest holds x i) [
      | inl k ↦ rest_before_start x y (is_rest x k) (is_start y j)
      | inr k ↦ hold_before_start x y (is_hold x k) (is_start y j)
    ])
  where
    is_rest : (x : Cell) → Contains (cond (allows shapes slot 82) (Rest ∷ []) []) x → Rest ≡ x
    is_rest x i = elim (Contains-cons_cases Rest [] x (chosen-only (allows shapes slot 82) (Rest ∷ []) x i))
        [ inl e ↦ e | inr k ↦ absurd (omega (arith, k.1)) ]

    is_hold : (x : Cell) → Contains (cond (allows shapes slot 72) (map Hold pool) []) x → (p : Pitch) × (Hold p ≡ x)
    is_hold x i = let held = Contains-map_only Hold pool x (chosen-only (allows shapes slot 72) (map Hold pool) x i) in
        (held.0, held.2)

    is_start : (x : Cell) → Contains (cond (allows shapes slot 83) (map Start pool) []) x → (p : Pitch) × (Start p ≡ x)
    is_start x i = let started = Contains-map_only Start pool x
        (chosen-only (allows shapes slot 83) (map Start pool) x i) in (started.0, started.2)

    before_hold : (x y : Cell) → Rest ≡ x → (p : Pitch) × (Hold p ≡ y) → IsBefore x y
    before_hold x y e (p, f) = rw (← e, ← f) refl

    rest_before_start : (x y : Cell) → Rest ≡ x → (p : Pitch) × (Start p ≡ y) → IsBefore x y
    rest_before_start x y e (p, f) = rw (← e, ← f) refl

    hold_before_start : (x y : Cell) → (p : Pitch) × (Hold p ≡ x) → (p : Pitch) × (Start p ≡ y) → IsBefore x y
    hold_before_start x y (p, e) (q, f) = rw (← e, ← f) refl

-- the cells of a voice ascend, so that none stands twice
pub cells_at-ascend : (ex : Exercise) (i v : ℕ) → AllPairs IsBefore (cells_at ex i v)
cells_at-ascend ex i v = elim (cases_eq v ex.cantus_voice) [
  | inl same ↦ rw (cells_at-cantus ex i v same)
      (AllPairs-short IsBefore _ (length-cantus_cells (option_map (cantus_cell i) (slice_get ex.cantus (i / 8)))))
  | inr other ↦ rw (cells_at-free ex i v other)
      (AllPairs-filter IsBefore (fits (given_at ex i v)) (open_cells ex i v)
      (free_cells-ascend (shapes_in (species_in ex v) (bar_of i) ex.bars) (slot_of i) (pool_of ex v (bar_of i))
      (pool_of-ascends ex v (bar_of i))))
]

-- ---- what is given

Contains-filter_only : {X : Type 0} (p : X → Bool) (xs : List X) (x : X) → Contains (filter p xs) x
    → Contains xs x × (p x ≡ true)
Contains-filter_only p [] x (k, lt, e) = absurd (omega (arith, lt))
Contains-filter_only {X} p (y ∷ ys) x h = by_test (p y) refl h (Contains-filter_only p ys x)
  where
    by_test : (b : Bool) → p y ≡ b → Contains (cond b (y ∷ filter p ys) (filter p ys)) x
        → (Contains (filter p ys) x → Contains ys x × (p x ≡ true)) → Contains (y ∷ ys) x × (p x ≡ true)
    by_test true t i later = elim (Contains-cons_cases y (filter p ys) x i) [
      | inl e ↦ ((0, omega arith, e), ap p (sym e) ∙ t)
      | inr j ↦ let (place, passes) = later j in (Contains-cons y ys x place, passes)
    ]
    by_test false t i later = let (place, passes) = later i in (Contains-cons y ys x place, passes)

-- a free voice's cells are among those that it has before anything is given, and fit what is given
pub cells_at-given : (ex : Exercise) (i v : ℕ) (c : Cell) → v ≢ ex.cantus_voice → Contains (cells_at ex i v) c
    → Contains (open_cells ex i v) c × IsTrue (fits (given_at ex i v) c)
cells_at-given ex i v c other h =
    let P : List Cell → Type 0 = λ cells. Contains cells c in
    Contains-filter_only (fits (given_at ex i v)) (open_cells ex i v) c (subst P (cells_at-free ex i v other) h)

-- where nothing is given, every cell fits
pub filter-blank : (cells : List Cell) → cells ≡ filter (fits Blank) cells
filter-blank [] = refl
filter-blank (c ∷ cells) = ap (λ cells. c ∷ cells) (filter-blank cells)
