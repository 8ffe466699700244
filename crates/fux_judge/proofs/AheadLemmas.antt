-- What lies ahead of a line: where no start is, each key is the last climax, and one that a later
-- bar reaches above is not.
use Rattle.std.proofs.Common.{◌≡◌, ℕ, zero, suc, ◌+◌, ◌<◌, ◌≤◌, Bool, true, false, ◌&&◌, ◌||◌, cond, List, [], ◌∷◌, ◌++◌, length, refl, ap, sym, subst, ◌∙◌, arith, inl, inr}
use Rattle.std.specs.Prelude.{pos, int_le, not, count_by, Contains, filter, map, if◌then◌else◌}
use Rattle.std.specs.List.{list_all, range_with_len}
use Rattle.std.proofs.lemmas.Bool.{and_from, cases_lt, and_right}
use Rattle.std.proofs.lemmas.Bool.Decides.{nat_tests}
use Rattle.std.proofs.lemmas.Int.{ints}
use Rattle.std.proofs.lemmas.List.Elements.{Contains-append_right}
use Rattle.std.proofs.lemmas.List.Sums.{sum_by-cons}
use Rattle.fux_pitch.specs.declared.pitch.Pitch.{Pitch}
use Rattle.fux_pitch.specs.Pitch.{key_of}
use Rattle.fux_grid.specs.declared.cell.Cell.{Cell}
use Rattle.fux_grid.specs.declared.cell.Cell.TheVariants.{Rest, Hold, Start}
use Rattle.fux_grid.specs.declared.exercise.Exercise.{Exercise}
use Rattle.fux_grid.specs.Cells.{cell_in}
use Rattle.fux_grid.specs.declared.given.Given.TheVariants.{Blank}
use Rattle.fux_grid.specs.Exercises.{IsFree, bar_of, given_at, slot_of, species_in}
use Rattle.fux_grid.specs.Givens.{fits}
use Rattle.fux_grid.specs.Menus.{IsInMenu, cells_at, menu_of, open_cells, pool_of}
use Rattle.fux_grid.specs.Shapes.{allows, shapes_in}
use Rattle.fux_grid.proofs.CellLemmas.{cells_at-free, cells_at-given, filter-blank}
use Rattle.fux_grid.proofs.MenuLemmas.{can_start-from, menu_of-contains}
use Rattle.rule_law.specs.Gauges.{menu_starts}
use Rattle.rule_law.specs.Terms.{starts}
use Rattle.rule_law.proofs.MenuStarts.{any_only, menu_starts-from}
use Rattle.rule_law.proofs.NextPitch.{start_allowed}
use Rattle.fux_judge.proofs.MenuBreaks.{of_pool}

-- each of some numbers passes where all below the limit do
pub all_from : (test : ℕ → Bool) (i n limit : ℕ) → i + n ≤ limit → ((j : ℕ) → j < limit → test j ≡ true)
    → list_all test (range_with_len i n) ≡ true
all_from test i zero limit h each = refl
all_from test i (suc n) limit h each =
    and_from (test i) (list_all test (range_with_len (i + 1) n)) (each i (omega (arith, h)))
    (all_from test (i + 1) n limit (omega (arith, h)) each)

abbrev number : Bool → ℕ
number b = cond b 1 0

-- where none of them starts a note, none is a place for a higher one
pub none_starts : (starting top : ℕ → Bool) (i n : ℕ) → count_by starting (range_with_len i n) ≡ 0
    → list_all (λ j. not (starting j) || top j) (range_with_len i n) ≡ true
none_starts starting top i zero h = refl
none_starts starting top i (suc n) h =
    at (starting i) refl (sym (sum_by-cons (λ j. cond (starting j) 1 0) i (range_with_len (i + 1) n)) ∙ h)
    (none_starts starting top (i + 1) n)
  where
    rest : List ℕ
    rest = range_with_len (i + 1) n

    at : (b : Bool) → starting i ≡ b → number (starting i) + count_by starting rest ≡ 0
        → (count_by starting rest ≡ 0 → list_all (λ j. not (starting j) || top j) rest ≡ true)
        → ((not (starting i) || top i) && list_all (λ j. not (starting j) || top j) rest) ≡ true
    at true e k later = let one : number (starting i) ≡ 1 = ap number e in absurd (omega (arith, one, k))
    at false e k later =
        let none : number (starting i) ≡ 0 = ap number e in
        and_from (not (starting i) || top i) (list_all (λ j. not (starting j) || top j) rest)
        (ap (λ b. not b || top i) e) (later (omega (arith, none, k)))

-- where one of them doesn't pass, not all do
pub not_all : (test : ℕ → Bool) (i n j : ℕ) → i ≤ j → j < i + n → test j ≡ false → list_all test (range_with_len i n)
    ≡ false
not_all test i zero j low high e = absurd (omega (arith, low, high))
not_all test i (suc n) j low high e =
    elim (cases_lt i j) [
      | inl before ↦ and_right (test i) (list_all test (range_with_len (i + 1) n))
          (not_all test (i + 1) n j (omega (arith, before)) (omega (arith, high)) e)
      | inr here ↦
          let same : i ≡ j = omega (arith, low, here) in
          ap (λ b. b && list_all test (range_with_len (i + 1) n)) (ap test same ∙ e)
    ]

-- a key below the high end, and one that isn't
pub under_end : (key high : ℕ) (p : Pitch) → pos high ≡ key_of p → key < high → int_le (key_of p) (pos key) ≡ false
under_end key high p e h = ap (λ k. int_le k (pos key)) (sym e) ∙ past
  where
    past : int_le (pos high) (pos key) ≡ false
    past = grind (arith, nat_tests, ints, h)

pub over_end : (key high : ℕ) (p : Pitch) → pos high ≡ key_of p → high ≤ key → int_le (key_of p) (pos key) ≡ true
over_end key high p e h = ap (λ k. int_le k (pos key)) (sym e) ∙ within
  where
    within : int_le (pos high) (pos key) ≡ true
    within = grind (arith, nat_tests, ints, h)

-- the menu has a start of a free voice only where a shape allows one
pub starts_allowed : (ex : Exercise) (v i : ℕ) → IsFree ex v → menu_starts ex v i ≡ true
    → allows (shapes_in (species_in ex v) (bar_of i) ex.bars) (slot_of i) 83 ≡ true
starts_allowed ex v i free e =
    let found = any_only (λ col. starts (cell_in col v)) (menu_of ex i) e in
    at (cell_in found.0 v) (((menu_of-contains ex i found.0).0 found.1).cells v free.there) found.2
  where
    at : (c : Cell) → Contains (cells_at ex i v) c → starts c ≡ true
        → allows (shapes_in (species_in ex v) (bar_of i) ex.bars) (slot_of i) 83 ≡ true
    at Rest h s = cc
    at (Hold p) h s = cc
    at (Start p) h s =
        start_allowed (shapes_in (species_in ex v) (bar_of i) ex.bars) (slot_of i) (pool_of ex v (bar_of i)) p
        (cells_at-given ex i v (Start p) free.no_cantus h).0

pub none_allowed : (ex : Exercise) (v i : ℕ) → IsFree ex v
    → allows (shapes_in (species_in ex v) (bar_of i) ex.bars) (slot_of i) 83 ≡ false → menu_starts ex v i ≡ false
none_allowed ex v i free e = at (menu_starts ex v i) refl
  where
    at : (b : Bool) → menu_starts ex v i ≡ b → b ≡ false
    at true h = let allowed = starts_allowed ex v i free h in cc
    at false h = refl

-- what is chosen is there where the test holds
chosen_from : {X : Type 0} (b : Bool) (xs : List X) (x : X) → b ≡ true → Contains xs x → Contains (if b then xs else []) x
chosen_from true xs x e h = h
chosen_from false xs x e h = cc

some_start : (pool : List Pitch) (p : Pitch) → Contains pool p → (q : Pitch) × Contains (map Start pool) (Start q)
some_start [] p h = absurd (omega (arith, h.1))
some_start (q ∷ pool) p h = (q, (0, omega arith, refl))

-- where a free voice holds a note, nothing is given and a shape allows a start, the menu has one
pub starts_beside : (ex : Exercise) (v i : ℕ) (col : List Cell) (p : Pitch) → IsFree ex v → IsInMenu ex i col
    → cell_in col v ≡ Hold p → given_at ex i v ≡ Blank
    → allows (shapes_in (species_in ex v) (bar_of i) ex.bars) (slot_of i) 83 ≡ true → menu_starts ex v i ≡ true
starts_beside ex v i col p free member held blank allowed =
    let shapes : List (List ℕ) = shapes_in (species_in ex v) (bar_of i) ex.bars in
    let pool : List Pitch = pool_of ex v (bar_of i) in
    let rests : List Cell = if allows shapes (slot_of i) 82 then Rest ∷ [] else [] in
    let holds : List Cell = if allows shapes (slot_of i) 72 then map Hold pool else [] in
    let starting : List Cell = if allows shapes (slot_of i) 83 then map Start pool else [] in
    let holding : Contains (cells_at ex i v) (Hold p) = subst (λ (c : Cell). Contains (cells_at ex i v) c) held
    (member.cells v free.there) in
    let found = some_start pool p (of_pool ex i v free.no_cantus (Hold p) holding) in
    let opened : Contains (open_cells ex i v) (Start found.0) = Contains-append_right (rests ++ holds) starting
    (Start found.0) (chosen_from (allows shapes (slot_of i) 83) (map Start pool) (Start found.0) allowed found.1) in
    let same : open_cells ex i v ≡ cells_at ex i v = filter-blank (open_cells ex i v)
    ∙ ap (λ given. filter (fits given) (open_cells ex i v)) (sym blank) ∙ sym (cells_at-free ex i v free.no_cantus) in
    let there : Contains (cells_at ex i v) (Start found.0) = subst (λ (cells : List Cell). Contains cells (Start found.0))
    same opened in
    let some : 0 < length (menu_of ex i) = omega (arith, ((menu_of-contains ex i col).1 member).1) in
    menu_starts-from ex v i
    (can_start-from ex i v free.there some (there.0, Start found.0, there.1, there.2, tt))
