-- What a free voice starts next lies within its range in that bar.
use Rattle.std.specs.Prelude.{◌≡◌, ◌≢◌, ℕ, zero, suc, ◌<◌, ◌==◌, Bool, true, false, ◌||◌, List, [], ◌∷◌, ◌++◌, map, length, Contains, if◌then◌else◌, refl}
use Rattle.std.proofs.Common.{ap, sym, ◌∙◌, subst, arith, inl, inr}
use Rattle.std.proofs.lemmas.Bool.{and_parts, cases_lt, cond-true, false≢true, or_right}
use Rattle.std.proofs.lemmas.Bool.Decides.{nat_tests}
use Rattle.std.proofs.lemmas.List.{get_or_past}
use Rattle.std.proofs.lemmas.List.Elements.{Contains-append_cases}
use Rattle.fux_pitch.specs.declared.pitch.Pitch.{Pitch}
use Rattle.fux_pitch.specs.Modes.{is_in_gamut}
use Rattle.fux_grid.specs.declared.cell.Cell.{Cell}
use Rattle.fux_grid.specs.declared.cell.Cell.TheVariants.{Rest, Hold, Start}
use Rattle.fux_grid.specs.declared.exercise.Exercise.{Exercise}
use Rattle.fux_grid.specs.Cells.{cell_in}
use Rattle.fux_grid.specs.Exercises.{bar_of, slot_of, species_in}
use Rattle.fux_grid.specs.Menus.{IsInMenu, cells_at, free_cells, is_in_range, pool_of}
use Rattle.fux_grid.specs.Shapes.{allows, shapes_in, whole_note}
use Rattle.fux_grid.proofs.CellLemmas.{cells_at-given}
use Rattle.fux_grid.proofs.Combinations.{Contains-map_only}
use Rattle.fux_grid.proofs.MenuLemmas.{menu_of-contains}
use Rattle.fux_grid.proofs.Pools.{pool_of-contains}
use Rattle.rule_law.specs.Gauges.{IsNextCell}
use Rattle.rule_law.specs.Terms.{starts}

chosen : {X : Type 0} (b : Bool) (xs : List X) (x : X) → Contains (if b then xs else []) x → Contains xs x
chosen true xs x h = h
chosen false xs x h = absurd (omega (arith, h.1))

same_start : (q p : Pitch) → Start q ≡ Start p → q ≡ p
same_start q p e = cc

-- a start among the cells of a free voice is of its pool
started : (shapes : List (List ℕ)) (slot : ℕ) (pool : List Pitch) (p : Pitch)
    → Contains (free_cells shapes slot pool) (Start p) → Contains pool p
started shapes slot pool p h =
    let rests : List Cell = if allows shapes slot 82 then Rest ∷ [] else [] in
    let holds : List Cell = if allows shapes slot 72 then map Hold pool else [] in
    let starts : List Cell = if allows shapes slot 83 then map Start pool else [] in
    elim (Contains-append_cases (rests ++ holds) starts (Start p) h) [
      | inl early ↦
          elim (Contains-append_cases rests holds (Start p) early) [
            | inl rest ↦ no_rest (chosen (allows shapes slot 82) (Rest ∷ []) (Start p) rest)
            | inr hold ↦ no_hold (Contains-map_only Hold pool (Start p)
                (chosen (allows shapes slot 72) (map Hold pool) (Start p) hold))
          ]
      | inr start ↦ of_pool (Contains-map_only Start pool (Start p)
          (chosen (allows shapes slot 83) (map Start pool) (Start p) start))
    ]
  where
    no_rest : Contains (Rest ∷ []) (Start p) → Contains pool p
    no_rest (zero, here, e) = cc
    no_rest (suc k, here, e) = absurd (omega (arith, here))

    no_hold : (q : Pitch) × Contains pool q × (Hold q ≡ Start p) → Contains pool p
    no_hold (q, here, e) = cc

    of_pool : (q : Pitch) × Contains pool q × (Start q ≡ Start p) → Contains pool p
    of_pool (q, here, e) = let P : Pitch → Type 0 = λ x. Contains pool x in subst P (same_start q p e) here

pub next_in_range : (ex : Exercise) (v : ℕ) (cells col : List Cell) (p : Pitch) → IsNextCell ex v cells col
    → cell_in col v ≡ Start p → is_in_range ex v (bar_of (length cells)) p ≡ true
next_in_range ex v cells col p next e =
    let i : ℕ = length cells in
    let P : Cell → Type 0 = λ c. Contains (cells_at ex i v) c in
    let there : Contains (cells_at ex i v) (Start p) = subst P e
    (((menu_of-contains ex i col).0 next.in_menu).cells v next.free.there) in
    let of_shapes = (cells_at-given ex i v (Start p) next.free.no_cantus there).0 in
    let pool = (pool_of-contains ex v (bar_of i) p).0
    (started (shapes_in (species_in ex v) (bar_of i) ex.bars) (slot_of i) (pool_of ex v (bar_of i)) p of_shapes) in
    (and_parts (is_in_gamut ex.mode (bar_of i) ex.bars p) (is_in_range ex v (bar_of i) p) pool).1

-- a start stands among the cells of a free voice only where some shape has one
pub start_allowed : (shapes : List (List ℕ)) (slot : ℕ) (pool : List Pitch) (p : Pitch)
    → Contains (free_cells shapes slot pool) (Start p) → allows shapes slot 83 ≡ true
start_allowed shapes slot pool p h =
    let rests : List Cell = if allows shapes slot 82 then Rest ∷ [] else [] in
    let holds : List Cell = if allows shapes slot 72 then map Hold pool else [] in
    let starts : List Cell = if allows shapes slot 83 then map Start pool else [] in
    elim (Contains-append_cases (rests ++ holds) starts (Start p) h) [
      | inl early ↦
          elim (Contains-append_cases rests holds (Start p) early) [
            | inl rest ↦ no_rest (chosen (allows shapes slot 82) (Rest ∷ []) (Start p) rest)
            | inr hold ↦ no_hold (Contains-map_only Hold pool (Start p)
                (chosen (allows shapes slot 72) (map Hold pool) (Start p) hold))
          ]
      | inr start ↦ some (allows shapes slot 83) start
    ]
  where
    no_rest : Contains (Rest ∷ []) (Start p) → allows shapes slot 83 ≡ true
    no_rest (zero, here, e) = cc
    no_rest (suc k, here, e) = absurd (omega (arith, here))

    no_hold : (q : Pitch) × Contains pool q × (Hold q ≡ Start p) → allows shapes slot 83 ≡ true
    no_hold (q, here, e) = cc

    some : (b : Bool) → Contains (if b then map Start pool else []) (Start p) → b ≡ true
    some true here = refl
    some false here = absurd (omega (arith, here.1))

-- a whole note starts at slot 0 alone
whole_note-slot : (slot : ℕ) → slot < 8 → slot ≢ 0 → allows whole_note slot 83 ≡ false
whole_note-slot zero within other = absurd (other refl)
whole_note-slot (suc zero) within other = refl
whole_note-slot (suc (suc zero)) within other = refl
whole_note-slot (suc (suc (suc zero))) within other = refl
whole_note-slot (suc (suc (suc (suc zero)))) within other = refl
whole_note-slot (suc (suc (suc (suc (suc zero))))) within other = refl
whole_note-slot (suc (suc (suc (suc (suc (suc zero)))))) within other = refl
whole_note-slot (suc (suc (suc (suc (suc (suc (suc zero))))))) within other = refl
whole_note-slot (suc (suc (suc (suc (suc (suc (suc (suc n)))))))) within other = absurd (omega (arith, within))

-- in the last bar, but for its beginning, no free voice starts a note
pub last_bar_holds : (ex : Exercise) (v i : ℕ) (col : List Cell) → v ≢ ex.cantus_voice → bar_of i ≡ ex.bars
    → slot_of i ≢ 0 → IsInMenu ex i col → starts (cell_in col v) ≡ false
last_bar_holds ex v i col free last slot menu =
    elim (cases_lt v ex.voices) [
      | inl there ↦ at (cell_in col v) (menu.cells v there)
      | inr beyond ↦ ap starts (get_or_past col v Rest (omega (arith, menu.full, beyond)))
    ]
  where
    whole : shapes_in (species_in ex v) (bar_of i) ex.bars ≡ whole_note
    whole = cond-true ((species_in ex v == 1) || (bar_of i == ex.bars)) whole_note _
        (or_right (species_in ex v == 1) (bar_of i == ex.bars) (grind (arith, nat_tests, last)))

    at : (c : Cell) → Contains (cells_at ex i v) c → starts c ≡ false
    at Rest h = refl
    at (Hold p) h = refl
    at (Start p) h =
        let of_shapes = (cells_at-given ex i v (Start p) free h).0 in
        let allowed = start_allowed (shapes_in (species_in ex v) (bar_of i) ex.bars) (slot_of i)
        (pool_of ex v (bar_of i)) p of_shapes in
        let none = whole_note-slot (slot_of i) (omega arith) slot in
        absurd (false≢true (sym none ∙ sym (ap (λ shapes. allows shapes (slot_of i) 83) whole) ∙ allowed))
