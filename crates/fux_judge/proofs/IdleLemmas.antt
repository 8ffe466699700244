-- Where all shapes of each voice have one letter at a place, no column settles a break of S3 there
-- (`alike_settles`), and where no note of one slot can end, none of S25 (`no_quaver_settles`).
use Rattle.std.proofs.Common.{◌≡◌, ◌≢◌, ◌⊎◌, ℕ, zero, suc, ◌+◌, ◌-◌, ◌<◌, Bool, true, false, List, [], ◌∷◌, ◌++◌, Contains, length, map, refl, ap, sym, ◌∙◌, subst, inl, inr, true≢false, arith}
use Rattle.std.specs.Prelude.{slice_index_or, if◌then◌else◌}
use Rattle.std.proofs.lemmas.Bool.{false_from_ne_true}
use Rattle.std.proofs.lemmas.List.{length-append}
use Rattle.std.proofs.lemmas.List.Elements.{Contains-append_cases}
use Rattle.fux_pitch.specs.declared.pitch.Pitch.{Pitch}
use Rattle.fux_grid.specs.declared.cell.Cell.{Cell}
use Rattle.fux_grid.specs.declared.cell.Cell.TheVariants.{Rest, Hold, Start}
use Rattle.fux_grid.specs.declared.exercise.Exercise.{Exercise}
use Rattle.fux_grid.specs.Cells.{cell_in, is_hold}
use Rattle.fux_grid.specs.Exercises.{IsFree, bar_of, columns_in, slot_of}
use Rattle.fux_grid.specs.Menus.{IsInMenu, cells_at, free_cells, menu_of, pool_of}
use Rattle.fux_grid.specs.Orderly.{voice_shapes}
use Rattle.fux_grid.specs.Shapes.{allows, letter_of}
use Rattle.fux_grid.proofs.CellLemmas.{cells_at-given}
use Rattle.fux_grid.proofs.Combinations.{Contains-map_only}
use Rattle.fux_grid.proofs.MenuLemmas.{menu_of-contains}
use Rattle.rule_law.specs.Gauges.{menu_starts}
use Rattle.rule_law.specs.Rulebooks.{IsAmong, RuleRow, newly_breaks}
use Rattle.rule_law.specs.Terms.{starts}
use Rattle.rule_law.proofs.MenuStarts.{any_from}
use Rattle.rhythm_cadence.specs.Book.{quaver_rule}
use Rattle.rhythm_cadence.specs.Parts.{all_have}
use Rattle.rhythm_cadence.proofs.AlikeShapes.{alike_unbroken, same_letter}
use Rattle.rhythm_cadence.proofs.HeldQuavers.{quavers_unbroken}
use Rattle.fux_judge.specs.Idle.{AreShapesAlike, EndNoQuaver, EndsNoQuaver}
use Rattle.fux_judge.specs.Late.{SettlesNothing}
use Rattle.fux_judge.specs.Rules.{is_late, rule_at}
use Rattle.fux_judge.proofs.Alive.{prefix_before}
use Rattle.fux_judge.proofs.Facts.{rule_keeps}
use Rattle.fux_judge.proofs.LateLemmas.{none_settled}
use Rattle.fux_judge.proofs.LeastLaws.{last_in_menu}
use Rattle.fux_judge.proofs.MenuBreaks.{chosen}
use Rattle.fux_judge.proofs.ShapeLemmas.{shape_row_is}

-- of two lists the one that isn't empty is chosen where it has something
on_chosen : {X : Type 0} (b : Bool) (xs : List X) (x : X) → Contains (if b then xs else []) x → b ≡ true
on_chosen true xs x h = refl
on_chosen false xs x h = absurd (omega (arith, h.1))

-- some shape has the letter of each cell that a voice may have
cell_allowed : (shapes : List (List ℕ)) (slot : ℕ) (pool : List Pitch) (c : Cell)
    → Contains (free_cells shapes slot pool) c → allows shapes slot (letter_of c) ≡ true
cell_allowed shapes slot pool c h =
    let rests : List Cell = if allows shapes slot 82 then Rest ∷ [] else [] in
    let holds : List Cell = if allows shapes slot 72 then map Hold pool else [] in
    let starting : List Cell = if allows shapes slot 83 then map Start pool else [] in
    elim (Contains-append_cases (rests ++ holds) starting c h) [
      | inl early ↦
          elim (Contains-append_cases rests holds c early) [
            | inl rest ↦ of_rest (on_chosen (allows shapes slot 82) (Rest ∷ []) c rest)
                (chosen (allows shapes slot 82) (Rest ∷ []) c rest)
            | inr hold ↦ of_hold (on_chosen (allows shapes slot 72) (map Hold pool) c hold)
                (Contains-map_only Hold pool c (chosen (allows shapes slot 72) (map Hold pool) c hold))
          ]
      | inr start ↦ of_start (on_chosen (allows shapes slot 83) (map Start pool) c start)
          (Contains-map_only Start pool c (chosen (allows shapes slot 83) (map Start pool) c start))
    ]
  where
    of_rest : allows shapes slot 82 ≡ true → Contains (Rest ∷ []) c → allows shapes slot (letter_of c) ≡ true
    of_rest on (zero, here, e) = subst (λ (d : Cell). allows shapes slot (letter_of d) ≡ true) e on
    of_rest on (suc k, here, e) = absurd (omega (arith, here))

    of_hold : allows shapes slot 72 ≡ true → (q : Pitch) × Contains pool q × (Hold q ≡ c)
        → allows shapes slot (letter_of c) ≡ true
    of_hold on (q, here, e) = subst (λ (d : Cell). allows shapes slot (letter_of d) ≡ true) e on

    of_start : allows shapes slot 83 ≡ true → (q : Pitch) × Contains pool q × (Start q ≡ c)
        → allows shapes slot (letter_of c) ≡ true
    of_start on (q, here, e) = subst (λ (d : Cell). allows shapes slot (letter_of d) ≡ true) e on

held_by_letter : (c : Cell) → letter_of c ≡ 72 → is_hold c ≡ true
held_by_letter Rest e = absurd (omega (arith, e))
held_by_letter (Hold p) e = refl
held_by_letter (Start p) e = absurd (omega (arith, e))

module _ (ex : Exercise) (i v : ℕ) (col : List Cell) (menu : IsInMenu ex i col) (free : IsFree ex v) where
  pub allowed_there : allows (voice_shapes ex v (bar_of i)) (slot_of i) (letter_of (cell_in col v)) ≡ true
  allowed_there =
      cell_allowed (voice_shapes ex v (bar_of i)) (slot_of i) (pool_of ex v (bar_of i)) (cell_in col v)
      (cells_at-given ex i v (cell_in col v) free.no_cantus (menu.cells v free.there)).0

  -- where each shape holds a note, each cell of the menu does
  pub held_there : all_have (slot_of i) 72 (voice_shapes ex v (bar_of i)) ≡ true → is_hold (cell_in col v) ≡ true
  held_there all =
      held_by_letter (cell_in col v)
      (same_letter (slot_of i) (letter_of (cell_in col v)) 72 (voice_shapes ex v (bar_of i)) all allowed_there)

-- where no column of the menu starts a note of the voice, this one doesn't
pub none_starts : (ex : Exercise) (i v : ℕ) (col : List Cell) → IsInMenu ex i col → menu_starts ex v i ≡ false
    → starts (cell_in col v) ≡ false
none_starts ex i v col menu none =
    false_from_ne_true (starts (cell_in col v))
    (λ e. true≢false (sym (any_from (λ c. starts (cell_in c v)) (menu_of ex i) col ((menu_of-contains ex i col).1 menu) e)
    ∙ none))

shapes_are_late : is_late 3 ≡ true
unfolding rule_at
shapes_are_late = refl

quavers_are_late : is_late 25 ≡ true
unfolding rule_at
quavers_are_late = refl

quaver_row_is : rule_at 25 ≡ quaver_rule
unfolding rule_at
quaver_row_is = refl

pub alike_settles : (ex : Exercise) (i : ℕ) → AreShapesAlike ex i → SettlesNothing ex i 3
alike_settles ex i shapes p col at on =
    let alike = subst (λ (n : ℕ). AreShapesAlike ex n) (sym at) shapes in
    let menu = last_in_menu ex p col on.longer in
    none_settled 3 ex p col shapes_are_late on (λ voices k among.
    ap (λ (it : RuleRow). newly_breaks it ex voices p col k) shape_row_is
    ∙ alike_unbroken ex p col on.orderly (λ v free. alike v free.there)
    (λ v free. allowed_there ex (length p) v col menu free) voices k
    (omega (arith, among.to, (rule_keeps 3).within ex (length p), length-append p (col ∷ []))))

pub no_quaver_settles : (ex : Exercise) (i : ℕ) → EndNoQuaver ex i → SettlesNothing ex i 25
no_quaver_settles ex i ends p col at on =
    let end = subst (λ (n : ℕ). EndNoQuaver ex n) (sym at) ends in
    none_settled 25 ex p col quavers_are_late on (λ voices k among.
    let Places : RuleRow → Type 0 = λ it. IsAmong (it.first ex (length p)) (it.count ex (length p)) k in
    ap (λ (it : RuleRow). newly_breaks it ex voices p col k) quaver_row_is
    ∙ quavers_unbroken ex p col k (subst Places quaver_row_is among) on
    (λ v free. of_voice v free (end v free.there)) voices)
  where
    of_voice : (v : ℕ) → IsFree ex v → EndsNoQuaver ex (length p) v
        → (is_hold (cell_in col v) ≡ true)
        ⊎ ((length p + 1 < columns_in ex) × (starts (cell_in (slice_index_or p (length p - 1) []) v) ≡ false))
    of_voice v free (inl held) = inl (held_there ex (length p) v col (last_in_menu ex p col on.longer) free held)
    of_voice v free (inr (some, more, none)) =
        let last : length p - 1 < length p = omega (arith, some) in
        inr (
          more,
          none_starts ex (length p - 1) v (slice_index_or p (length p - 1) [])
              ((prefix_before ex p col on.longer).menus (length p - 1) last) none,
        )
