-- Where each cell of each column of its menu is a hold, and each shape of each voice holds a note,
-- nothing can begin at a place within a bar (`still_place`).
use Rattle.std.proofs.Common.{◌≡◌, ℕ, All, List, true, false, length, refl, ap, sym, ◌∙◌, inl, inr, true≢false}
use Rattle.std.specs.Prelude.{IsTrue}
use Rattle.std.specs.List.{list_any}
use Rattle.std.proofs.lemmas.Bool.{cases_lt, false_from_ne_true}
use Rattle.std.proofs.lemmas.List.{get_or_past}
use Rattle.std.proofs.lemmas.List.Elements.{All-contains}
use Rattle.fux_grid.specs.declared.cell.Cell.{Cell}
use Rattle.fux_grid.specs.declared.cell.Cell.TheVariants.{Rest, Hold, Start}
use Rattle.fux_grid.specs.declared.exercise.Exercise.{Exercise}
use Rattle.fux_grid.specs.Cells.{cell_in, is_hold}
use Rattle.fux_grid.specs.Menus.{menu_of}
use Rattle.rule_law.specs.Bars.{begins_bar}
use Rattle.rule_law.specs.Terms.{starts}
use Rattle.rule_law.proofs.MenuStarts.{any_only}
use Rattle.fux_judge.specs.Idle.{DoShapesHold}
use Rattle.fux_judge.specs.Still.{IsStillPlace}
use Rattle.species_space.specs.Blocks.{IsOnlyHolds}

hold_rests : (c : Cell) → IsTrue (is_hold c) → starts c ≡ false
hold_rests Rest h = refl
hold_rests (Hold p) h = refl
hold_rests (Start p) h = cc

column_rests : (col : List Cell) → IsOnlyHolds col → (v : ℕ) → starts (cell_in col v) ≡ false
column_rests col held v =
    elim (cases_lt v (length col)) [
      | inl within ↦ hold_rests (cell_in col v) (held v Rest within)
      | inr beyond ↦ ap starts (get_or_past col v Rest beyond)
    ]

menu_rests : (menu : List (List Cell)) → All IsOnlyHolds menu → (v : ℕ) → list_any (λ col. starts (cell_in col v)) menu
    ≡ false
menu_rests menu held v =
    false_from_ne_true (list_any (λ col. starts (cell_in col v)) menu)
    (λ e.
    let found = any_only (λ (col : List Cell). starts (cell_in col v)) menu e in
    true≢false (sym found.2 ∙ column_rests found.0 (All-contains IsOnlyHolds menu found.0 held found.1) v))

pub still_place : (ex : Exercise) (i : ℕ) → begins_bar i ≡ false → All IsOnlyHolds (menu_of ex i) → DoShapesHold ex i
    → IsStillPlace ex i
still_place ex i inner held shapes = record {
  inner = inner;
  none = menu_rests (menu_of ex i) held;
  shapes = shapes;
}
