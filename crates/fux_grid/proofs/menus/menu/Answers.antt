use Rattle.std.proofs.Common.{◌≡◌, ◌↔◌, arith, ap, length, sym, subst, ◌∙◌, List}
use Rattle.std.specs.List.{Contains}
use Rattle.std.proofs.lemmas.List.{length-map}
use Rattle.fux_grid.specs.declared.cell.Cell.{Cell}
use Rattle.fux_grid.specs.Grid.{items_of}
use Rattle.fux_grid.specs.Menus.{IsAscending, IsInMenu, combinations, menu_of}
use Rattle.fux_grid.proofs.MenuLemmas.{menu_of-ascends, menu_of-contains, menu_of-is, menu_of-length}
use Rattle.fux_grid.proofs.menus.menu.Goals as goal

pub all_combinations-requires-clause-width : goal.all_combinations-requires-clause-width
all_combinations-requires-clause-width c =
    c.width-count.ensures ∙ sym (menu_of-length c.args.ex.now c.args.i)
    ∙ ap (λ lists. length (combinations lists)) (sym c.choices.ensures)
    ∙ ap (λ lists. length (combinations (items_of lists))) (sym c.as_slice.ensures.value)

pub returns-in-Ok-clause-value : goal.returns-in-Ok-clause-value
returns-in-Ok-clause-value c =
    c.in-Ok.ensures ∙ ap (λ lists. combinations (items_of lists)) c.as_slice.ensures.value
    ∙ ap combinations c.choices.ensures ∙ menu_of-is c.args.ex.now c.args.i

pub returns-in-Ok-clause-columns : goal.returns-in-Ok-clause-columns
returns-in-Ok-clause-columns c =
    let is : items_of c.in-Ok.columns.items ≡ menu_of c.args.ex.now c.args.i = returns-in-Ok-clause-value c in
    let P : List (List Cell) → Type 0 = λ menu. (col : List Cell) → Contains menu col
    ↔ IsInMenu c.args.ex.now c.args.i col in
    subst P (sym is) (menu_of-contains c.args.ex.now c.args.i)

pub returns-in-Ok-clause-order : goal.returns-in-Ok-clause-order
returns-in-Ok-clause-order c =
    let is : items_of c.in-Ok.columns.items ≡ menu_of c.args.ex.now c.args.i = returns-in-Ok-clause-value c in
    subst IsAscending (sym is) (menu_of-ascends c.args.ex.now c.args.i)

pub returns-in-Ok-clause-most : goal.returns-in-Ok-clause-most
returns-in-Ok-clause-most c =
    omega (
      arith,
      c.in-Ok.columns.ok.0,
      ap length (returns-in-Ok-clause-value c),
      length-map c.in-Ok.columns.items
          (λ col. col.items),
      c.width-count.ensures,
    )
