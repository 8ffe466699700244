-- Whether a cell is among others (`cell_among`).
use Rattle.std.proofs.Common.{◌≡◌, Bool, true, IsTrue, List, refl, ap, sym, ◌∙◌}
use Rattle.std.specs.Prelude.{◌↔◌}
use Rattle.std.specs.List.{Contains, list_any}
use Rattle.std.proofs.lemmas.List.Folds.{list_any_at}
use Rattle.std.proofs.lemmas.Map.Views.{Contains-from_any}
use Rattle.fux_grid.specs.declared.cell.Cell.{Cell}
use Rattle.fux_grid.specs.contracts.cell.CellPartialEq.TheImpl.{ghosts}
use Rattle.chain_sums.proofs.CellTests.{cells-Decides}

among_from_test : (cells : List Cell) (cell : Cell) → list_any (λ c. ghosts.eq c cell) cells ≡ true
    → Contains cells cell
among_from_test cells cell h =
    Contains-from_any {eq = λ c d. ghosts.eq d c} (λ c d same. sym ((cells-Decides d c).0 same)) cell cells h

test_from_among : (cells : List Cell) (cell : Cell) → Contains cells cell → list_any (λ c. ghosts.eq c cell) cells
    ≡ true
test_from_among cells cell (k, h, e) =
    list_any_at (λ c. ghosts.eq c cell) cells k cell h (ap (λ c. ghosts.eq c cell) e ∙ (cells-Decides cell cell).1 refl)

pub cell_among : (cells others : List Cell) (cell : Cell) (answer : Bool) → others ≡ cells → answer
    ≡ list_any (λ c. ghosts.eq c cell) others → IsTrue answer ↔ Contains cells cell
cell_among cells others cell answer same e =
    let test : answer ≡ list_any (λ c. ghosts.eq c cell) cells = e ∙ ap (list_any (λ c. ghosts.eq c cell)) same in
    (λ h. among_from_test cells cell (sym test ∙ h), λ h. test ∙ test_from_among cells cell h)
