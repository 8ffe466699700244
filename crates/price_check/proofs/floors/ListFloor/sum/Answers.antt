use Rattle.std.proofs.Common.{◌≤◌, ap, arith, length, ◌∙◌}
use Rattle.fux_grid.specs.Exercises.{columns_in}
use Rattle.price_check.specs.Floors.{exercise_of, list_of, sheet_of}
use Rattle.price_check.proofs.Places.{charged_is, spent_there}
use Rattle.price_check.specs.PriceLists.{charged_sum, path_of}
use Rattle.price_check.proofs.Ways.{length-path_of}
use Rattle.price_check.proofs.floors.ListFloor.sum.Goals as goal

pub returns : goal.returns
returns c = λ p prefix stands e f.
    let floor = c.args.self.now in
    let ex = exercise_of floor in
    let sheet = sheet_of floor in
    let list = list_of floor in
    let path = path_of ex p in
    let spent = c.spent_by-spent in
    let size = length-path_of ex p in
    let few = prefix.few in
    let room : length path ≤ columns_in ex = omega (arith, size, few) in
    c.sum.ensures path stands room ∙ charged_is ex sheet list.keeps list.charges spent.result path
    ∙ ap (λ n. charged_sum ex sheet list.keeps list.charges n path)
    (spent.ensures.value ∙ spent_there ex sheet list.plain p c.args.paid c.args.least prefix e f)
