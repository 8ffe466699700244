use Rattle.std.proofs.Common.{◌≡◌, ℕ, ◌≤◌, List, Option, Some, subst}
use Rattle.std.specs.Prelude.{IsSomeAnd}
use Rattle.fux_grid.specs.declared.cell.Cell.{Cell}
use Rattle.fux_judge.specs.Links.{link_of}
use Rattle.floor_tables.specs.Tables.{Task}
use Rattle.floor_tables.proofs.links.ColumnLinksLinks.own_cost.Goals as goal

pub returns-clause-least : goal.returns-clause-least
returns-clause-least c =
    subst (λ (t : Task). (before : Option (List Cell)) (x : ℕ)
    → link_of t.exercise t.sheet c.args.i before c.args.next.now.items ≡ Some x
    → IsSomeAnd c.column_cost.result (λ y. y ≤ x))
    c.self.view_is c.column_cost.ensures.least
