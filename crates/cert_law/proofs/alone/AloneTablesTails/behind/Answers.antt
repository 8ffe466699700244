use Rattle.std.proofs.Common.{ℕ, [], slice_index_or, sym, subst, arith}
use Rattle.floor_tables.proofs.RestLemmas.{rest_is}
use Rattle.floor_tables.specs.Tables.{IsRest, Task}
use Rattle.fux_grid.specs.Menus.{menu_of}
use Rattle.cert_law.proofs.alone.AloneTablesTails.behind.Goals as goal

pub returns : goal.returns
returns c = λ p size.
    let ex = c.args.self.now.exercise in
    let sheet = c.args.self.now.sheet in
    let col = slice_index_or (menu_of ex c.args.i) c.args.k [] in
    let rest : IsRest ex sheet c.args.i col c.rest_of_number.result =
    subst (λ (t : Task). IsRest t.exercise t.sheet c.args.i (slice_index_or (menu_of t.exercise c.args.i) c.args.k [])
    c.rest_of_number.result) c.self.view_is c.rest_of_number.ensures.rest in
    rest_is ex sheet p col c.rest_of_number.result (omega (arith, size, c.requires.place))
    (subst (λ (n : ℕ). IsRest ex sheet n col c.rest_of_number.result) (sym size) rest)
