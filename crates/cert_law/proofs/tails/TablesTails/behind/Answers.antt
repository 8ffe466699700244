use Rattle.std.proofs.Common.{ℕ, [], slice_index_or, sym, subst, arith}
use Rattle.floor_tables.proofs.RestLemmas.{rest_is}
use Rattle.floor_tables.specs.Tables.{IsRest}
use Rattle.fux_grid.specs.Menus.{menu_of}
use Rattle.cert_law.proofs.tails.TablesTails.behind.Goals as goal

pub returns : goal.returns
returns c = λ p size.
    let ex = c.args.self.now.exercise in
    let sheet = c.args.self.now.sheet in
    let col = slice_index_or (menu_of ex c.args.i) c.args.k [] in
    rest_is ex sheet p col c.rest_of_number.result (omega (arith, size, c.requires.place))
    (subst (λ (n : ℕ). IsRest ex sheet n col c.rest_of_number.result) (sym size) c.rest_of_number.ensures.rest)
