use Rattle.std.proofs.Common.{nat_eq}
use Rattle.std.proofs.lemmas.Bool.{OnTrue_from}
use Rattle.std.proofs.lemmas.Bool.Decides.{Decides-eqb}
use Rattle.chain_sums.specs.Tables.{HaveSameMenu}
use Rattle.chain_sums.proofs.TableLemmas.{menus_same}
use Rattle.chain_sums.proofs.tables.Tables.has_same_menu.Goals as goal

pub returns-in-Some-Some : goal.returns-in-Some-Some
returns-in-Some-Some c =
    let tables = c.args.self.now in
    let row = c.in-Some-Some.row.now in
    let other = c.in-Some-Some.other.now in
    OnTrue_from (nat_eq row.menu other.menu) (HaveSameMenu tables c.args.i c.args.j)
    (λ h chains are first second.
    menus_same chains c.args.i c.args.j tables.menus.items row other (c.in-Some-Some.ensures chains are first)
    (c.in-Some-Some.ensures' chains are second) ((Decides-eqb row.menu other.menu).0 h))
