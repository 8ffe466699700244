use Rattle.std.proofs.Common.{subst, ◌∙◌}
use Rattle.std.proofs.lemmas.List.{get_or_default}
use Rattle.chain_sums.specs.declared.menu.Menu.{Menu}
use Rattle.chain_sums.specs.Menus.{HaveSameColumns}
use Rattle.chain_sums.proofs.tables.number_of_same.Goals as goal

pub returns-then-has_columns_of-clause-same : goal.returns-then-has_columns_of-clause-same
returns-then-has_columns_of-clause-same c =
    subst (λ (kept : Menu). HaveSameColumns kept c.args.menu.now)
    (c.index-menus-number.is ∙ get_or_default c.args.menus.now c.loop-number.number c.index-menus-number.result
    c.args.menu.now c.loop-number-test.true)
    c.if-has_columns_of.ensures
