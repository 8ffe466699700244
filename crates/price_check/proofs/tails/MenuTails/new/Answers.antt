use Rattle.std.proofs.Common.{ap, sym, ◌∙◌, subst}
use Rattle.floor_tables.specs.Tables.{Task}
use Rattle.fux_grid.specs.declared.exercise.Exercise.{Exercise}
use Rattle.price_check.specs.Blocks.{AreAllBlocks}
use Rattle.price_check.proofs.tails.MenuTails.new.Goals as goal

pub invariant_of-result : goal.invariant_of-result
invariant_of-result c =
    subst (λ (ex : Exercise). AreAllBlocks ex c.in_ok-blocks.blocks.items)
    (sym (ap (λ (t : Task). t.exercise) c.in_ok-told.ensures ∙ c.requires.same)) c.in_ok-blocks.ensures
