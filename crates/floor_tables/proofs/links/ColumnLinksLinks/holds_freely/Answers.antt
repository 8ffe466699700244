use Rattle.std.proofs.Common.{sym, ◌∙◌}
use Rattle.std.specs.Prelude.{not}
use Rattle.std.proofs.lemmas.Bool.{OnTrue_from, not-true}
use Rattle.chain_sums.specs.Still.{HoldingIsFree}
use Rattle.floor_tables.specs.Floors.{chains_of}
use Rattle.floor_tables.proofs.FreeHolds.{holding_is_free}
use Rattle.floor_tables.proofs.links.ColumnLinksLinks.holds_freely.Goals as goal

pub returns : goal.returns
returns c =
    let task = c.args.self.now in
    OnTrue_from (not c.begins_bar.result) (HoldingIsFree (chains_of task.exercise task.sheet) c.args.i)
    (λ h. holding_is_free task.exercise task.sheet c.args.i
    (sym c.begins_bar.ensures ∙ not-true c.begins_bar.result h))
