use Rattle.std.proofs.Common.{ap, ◌∙◌, false}
use Rattle.std.proofs.lemmas.Bool.{OnFalse_from}
use Rattle.std.specs.Prelude.{[], slice_index_or}
use Rattle.fux_grid.specs.Menus.{menu_of}
use Rattle.floor_tables.specs.Tables.{Task}
use Rattle.priced_floors.proofs.Steps.{step_by}
use Rattle.priced_floors.proofs.pricing.PricedSpacePricing.may_step.Goals as goal

pub returns : goal.returns
returns c =
    let self = c.args.self.now in
    OnFalse_from c.follows.result _
    (step_by self.space.now.exercise self.space.now.sheet self.keeps c.args.depth c.args.kept.now c.args.label
    c.column_kept-prev.result c.column-next.result.now.items c.column_kept-prev.ensures
    (c.column-next.ensures ∙ ap (λ (t : Task). slice_index_or (menu_of t.exercise c.args.depth) c.args.label [])
    c.tables.ensures.value)
    c.follows.result c.follows.ensures false)
