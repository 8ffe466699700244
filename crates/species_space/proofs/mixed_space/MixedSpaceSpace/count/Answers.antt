use Rattle.std.proofs.Common.{length, ap, sym, ◌∙◌, arith}
use Rattle.std.proofs.lemmas.List.{length-map}
use Rattle.fux_grid.specs.Menus.{menu_of}
use Rattle.species_space.specs.Paths.{prefix_at, length-columns_on}
use Rattle.species_space.proofs.mixed_space.MixedSpaceSpace.count.Goals as goal

pub columns-requires : goal.columns-requires
columns-requires c =
    let ex = c.args.self.now.exercise in
    omega (
      arith,
      c.len.ensures ex (prefix_at ex c.requires.path) c.requires.at.state,
      length-columns_on ex 0 c.requires.path,
      c.requires.above,
    )

pub returns-clause-value : goal.returns-clause-value
returns-clause-value c = λ path at.
    let ex = c.args.self.now.exercise in
    sym (length-map c.columns.result.now (λ column. column.items)) ∙ ap length c.columns.ensures.value
    ∙ ap (λ i. length (menu_of ex i)) (c.len.ensures ex (prefix_at ex path) at.state ∙ length-columns_on ex 0 path)
