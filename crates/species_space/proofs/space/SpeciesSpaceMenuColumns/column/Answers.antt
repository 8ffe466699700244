use Rattle.std.proofs.Common.{◌<◌, [], length, slice_index_or, ap, sym, ◌∙◌, subst}
use Rattle.fux_grid.specs.Exercises.{columns_in}
use Rattle.fux_grid.specs.Menus.{menu_of}
use Rattle.floor_tables.specs.Tables.{Task}
use Rattle.species_space.proofs.space.SpeciesSpaceMenuColumns.column.Goals as goal

pub column-requires-clause-place : goal.column-requires-clause-place
column-requires-clause-place c =
    subst (λ (t : Task). c.args.i < columns_in t.exercise) (sym (c.self.invariant.1 ∙ c.self.view_is)) c.requires.place

pub column-requires-clause-within : goal.column-requires-clause-within
column-requires-clause-within c =
    subst (λ (t : Task). c.args.k < length (menu_of t.exercise c.args.i)) (sym (c.self.invariant.1 ∙ c.self.view_is))
    c.requires.within

pub returns : goal.returns
returns c =
    c.column.ensures
    ∙ ap (λ (t : Task). slice_index_or (menu_of t.exercise c.args.i) c.args.k []) (c.self.invariant.1 ∙ c.self.view_is)
