use Rattle.std.proofs.Common.{List, reverse, sym, ◌∙◌, subst, true≢false}
use Rattle.std.proofs.lemmas.Bool.{OnFalse_from}
use Rattle.fux_grid.specs.declared.cell.Cell.{Cell}
use Rattle.fux_grid.specs.Columns.{ColumnFollows, newest_column}
use Rattle.species_space.proofs.space.follows.Goals as goal

pub returns-then-told-clause-follows : goal.returns-then-told-clause-follows
returns-then-told-clause-follows c = λ yes. c.requires.told c.if-told.true

pub returns-clause-follows : goal.returns-clause-follows
returns-clause-follows c = λ yes p is.
    subst (λ (col : List Cell). ColumnFollows (newest_column (reverse p)) col) c.as_slice.ensures.value
    (subst (λ (b : List Cell). ColumnFollows b c.as_slice.result.now) (c.before-before.ensures p is)
    (c.cells_follow.ensures.0 yes))

pub returns-clause-strays : goal.returns-clause-strays
returns-clause-strays c = λ p is.
    OnFalse_from c.cells_follow.result _
    (λ no there. true≢false
    (sym (c.cells_follow.ensures.1
    (subst (λ (b : List Cell). ColumnFollows b c.as_slice.result.now) (sym (c.before-before.ensures p is))
    (subst (λ (col : List Cell). ColumnFollows (newest_column (reverse p)) col) (sym c.as_slice.ensures.value) there)))
    ∙ no))
