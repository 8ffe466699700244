use Rattle.std.proofs.Common.{◌≡◌, None, ap, sym, ◌∙◌}
use Rattle.fux_grid.specs.declared.cell.Cell.TheVariants.{Rest}
use Rattle.fux_grid.specs.Cells.{pitch_of}
use Rattle.fux_grid.specs.Columns.{cell_at}
use Rattle.fux_grid.proofs.NoteLemmas.{sounds-through, rest_if_silent, rest_if_neither, at-exactly}
use Rattle.fux_grid.proofs.notes.note_at.Goals as goal

pub returns-in-Start-clause-sounds : goal.returns-in-Start-clause-sounds
returns-in-Start-clause-sounds c =
    sym (sounds-through c.args.score.now.columns c.args.v c.kept.ensures.follows c.note_start-start.result c.args.i
    c.note_start-start.ensures.bound c.requires c.note_start-start.ensures.held)
    ∙ ap pitch_of (sym c.cell.ensures ∙ c.in-Start.is)

rests : (c : goal.In_default) → cell_at c.args.score.now.columns c.args.v c.args.i ≡ Rest
rests c =
    let begins_rest : cell_at c.args.score.now.columns c.args.v c.note_start-start.result
    ≡ Rest = rest_if_neither _ c.note_start-start.ensures.begins
    (λ p e. c.in_default.not-Start p (c.cell.ensures ∙ e)) in
    rest_if_silent _
    (sym (sounds-through c.args.score.now.columns c.args.v c.kept.ensures.follows c.note_start-start.result c.args.i
    c.note_start-start.ensures.bound c.requires c.note_start-start.ensures.held)
    ∙ ap pitch_of begins_rest)

pub returns-in_default-clause-found : goal.returns-in_default-clause-found
returns-in_default-clause-found c = (at-exactly c.args.score.now.columns c.args.v c.args.i None (rests c)).0

pub returns-in_default-clause-rest : goal.returns-in_default-clause-rest
returns-in_default-clause-rest c = (at-exactly c.args.score.now.columns c.args.v c.args.i None (rests c)).1
