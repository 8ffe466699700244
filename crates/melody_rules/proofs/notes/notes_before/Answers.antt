use Rattle.std.proofs.Common.{List, ap, ◌<◌, ◌∷◌, length, arith, sym, subst, ◌∙◌}
use Rattle.fux_grid.specs.declared.cell.Cell.{Cell}
use Rattle.fux_grid.specs.Columns.{line, earlier}
use Rattle.fux_grid.proofs.Histories.{earlier-none, line-more}
use Rattle.melody_rules.specs.Notes.{IsNotesOf}
use Rattle.melody_rules.proofs.notes.notes_before.Goals as goal

pub loop-j-init : goal.loop-j-init
loop-j-init c =
    let P : List (List Cell) → Type 0 = λ behind. IsNotesOf (line c.args.v behind) c.silent-notes.result in
    subst P (sym (earlier-none c.args.score.now.columns)) c.silent-notes.ensures

pub loop-j-preserved : goal.loop-j-preserved
loop-j-preserved c =
    let P : List Cell → Type 0 = λ cells. IsNotesOf cells c.note.new.notes in
    let here : c.loop-j.j < length c.args.score.now.columns = omega arith in
    let more = line-more c.args.score.now.columns c.args.v c.loop-j.j here in
    let cell = ap (λ d. d ∷ line c.args.v (earlier c.args.score.now.columns c.loop-j.j)) c.cell.ensures in
    subst P (cell ∙ sym more) (c.note.ensures (line c.args.v (earlier c.args.score.now.columns c.loop-j.j))
    c.loop-j.invariant)
