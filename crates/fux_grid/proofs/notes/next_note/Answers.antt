use Rattle.std.proofs.Common.{Some}
use Rattle.fux_grid.proofs.NoteLemmas.{next-from_onset, next-exactly}
use Rattle.fux_grid.proofs.notes.next_note.Goals as goal

pub returns-clause-found : goal.returns-clause-found
returns-clause-found c =
    (next-exactly c.args.score.now.columns c.args.v c.args.i (Some _)
    (next-from_onset c.args.score.now.columns c.args.v c.args.i c.note_end.result c.in_ok-onset.onset
    c.in_ok-onset.ensures.first c.note_end.ensures.after c.note_end.ensures.held c.note_end.ensures.ends)).0

pub returns-clause-none : goal.returns-clause-none
returns-clause-none c =
    (next-exactly c.args.score.now.columns c.args.v c.args.i (Some _)
    (next-from_onset c.args.score.now.columns c.args.v c.args.i c.note_end.result c.in_ok-onset.onset
    c.in_ok-onset.ensures.first c.note_end.ensures.after c.note_end.ensures.held c.note_end.ensures.ends)).1
