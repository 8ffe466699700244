use Rattle.std.proofs.Common.{◌≡◌, ◌+◌, ◌-◌, ap, sym, ◌∙◌, arith}
use Rattle.fux_grid.specs.Cells.{before_note}
use Rattle.fux_grid.specs.Columns.{line, earlier}
use Rattle.fux_grid.proofs.Histories.{before_note-hold, before_note-rest, before_note-start, before_note-first}
use Rattle.fux_grid.proofs.NoteLemmas.{held-more, first-no_hold}
use Rattle.fux_grid.proofs.notes.note_start.Goals as goal

pub loop-j-preserved : goal.loop-j-preserved
loop-j-preserved c =
    let e : c.loop-j.j ≡ c.loop-j.j - 1 + 1 = omega arith in
    record {
      within = omega arith;
      held = held-more _ _ _ _ _ (sym c.cell.ensures ∙ c.in-Hold.is) c.loop-j.invariant.held;
      same = c.loop-j.invariant.same ∙ before_note-hold _ _ _ _ (omega arith) (sym c.cell.ensures ∙ c.in-Hold.is)
          ∙ ap (λ j. before_note (line c.args.v (earlier c.args.score.now.columns j))) e;
    }

pub returns-in-Rest-clause-before : goal.returns-in-Rest-clause-before
returns-in-Rest-clause-before c =
    c.loop-j.invariant.same ∙ before_note-rest _ _ _ (omega arith) (sym c.cell.ensures ∙ c.in-Rest.is)

pub returns-in-Start-clause-before : goal.returns-in-Start-clause-before
returns-in-Start-clause-before c =
    c.loop-j.invariant.same ∙ before_note-start _ _ _ _ (omega arith) (sym c.cell.ensures ∙ c.in-Start.is)

pub returns-clause-before : goal.returns-clause-before
returns-clause-before c =
    let e : c.loop-j.j ≡ 0 = omega arith in
    c.loop-j.invariant.same ∙ ap (λ j. before_note (line c.args.v (earlier c.args.score.now.columns (j + 1)))) e
    ∙ before_note-first _ _ (omega arith)

pub returns-clause-begins : goal.returns-clause-begins
returns-clause-begins c = first-no_hold c.args.score.now.columns c.args.v c.kept.ensures.follows (omega arith)
