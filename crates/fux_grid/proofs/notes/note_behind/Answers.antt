use Rattle.std.proofs.Common.{◌≡◌, ◌+◌, ◌-◌, ◌∷◌, ap, sym, ◌∙◌, arith}
use Rattle.fux_grid.specs.Cells.{first_of, notes_from}
use Rattle.fux_grid.specs.Columns.{line, earlier}
use Rattle.fux_grid.proofs.Histories.{notes-hold, notes-rest, notes-start, earlier-none}
use Rattle.fux_grid.proofs.notes.note_behind.Goals as goal

pub loop-j-preserved-in-Rest : goal.loop-j-preserved-in-Rest
loop-j-preserved-in-Rest c =
    let e : c.loop-j.j ≡ c.loop-j.j - 1 + 1 = omega arith in
    record {
      within = omega arith;
      same = c.loop-j.invariant.same ∙ ap (λ j. notes_from c.loop-j.held
          (line c.args.v (earlier c.args.score.now.columns j))) e
          ∙ notes-rest _ _ _ _ (omega arith) (sym c.cell.ensures ∙ c.in-Rest.is);
    }

pub loop-j-preserved : goal.loop-j-preserved
loop-j-preserved c =
    let e : c.loop-j.j ≡ c.loop-j.j - 1 + 1 = omega arith in
    record {
      within = omega arith;
      same = c.loop-j.invariant.same ∙ ap (λ j. notes_from c.loop-j.held
          (line c.args.v (earlier c.args.score.now.columns j))) e
          ∙ notes-hold _ _ _ _ _ (omega arith) (sym c.cell.ensures ∙ c.in-Hold.is);
    }

pub returns-in-Start : goal.returns-in-Start
returns-in-Start c =
    let e : c.loop-j.j ≡ c.loop-j.j - 1 + 1 = omega arith in
    let whole : notes_from 0 (line c.args.v (earlier c.args.score.now.columns c.args.n))
    ≡ record { start = c.loop-j.j - 1; len = c.loop-j.held + 1; pitch = c.in-Start.pitch }
    ∷ notes_from 0 (line c.args.v (earlier c.args.score.now.columns (c.loop-j.j - 1))) =
    c.loop-j.invariant.same ∙ ap (λ j. notes_from c.loop-j.held (line c.args.v (earlier c.args.score.now.columns j))) e
    ∙ notes-start _ _ _ _ _ (omega arith) (sym c.cell.ensures ∙ c.in-Start.is) in
    record { value = sym (ap first_of whole); start = omega arith; rest = whole }

pub returns-clause-value : goal.returns-clause-value
returns-clause-value c =
    let e : c.loop-j.j ≡ 0 = omega arith in
    sym (ap first_of (c.loop-j.invariant.same
    ∙ ap (λ j. notes_from c.loop-j.held (line c.args.v (earlier c.args.score.now.columns j))) e
    ∙ ap (λ t. notes_from c.loop-j.held (line c.args.v t)) (earlier-none c.args.score.now.columns)))
