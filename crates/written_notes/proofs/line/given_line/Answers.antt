use Rattle.std.proofs.Common.{◌≡◌, suc, [], ap, sym, ◌∙◌, add-one}
use Rattle.written_notes.proofs.Steps.{mapped-more}
use Rattle.written_notes.specs.Lines.{given_cell, sheet_cell}
use Rattle.fux_grid.specs.Exercises.{given_at}
use Rattle.written_notes.proofs.line.given_line.Goals as goal

pub loop-i-preserved : goal.loop-i-preserved
loop-i-preserved c =
    let ex = c.args.ex.now in
    let v = c.args.v in
    let i = c.loop-i.i in
    let next : c.sheet_cell-cell.result ≡ given_cell ex v (suc i) =
    c.sheet_cell-cell.ensures ∙ ap (λ g. sheet_cell g c.loop-i.cell) c.given_at.ensures
    ∙ ap (λ b. sheet_cell (given_at ex i v) b) c.loop-i.invariant.last in record {
      made = mapped-more (λ k. given_cell ex v (suc k)) i [] c.loop-i.line.items c.push.new.self.items _
          c.loop-i.invariant.made c.in_ok-push.ensures.items next;
      last = next ∙ ap (given_cell ex v) (sym (add-one i));
    }
