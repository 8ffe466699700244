use Rattle.std.proofs.Common.{ℕ, ◌*◌, Bool, sym, ap, ◌∙◌, arith}
use Rattle.fux_grid.specs.Cells.{cell_in}
use Rattle.fux_grid.specs.Exercises.{given_at}
use Rattle.fux_grid.specs.Givens.{fits}
use Rattle.fux_text.specs.Fitting.{line_fits}
use Rattle.fux_text.proofs.CountSteps.{all-next, all-stop}
use Rattle.fux_text.proofs.fitting.line_fits.Goals as goal

pub loop-i-preserved : goal.loop-i-preserved
loop-i-preserved c =
    let ex = c.args.ex.now in
    let v = c.args.v in
    let cells = c.args.cells.now in
    let i = c.loop-i.i in
    let p : ℕ → Bool = λ k. fits (given_at ex k v) (cell_in cells k) in
    all-next p i (8 * ex.bars) (line_fits ex v cells) (omega arith)
    (sym (c.fits.ensures ∙ ap (λ given. fits given c.cell_of.result) c.given_at.ensures
    ∙ ap (fits (given_at ex i v)) c.cell_of.ensures) ∙ c.if-not-fits.false) c.loop-i.invariant

pub returns-then-not-fits : goal.returns-then-not-fits
returns-then-not-fits c =
    let ex = c.args.ex.now in
    let v = c.args.v in
    let cells = c.args.cells.now in
    let i = c.loop-i.i in
    let p : ℕ → Bool = λ k. fits (given_at ex k v) (cell_in cells k) in
    sym (all-stop p i (8 * ex.bars) (line_fits ex v cells) (omega arith)
    (sym (c.fits.ensures ∙ ap (λ given. fits given c.cell_of.result) c.given_at.ensures
    ∙ ap (fits (given_at ex i v)) c.cell_of.ensures) ∙ c.if-not-fits.true) c.loop-i.invariant)
