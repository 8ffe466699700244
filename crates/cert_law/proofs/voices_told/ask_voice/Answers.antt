use Rattle.std.proofs.Common.{◌≡◌, Option, sym, ap, ◌∙◌, subst}
use Rattle.cert_law.specs.VoicesTold.{IsVoiceTold}
use Rattle.cert_law.specs.declared.voices_told.VoiceTold.{VoiceTold}
use Rattle.chain_sums.proofs.CellTests.{cells-Decides}
use Rattle.fux_grid.specs.Cells.{cell_in}
use Rattle.fux_judge.specs.Told.{least_by_cell}
use Rattle.cert_law.proofs.voices_told.ask_voice.Goals as goal

pub returns-then-eq-clause-least : goal.returns-then-eq-clause-least
returns-then-eq-clause-least c = λ p is.
    let ex = c.args.ex.now in
    let v = c.args.v in
    let known = subst (λ (o : Option VoiceTold). IsVoiceTold ex c.args.state.now v o) c.in-Some.is c.requires.told in
    let cell = c.cell_of-cell.result in
    let same : c.in-Some.voice.cell ≡ cell = (cells-Decides c.in-Some.voice.cell cell).0 (sym c.eq.ensures ∙ c.if-eq.true) in
    known p is
    ∙ ap (least_by_cell ex p v) (same ∙ c.cell_of-cell.ensures ∙ ap (λ col. cell_in col v) c.as_slice.ensures.value)

pub returns-clause-told : goal.returns-clause-told
returns-clause-told c = λ p is.
    let v = c.args.v in
    c.line_break-least.ensures p is
    ∙ ap (least_by_cell c.args.ex.now p v)
    (sym (c.cell_of-cell.ensures ∙ ap (λ col. cell_in col v) c.as_slice.ensures.value))
