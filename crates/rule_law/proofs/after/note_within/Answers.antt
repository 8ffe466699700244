use Rattle.std.proofs.Common.{ap, sym, ◌∙◌, arith}
use Rattle.fux_grid.specs.Cells.{first_of}
use Rattle.rule_law.proofs.WithinLemmas.{notes-no_start, notes-none, notes-start}
use Rattle.rule_law.proofs.after.note_within.Goals as goal

pub returns-in-Start-clause-value : goal.returns-in-Start-clause-value
returns-in-Start-clause-value g c = λ s first shown from.
    let size = g.met.C.ColumnsAround.counted c.args.around.now c.args.ex.now s first shown in
    sym (ap first_of (c.loop-j.invariant s first shown from
    ∙ notes-start s c.args.end c.args.v (omega (arith, c.requires.within, size)) c.loop-j.j c.cell_around.result
    c.in-Start.pitch (omega (arith, c.loop-j-test.true))
    (c.cell_around.ensures s first shown (omega (arith, from, c.loop-j.auto.j)))
    c.in-Start.is))

pub returns-in-Start-clause-rest : goal.returns-in-Start-clause-rest
returns-in-Start-clause-rest g c = λ s first shown from.
    let size = g.met.C.ColumnsAround.counted c.args.around.now c.args.ex.now s first shown in
    c.loop-j.invariant s first shown from
    ∙ notes-start s c.args.end c.args.v (omega (arith, c.requires.within, size)) c.loop-j.j c.cell_around.result
    c.in-Start.pitch (omega (arith, c.loop-j-test.true))
    (c.cell_around.ensures s first shown (omega (arith, from, c.loop-j.auto.j)))
    c.in-Start.is

pub loop-j-preserved : goal.loop-j-preserved
loop-j-preserved g c = λ s first shown from.
    let size = g.met.C.ColumnsAround.counted c.args.around.now c.args.ex.now s first shown in
    c.loop-j.invariant s first shown from
    ∙ notes-no_start s c.args.end c.args.v (omega (arith, c.requires.within, size)) c.loop-j.j
    c.cell_around.result (omega (arith, c.loop-j-test.true))
    (c.cell_around.ensures s first shown (omega (arith, from, c.loop-j.auto.j)))
    c.in_default.not-Start

pub returns-clause-value : goal.returns-clause-value
returns-clause-value g c = λ s first shown from.
    let size = g.met.C.ColumnsAround.counted c.args.around.now c.args.ex.now s first shown in
    sym (ap first_of (c.loop-j.invariant s first shown from
    ∙ notes-none s c.args.end c.args.v (omega (arith, c.requires.within, size)) c.loop-j.j
    (omega (arith, c.loop-j-test.false))))
