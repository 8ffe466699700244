use Rattle.std.proofs.Common.{ap, sym, ◌∙◌, arith}
use Rattle.dissonance_rules.specs.Passing.{has_ornaments}
use Rattle.dissonance_rules.proofs.PassingReadings.{closed_last, open_ornament, open_plain}
use Rattle.dissonance_rules.proofs.passing.is_open_clash.Goals as goal

pub returns-then-reaches_last_bar : goal.returns-then-reaches_last_bar
returns-then-reaches_last_bar g c = λ s first shown from.
    let size = g.met.C.ColumnsAround.counted c.args.around.now c.args.ex.now s first shown in
    closed_last c.args.ex.now s c.args.i c.args.end c.args.v c.args.w c.requires.place
    (omega (arith, c.requires.within, size))
    c.cells.result.now (c.cells.ensures s first shown from) c.if-reaches_last_bar.ensures

pub returns-then-has_ornaments : goal.returns-then-has_ornaments
returns-then-has_ornaments g c = λ s first shown from.
    let size = g.met.C.ColumnsAround.counted c.args.around.now c.args.ex.now s first shown in
    open_ornament c.args.ex.now s c.args.i c.args.end c.args.v c.args.w c.requires.place
    (omega (arith, c.requires.within, size))
    c.cells.result.now (c.cells.ensures s first shown from) (sym c.if-not-starts_in_clash.ensures)
    (sym c.if-reaches_last_bar.ensures)
    c.next_notes-next.result.second (c.next_notes-next.ensures.second s first shown from)
    (sym (ap has_ornaments c.species_of.ensures.value) ∙ sym c.if-has_ornaments.ensures) c.is_none.result
    c.is_none.ensures

pub returns : goal.returns
returns g c = λ s first shown from.
    let size = g.met.C.ColumnsAround.counted c.args.around.now c.args.ex.now s first shown in
    open_plain c.args.ex.now s c.args.i c.args.end c.args.v c.args.w c.requires.place
    (omega (arith, c.requires.within, size))
    c.cells.result.now (c.cells.ensures s first shown from) (sym c.if-not-starts_in_clash.ensures)
    (sym c.if-reaches_last_bar.ensures)
    c.next_notes-next.result.first (c.next_notes-next.ensures.first s first shown from)
    (sym (ap has_ornaments c.species_of.ensures.value) ∙ sym c.if-has_ornaments.ensures) c.is_none-2.result
    c.is_none-2.ensures
