use Rattle.std.proofs.Common.{◌+◌, ap, sym, ◌∙◌, add-one}
use Rattle.written_notes.specs.Bars.{bar_notes}
use Rattle.sheet_layout.specs.Pages.{rules_in, rules_with}
use Rattle.sheet_layout.proofs.system.rules_in.Goals as goal

pub loop-bar-preserved : goal.loop-bar-preserved
loop-bar-preserved c =
    let marks = c.args.marks.now in
    let voice = c.args.voice in
    let line = c.args.line.now in
    let bar = c.loop-bar.bar in
    c.rules_with-most.ensures
    ∙ ap (rules_with marks voice (bar + 1) c.loop-bar.most) (c.as_slice.ensures.value ∙ c.bar_notes-notes.ensures)
    ∙ ap (λ most. rules_with marks voice (bar + 1) most (bar_notes line bar)) c.loop-bar.invariant
    ∙ ap (λ n. rules_with marks voice n (rules_in marks voice line bar) (bar_notes line bar)) (add-one bar)
    ∙ ap (rules_in marks voice line) (sym (add-one bar))
