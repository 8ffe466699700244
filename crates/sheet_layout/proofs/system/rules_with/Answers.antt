use Rattle.std.proofs.Common.{◌+◌, ◌∷◌, ap, sym, ◌∙◌, max, drop, arith}
use Rattle.std.proofs.lemmas.List.{at_drop_more}
use Rattle.sheet_layout.specs.Pages.{rules_with}
use Rattle.sheet_layout.proofs.system.rules_with.Goals as goal

pub loop-note-preserved : goal.loop-note-preserved
loop-note-preserved c =
    let marks = c.args.marks.now in
    let voice = c.args.voice in
    let bar = c.args.bar in
    let notes = c.args.notes.now in
    let i = c.loop-note.note-index in
    let note = c.note-item.result in
    let count = c.loop-note.count in
    ap (λ most. rules_with marks voice bar most (drop (i + 1) notes))
    (c.max-count.ensures ∙ ap (λ n. max n count) c.rule_count.ensures)
    ∙ ap (λ other. rules_with marks voice bar count (other ∷ drop (i + 1) notes)) c.note-item.is
    ∙ sym (at_drop_more (rules_with marks voice bar count) notes i note (omega arith)) ∙ c.loop-note.invariant
