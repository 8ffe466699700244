use Rattle.std.proofs.Common.{Bool, ap, sym, ◌∙◌, refl}
use Rattle.std.specs.Prelude.{pos, ◌-ℤ◌, int_lt, not, ◌&&◌}
use Rattle.melody_rules.proofs.LineLemmas.{widens_by}
use Rattle.melody_rules.proofs.notes.widens.Goals as goal

pub returns-then-spans_over : goal.returns-then-spans_over
returns-then-spans_over c = λ cells r.
    let before : Bool = c.spans_over-then-spans_over.result in
    ap (λ b. b && not before) (sym c.if-spans_over.true)
    ∙ widens_by c.in-Start.pitch cells c.args.notes.now c.args.now c.in-Start.is r c.semitone-key.result
    c.higher.result c.lower.result
    c.semitone-key.ensures.value c.higher.ensures c.lower.ensures c.spans_over.result before c.spans_over.ensures
    c.spans_over-then-spans_over.ensures

pub returns-else-spans_over : goal.returns-else-spans_over
returns-else-spans_over c = λ cells r.
    let before : Bool = int_lt (pos 16) (pos c.args.notes.now.greatest -ℤ pos c.args.notes.now.least) in
    c.if-spans_over.false
    ∙ ap (λ b. b && not before) (sym c.if-spans_over.false)
    ∙ widens_by c.in-Start.pitch cells c.args.notes.now c.args.now c.in-Start.is r c.semitone-key.result
    c.higher.result c.lower.result
    c.semitone-key.ensures.value c.higher.ensures c.lower.ensures c.spans_over.result before c.spans_over.ensures refl
