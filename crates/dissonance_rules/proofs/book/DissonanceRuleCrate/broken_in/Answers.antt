use Rattle.std.specs.Prelude.{refl}
use Rattle.std.proofs.Common.{ap, sym, ◌∙◌, arith}
use Rattle.std.proofs.lemmas.Bool.{cond-true}
use Rattle.rule_law.specs.Places.{reading_of}
use Rattle.rule_law.specs.Rulebooks.{RuleRow}
use Rattle.dissonance_rules.specs.Book.{at_once_row, is_late, late_row}
use Rattle.dissonance_rules.proofs.book.DissonanceRuleCrate.broken_in.Goals as goal

pub returns-then-is_late : goal.returns-then-is_late
returns-then-is_late c =
    let rule = c.args.rule in
    let s = c.args.score.now.columns in
    c.breaks_clash.ensures s 0 refl (omega arith) c.requires.place
    ∙ sym (ap (λ (it : RuleRow). reading_of (it.broken c.args.ex.now c.args.voices.bits) s c.args.i)
    (cond-true (is_late rule) (late_row rule) (at_once_row rule) (sym c.is_late.ensures ∙ c.if-is_late.true)))
