use Rattle.std.proofs.Common.{◌≡◌, ◌+◌, None, ap, sym, ◌∙◌, if◌then◌else◌}
use Rattle.std.specs.List.{find}
use Rattle.cert_law.specs.Cases.{matter_of}
use Rattle.cert_law.specs.Writer.{is_no_better, least_break}
use Rattle.cert_text.specs.declared.claim.Claim.TheVariants.{Open, Floor}
use Rattle.fux_judge.specs.Penalties.{paid}
use Rattle.fux_judge.specs.Rules.{rules_read}
use Rattle.rule_law.specs.Voices.{has_rule}
use Rattle.cert_law.proofs.FirstLemmas.{find-same, first_floor}
use Rattle.cert_law.proofs.truth.first_claim.Goals as goal

pub returns-then-is_no_better : goal.returns-then-is_no_better
returns-then-is_no_better c = λ stated p judged tail.
    let t = matter_of c.args.case.now in
    let none : least_break t.exercise p ≡ None = sym
    (find-same (has_rule c.args.judged.now.broken.bits) _ judged.broken rules_read)
    ∙ ap (find (has_rule c.args.judged.now.broken.bits)) (sym c.every_rule.ensures.value)
    ∙ sym c.first_of.ensures ∙ c.in_default.is in
    let better = c.is_no_better.ensures p judged
    ∙ ap (λ n. is_no_better t.head p (n + c.args.judged.now.least + c.in-Some-tail.tail)) judged.paid
    ∙ ap (λ n. is_no_better t.head p (paid t.exercise t.sheet p + n + c.in-Some-tail.tail)) judged.least in
    sym (first_floor t.exercise t.sheet t.head stated p c.in-Some-tail.tail c.is_no_better.result
    (sym (c.is_setting.ensures p judged) ∙ c.if-is_setting.false) none (sym c.in-Some-tail.is ∙ tail) better
    ∙ ap (λ b. if b then Floor else Open) c.if-is_no_better.true)

pub returns-else-is_no_better : goal.returns-else-is_no_better
returns-else-is_no_better c = λ stated p judged tail.
    let t = matter_of c.args.case.now in
    let none : least_break t.exercise p ≡ None = sym
    (find-same (has_rule c.args.judged.now.broken.bits) _ judged.broken rules_read)
    ∙ ap (find (has_rule c.args.judged.now.broken.bits)) (sym c.every_rule.ensures.value)
    ∙ sym c.first_of.ensures ∙ c.in_default.is in
    let better = c.is_no_better.ensures p judged
    ∙ ap (λ n. is_no_better t.head p (n + c.args.judged.now.least + c.in-Some-tail.tail)) judged.paid
    ∙ ap (λ n. is_no_better t.head p (paid t.exercise t.sheet p + n + c.in-Some-tail.tail)) judged.least in
    sym (first_floor t.exercise t.sheet t.head stated p c.in-Some-tail.tail c.is_no_better.result
    (sym (c.is_setting.ensures p judged) ∙ c.if-is_setting.false) none (sym c.in-Some-tail.is ∙ tail) better
    ∙ ap (λ b. if b then Floor else Open) c.if-is_no_better.false)
