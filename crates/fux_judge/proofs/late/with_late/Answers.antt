use Rattle.std.proofs.Common.{◌≡◌, ◌-◌, ◌==◌, ◌&&◌, ◌||◌, ℕ, Bool, true, false, List, [], ◌∷◌, take, get_or, refl, ap, sym, ◌∙◌, arith}
use Rattle.std.specs.List.{list_any}
use Rattle.std.proofs.lemmas.Bool.{or_parts}
use Rattle.std.proofs.lemmas.List.Folds.{list_any_more}
use Rattle.std.proofs.lemmas.List.{take_all}
use Rattle.rule_law.specs.Voices.{has_rule}
use Rattle.fux_judge.specs.Rules.{late_rules}
use Rattle.fux_judge.specs.Steps.{breaks_late}
use Rattle.fux_judge.proofs.LateLemmas.{none_idle, placeless_settle}
use Rattle.fux_judge.proofs.late.with_late.Goals as goal

or_right : (a b c : Bool) → ((a || b) || c) ≡ (a || (b || c))
or_right true b c = refl
or_right false b c = refl

-- where no rule passes a test, a set has no rule more by those that pass it
none_more : (b : Bool) (test : ℕ → Bool) (r : ℕ) (rules : List ℕ) → list_any test rules ≡ false
    → b ≡ (b || list_any (λ rule. test rule && r == rule) rules)
none_more b test r rules h = same b ∙ ap (λ a. b || a) (sym (none rules h))
  where
    same : (a : Bool) → a ≡ (a || false)
    same true = refl
    same false = refl

    none : (xs : List ℕ) → list_any test xs ≡ false → list_any (λ rule. test rule && r == rule) xs ≡ false
    none [] k = refl
    none (x ∷ xs) k =
        let parts = or_parts (test x) (list_any test xs) k in
        ap (λ a. (a && r == x) || list_any (λ rule. test rule && r == rule) xs) parts.0 ∙ none xs parts.1

pub settles_late_break-requires-clause-idle : goal.settles_late_break-requires-clause-idle
settles_late_break-requires-clause-idle c =
    let before = c.args.next.now.newest.len - 1 in
    placeless_settle c.args.ex.now before 0 (none_idle c.args.ex.now before)

pub returns-then-not-settles_late_break : goal.returns-then-not-settles_late_break
returns-then-not-settles_late_break c = λ p col come r.
    none_more (has_rule c.args.set.bits r) (breaks_late c.args.ex.now p col) r late_rules
    (sym (c.settles_late_break.ensures p col come) ∙ c.if-not-settles_late_break.true)

pub loop-rule-preserved : goal.loop-rule-preserved
loop-rule-preserved c = λ p col come r.
    let rules = c.every_late_rule-rule-items.result.now in
    let test : ℕ → Bool = λ rule. breaks_late c.args.ex.now p col rule && r == rule in
    let rule = get_or rules c.loop-rule.rule-index 0 in
    c.with-broken.ensures r
    ∙ ap (λ b. b || (c.is_broken_late-on.result && r == rule)) (c.loop-rule.invariant p col come r)
    ∙ ap (λ b. (has_rule c.args.set.bits r || list_any test (take c.loop-rule.rule-index rules)) || (b && r == rule))
    (c.is_broken_late-on.ensures p col come)
    ∙ or_right (has_rule c.args.set.bits r) (list_any test (take c.loop-rule.rule-index rules)) (test rule)
    ∙ ap (λ b. has_rule c.args.set.bits r || b)
    (sym (list_any_more test rules c.loop-rule.rule-index 0 (omega (arith, c.loop-rule-test.true))))

pub returns : goal.returns
returns c = λ p col come r.
    let rules = c.every_late_rule-rule-items.result.now in
    let test : ℕ → Bool = λ rule. breaks_late c.args.ex.now p col rule && r == rule in
    c.loop-rule.invariant p col come r
    ∙ ap (λ xs. has_rule c.args.set.bits r || list_any test xs)
    (take_all c.loop-rule.rule-index rules (omega (arith, c.loop-rule-test.false)))
    ∙ ap (λ xs. has_rule c.args.set.bits r || list_any test xs) c.every_late_rule-rule-items.ensures.value
