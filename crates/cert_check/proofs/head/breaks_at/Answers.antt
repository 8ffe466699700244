use Rattle.std.proofs.Common.{◌&&◌, ℕ, Bool, ap, sym, ◌∙◌, arith}
use Rattle.std.specs.List.{list_any}
use Rattle.std.proofs.lemmas.List.Folds.{list_any_at}
use Rattle.fux_judge.specs.Penalties.{is_strict_at}
use Rattle.fux_judge.specs.Rules.{all_sets, is_broken}
use Rattle.cert_check.proofs.head.breaks_at.Goals as goal

pub returns-then-breaks_for_some : goal.returns-then-breaks_for_some
returns-then-breaks_for_some c =
    let test : ℕ → Bool = λ rule. list_any
    (λ voices. is_broken rule c.args.ex.now voices c.args.score.now.columns c.args.i
    && is_strict_at rule c.args.ex.now voices c.args.i) all_sets in
    let rules = c.every_rule-rule-items.result.now in
    let passes = list_any_at test rules c.loop-rule.rule-index 0 (omega (arith, c.loop-rule-test.true))
    (sym c.breaks_for_some.ensures ∙ c.if-breaks_for_some.true) in
    sym passes ∙ ap (list_any test) c.every_rule-rule-items.ensures.value
