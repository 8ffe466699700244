use Rattle.std.proofs.Common.{◌≡◌, ℕ, ◌+◌, sym, ◌∙◌, arith}
use Rattle.std.specs.List.{sum_by}
use Rattle.fux_judge.specs.Links.{others_at_once}
use Rattle.fux_judge.specs.Rules.{all_sets, rules_at_once}
use Rattle.fux_judge.specs.Moments.{prices_then, toll_then}
use Rattle.fux_judge.proofs.QuietLemmas.{all_numbers, none_charged, none_priced, quiet_then}
use Rattle.fux_judge.proofs.verdict.paid_now.Goals as goal

pub returns-then-is_quiet-clause-paid : goal.returns-then-is_quiet-clause-paid
returns-then-is_quiet-clause-paid c = λ p after.
    let m = c.args.m.now in
    let quiet = quiet_then p m after.state.newest.count (sym c.is_quiet.ensures ∙ c.if-is_quiet.true) in
    none_together (sum_by (toll_then c.args.sheet.now p c.args.m.now) others_at_once)
    (sum_by (λ rule. prices_then all_sets rule p c.args.m.now) rules_at_once)
    (none_charged m.exercise.now p m.column.now quiet c.args.sheet.now)
    (none_priced m.exercise.now p m.column.now quiet rules_at_once all_numbers)
  where
    none_together : (a b : ℕ) → a ≡ 0 → b ≡ 0 → 0 ≡ a + b
    none_together a b e f = omega arith
