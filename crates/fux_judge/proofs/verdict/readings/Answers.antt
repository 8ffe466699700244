use Rattle.std.proofs.Common.{◌≡◌, ℕ, ◌+◌, ◌==◌, ap, sym, ◌∙◌, arith}
use Rattle.std.proofs.lemmas.Nat.Bits.{bit_at-zero}
use Rattle.std.specs.List.{sum_by}
use Rattle.fux_judge.specs.Links.{others_at_once}
use Rattle.fux_judge.specs.Rules.{all_sets, rules_at_once}
use Rattle.fux_judge.specs.Moments.{prices_then, toll_then}
use Rattle.fux_judge.proofs.QuietLemmas.{all_numbers, none_broken, none_charged, none_priced, quiet_then}
use Rattle.fux_judge.proofs.verdict.readings.Goals as goal

pub returns-then-is_quiet-clause-broken : goal.returns-then-is_quiet-clause-broken
returns-then-is_quiet-clause-broken c = λ p after r.
    ap (λ n. n == 1) (bit_at-zero r)
    ∙ sym (none_broken c.args.m.now.exercise.now p c.args.m.now.column.now
    (quiet_then p c.args.m.now after.state.newest.count (sym c.is_quiet.ensures ∙ c.if-is_quiet.true)) rules_at_once
    all_numbers r)

pub returns-then-is_quiet-clause-paid : goal.returns-then-is_quiet-clause-paid
returns-then-is_quiet-clause-paid c = λ p after.
    let m = c.args.m.now in
    let quiet = quiet_then p m after.state.newest.count (sym c.is_quiet.ensures ∙ c.if-is_quiet.true) in
    none_together (sum_by (toll_then c.args.sheet.now p c.args.m.now) others_at_once)
    (sum_by (λ rule. prices_then all_sets rule p c.args.m.now) rules_at_once)
    (none_charged m.exercise.now p m.column.now quiet c.args.sheet.now)
    (none_priced m.exercise.now p m.column.now quiet rules_at_once all_numbers)
  where
    none_together : (a b : ℕ) → a ≡ 0 → b ≡ 0 → 0 ≡ a + b
    none_together a b e f = omega arith

pub returns-clause-broken : goal.returns-clause-broken
returns-clause-broken c = λ p after r. c.broken_of.ensures p after r ∙ c.rules_left.ensures.kept p after r
