use Rattle.std.proofs.Common.{ap, sym, ◌∙◌, arith}
use Rattle.std.specs.Prelude.{if◌then◌else◌}
use Rattle.rule_law.specs.Pairs.{count_pairs}
use Rattle.motion_rules.specs.Runs.{four_bar_lines_at, keep_on}
use Rattle.motion_rules.proofs.RunLemmas.{count_pairs-written}
use Rattle.motion_rules.proofs.runs.imperfect_runs.Goals as goal

pub returns-clause-value : goal.returns-clause-value
returns-clause-value g c = λ s first shown near here.
    let i = c.args.i in
    let now = c.cells-now.ensures s first shown (omega (arith, near)) in
    count_pairs-written (keep_on (four_bar_lines_at s i)) _ _ _ _ _ _
    (c.keeps_on.ensures.value s first shown near here now) (c.keeps_on-2.ensures.value s first shown near here now)
    (c.keeps_on-3.ensures.value s first shown near here now) (c.keeps_on-4.ensures.value s first shown near here now)
    (c.keeps_on-5.ensures.value s first shown near here now) (c.keeps_on-6.ensures.value s first shown near here now)
    ∙ ap (λ b. if b then count_pairs (keep_on (four_bar_lines_at s i)) else 0)
    (sym (sym c.ends_four_bars.ensures ∙ c.if-not-ends_four_bars.false))

pub returns-then-not-ends_four_bars-clause-value : goal.returns-then-not-ends_four_bars-clause-value
returns-then-not-ends_four_bars-clause-value g c = λ s first shown near here.
    ap (λ b. if b then count_pairs (keep_on (four_bar_lines_at s c.args.i)) else 0)
    (sym (sym c.ends_four_bars.ensures ∙ c.if-not-ends_four_bars.true))
