use Rattle.std.proofs.Common.{arith}
use Rattle.rule_law.specs.Voices.{voice_pairs}
use Rattle.motion_rules.proofs.WayLemmas.{told_by_headings}
use Rattle.motion_rules.proofs.rows.four_alike.Goals as goal

pub returns-clause-value : goal.returns-clause-value
unfolding voice_pairs
returns-clause-value c =
    let before = c.args.before.now in
    let now = c.args.now.now in
    omega (
      arith,
      told_by_headings before now 0 1 (λ b. b) _ _ _ c.heading_of-first.ensures c.heading_of-second.ensures c.alike.ensures.value,
      told_by_headings before now 0 2 (λ b. b) _ _ _ c.heading_of-first.ensures c.heading_of-third.ensures c.alike-2.ensures.value,
      told_by_headings before now 0 3 (λ b. b) _ _ _ c.heading_of-first.ensures c.heading_of-fourth.ensures c.alike-3.ensures.value,
      told_by_headings before now 1 2 (λ b. b) _ _ _ c.heading_of-second.ensures c.heading_of-third.ensures c.alike-4.ensures.value,
      told_by_headings before now 1 3 (λ b. b) _ _ _ c.heading_of-second.ensures c.heading_of-fourth.ensures c.alike-5.ensures.value,
      told_by_headings before now 2 3 (λ b. b) _ _ _ c.heading_of-third.ensures c.heading_of-fourth.ensures c.alike-6.ensures.value,
    )
