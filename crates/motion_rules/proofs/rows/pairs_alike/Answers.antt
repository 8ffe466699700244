use Rattle.std.proofs.Common.{◌≤◌, length, arith}
use Rattle.rule_law.specs.Voices.{voice_pairs}
use Rattle.motion_rules.proofs.WayLemmas.{absent_pair}
use Rattle.motion_rules.proofs.rows.pairs_alike.Goals as goal

pub returns-then-now-le2-clause-value : goal.returns-then-now-le2-clause-value
unfolding voice_pairs
returns-then-now-le2-clause-value c =
    let before = c.args.before.now in
    let now = c.args.now.now in
    let two : length now ≤ 2 = omega (arith, c.if-now-le2.true) in
    omega (
      arith,
      c.two_alike.ensures.value,
      absent_pair before now 0 2 two,
      absent_pair before now 0 3 (omega (arith, two)),
      absent_pair before now 1 2 two,
      absent_pair before now 1 3 (omega (arith, two)),
      absent_pair before now 2 3 (omega (arith, two)),
    )
