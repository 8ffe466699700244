use Rattle.std.proofs.Common.{◌≡◌, ap, ◌∙◌, arith}
use Rattle.std.specs.Prelude.{count_by, nat_le}
use Rattle.std.specs.Int.{from_bool}
use Rattle.fux_pitch.specs.Pitch.{same_pitch}
use Rattle.rule_law.proofs.MenuStarts.{as_number-bound}
use Rattle.melody_rules.proofs.StrikeLemmas.{beyond-bound}
use Rattle.cantus_space.proofs.NodeLemmas.{struck_times}
use Rattle.cantus_space.proofs.node.CantusNode.beyond_with.Goals as goal

pub returns : goal.returns
returns c = λ behind kept.
    let again : c.from.result ≡ from_bool (nat_le 4 (count_by (same_pitch c.args.pitch) behind)) = c.from.ensures
    ∙ ap (λ n. from_bool (nat_le 4 n)) (c.times_struck.ensures
    ∙ ap (count_by (same_pitch c.args.pitch)) c.pitches.ensures
    ∙ struck_times behind c.args.self.now kept c.args.pitch) in
    omega (
      arith,
      c.saturating_add.ensures,
      again,
      kept.beyond,
      kept.count,
      c.requires,
      beyond-bound behind,
      as_number-bound (nat_le 4 (count_by (same_pitch c.args.pitch) behind)),
    )
