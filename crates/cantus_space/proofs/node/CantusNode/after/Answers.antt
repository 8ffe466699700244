use Rattle.std.proofs.Common.{◌≡◌, ℕ, suc, ◌+◌, ◌*◌, ◌≤◌, true, length, ap, sym, ◌∙◌, arith}
use Rattle.std.proofs.lemmas.Bool.{and_from}
use Rattle.cantus_space.specs.Melody.{charged}
use Rattle.cantus_space.specs.Rules.{is_live, may_come, paid}
use Rattle.cantus_space.proofs.node.CantusNode.after.Goals as goal

-- one more that is no more than its bound
bounded : (most before one after count : ℕ) → after ≡ before + one → before ≤ most * count → one ≤ most
    → most * suc count ≡ most * count + most → after ≤ most * suc count
bounded most before one after count sum little few more = omega (arith, sum, little, few, more)

pub returns : goal.returns
returns c = λ behind node.
    let plan = c.args.plan.now in
    let may : may_come plan behind c.args.pitch ≡ true =
    sym (c.may_go_on.ensures behind node.kept) ∙ c.if-not-may_go_on.false in
    record {
      kept = c.with.ensures.pitches behind node.kept;
      live = and_from (is_live plan behind) (may_come plan behind c.args.pitch) node.live may;
      few = omega (arith, c.requires.room, node.kept.count);
      paid = c.with.ensures.paid ∙ ap (λ n. n + c.cost.result) node.paid
          ∙ ap (λ n. paid plan.sheet behind + n) (c.cost.ensures.value behind node.kept);
      little = bounded 131070 c.args.self.now.paid c.cost.result c.with.result.paid (length behind) c.with.ensures.paid node.little
          c.cost.ensures.bound (omega arith);
      charged = c.with.ensures.charged ∙ ap (λ n. n + c.charge.result) node.charged
          ∙ ap (λ n. charged plan.prices behind + n) (c.charge.ensures.value behind node.kept);
      little_charged = bounded 262140 c.args.self.now.charged c.charge.result c.with.result.charged (length behind)
          c.with.ensures.charged node.little_charged c.charge.ensures.bound (omega arith);
    }
