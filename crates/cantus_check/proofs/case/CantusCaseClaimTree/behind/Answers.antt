use Rattle.std.proofs.Common.{◌≡◌, ◌<◌, ◌+◌, ◌++◌, ◌∷◌, [], length, reverse, subst, arith}
use Rattle.std.specs.Prelude.{nat_lt}
use Rattle.std.proofs.lemmas.Bool.{and_parts, ltb-true}
use Rattle.std.proofs.lemmas.List.{length-reverse}
use Rattle.fux_pitch.specs.declared.pitch.Pitch.{Pitch}
use Rattle.cantus_space.specs.Cantus.{is_in_pool}
use Rattle.cantus_space.specs.Known.{IsFirstOfPool, pool_from}
use Rattle.cantus_space.specs.Numbers.{numbered_pitch}
use Rattle.cantus_check.specs.Known.{IsJudged}
use Rattle.cantus_check.specs.WayLaws.{few}
use Rattle.cantus_check.proofs.PoolHeads.{no_head, pool_head, same_heads}
use Rattle.cantus_check.proofs.case.CantusCaseClaimTree.behind.Goals as goal

pub next_of_pool-requires : goal.next_of_pool-requires
next_of_pool-requires c =
    let it = c.args.self.now in
    let ps = c.requires.node in
    let open_node = c.requires.is_open in
    record {
      behind = reverse ps;
      is_of = open_node.is_of.node;
      room =
          omega (
            arith,
            length-reverse ps,
            few it.space it.head.best ps open_node.claim open_node.says open_node.holds,
          );
    }

pub after-requires : goal.after-requires
after-requires c =
    let it = c.args.self.now in
    let ps = c.requires.node in
    let open_node = c.requires.is_open in
    record {
      behind = reverse ps;
      is_of = open_node.is_of.node;
      room =
          omega (
            arith,
            length-reverse ps,
            few it.space it.head.best ps open_node.claim open_node.says open_node.holds,
          );
    }

pub returns-in-Some : goal.returns-in-Some
returns-in-Some c = λ ps judged at.
    let it = c.args.self.now in
    let plan = it.space in
    let said = it.head.best in
    let open_node = c.requires.is_open in
    let room : length ps < plan.bars = omega (
      arith,
      judged.size,
      open_node.is_of.size,
      few plan said c.requires.node open_node.claim open_node.says open_node.holds,
    ) in
    let k = c.args.number in
    let parts = and_parts (nat_lt k 73) (is_in_pool plan (length ps + 1) (numbered_pitch plan k)) at in
    let here = pool_head plan (length ps + 1) k (ltb-true k 73 parts.0) parts.1 in
    let found = subst (λ n. IsFirstOfPool plan (n + 1) k c.in-Some.number c.in-Some.pitch) (length-reverse ps)
    (c.in-Some.ensures (reverse ps) judged.node) in
    subst (λ (q : Pitch). IsJudged plan said c.after.result (ps ++ q ∷ []))
    (same_heads (pool_from plan (length ps + 1) k) _ _ c.in-Some.pitch (numbered_pitch plan k) found.rest here)
    (c.after.ensures ps room judged)

pub returns-in-None : goal.returns-in-None
returns-in-None c = λ ps judged at.
    let plan = c.args.self.now.space in
    let k = c.args.number in
    let parts = and_parts (nat_lt k 73) (is_in_pool plan (length ps + 1) (numbered_pitch plan k)) at in
    let here = pool_head plan (length ps + 1) k (ltb-true k 73 parts.0) parts.1 in
    let none = subst (λ n. pool_from plan (n + 1) k ≡ []) (length-reverse ps)
    (c.in-None.ensures (reverse ps) judged.node) in
    absurd (no_head (pool_from plan (length ps + 1) k) _ (numbered_pitch plan k) none here)
