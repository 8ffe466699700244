use Rattle.std.proofs.Common.{sym, subst, arith}
use Rattle.std.specs.List.{All}
use Rattle.std.proofs.lemmas.List.Elements.{All-push}
use Rattle.chain_sums.specs.declared.moves.MovesFrom.{MovesFrom}
use Rattle.chain_sums.specs.Moves.{AreMovesTo}
use Rattle.chain_sums.proofs.moves.VoiceMoves.new.Goals as goal

pub loop-k-init : goal.loop-k-init
loop-k-init g c =
    let moves = g.L.Links.moves c.args.links.now c.args.i c.args.v in
    let Is : MovesFrom → Type 0 = λ from. AreMovesTo (moves from.cell) c.cells-to.result.items from.costs.items in
    record {
      room = omega (arith, c.in_ok-from.ensures.capacity, c.len.ensures.value);
      counted = omega (arith, c.in_ok-from.ensures.len);
      are = subst (All Is) (sym c.in_ok-from.ensures.items) (λ k d h. absurd (omega (arith, h)));
    }

pub loop-k-preserved : goal.loop-k-preserved
loop-k-preserved g c =
    let moves = g.L.Links.moves c.args.links.now c.args.i c.args.v in
    let Is : MovesFrom → Type 0 = λ from. AreMovesTo (moves from.cell) c.cells-to.result.items from.costs.items in
    let next : MovesFrom = record { cell = c.index-deref-k.result; costs = c.in_ok-costs.costs } in
    let is : Is next =
    subst (λ to. AreMovesTo (moves c.index-deref-k.result) to c.in_ok-costs.costs.items) c.deref-in-loop-k.ensures.0
    c.in_ok-costs.ensures in
    record {
      room = omega (arith, c.loop-k.invariant.room, c.push_reserved.ensures.capacity);
      counted = omega (arith, c.loop-k.invariant.counted, c.push_reserved.ensures.len);
      are = subst (All Is) (sym c.push_reserved.ensures.items)
          (All-push Is c.loop-k.from.items next c.loop-k.invariant.are is);
    }

pub returns : goal.returns
returns g c = c.loop-k.invariant.are
