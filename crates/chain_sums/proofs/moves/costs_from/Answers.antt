use Rattle.std.proofs.Common.{◌≡◌, ◌∙◌, ◌^◌, None, length, get_or, ap, sym, subst, arith}
use Rattle.std.proofs.lemmas.List.{get_or_default}
use Rattle.fux_grid.specs.declared.cell.Cell.TheVariants.{Rest}
use Rattle.chain_sums.specs.Rows.{AllAtMost}
use Rattle.chain_sums.proofs.TableLemmas.{each_pushed, sums_pushed}
use Rattle.chain_sums.proofs.moves.costs_from.Goals as goal

pub loop-k-init : goal.loop-k-init
loop-k-init g c = record {
  room = omega (arith, c.in_ok-costs.ensures.capacity);
  counted = omega (arith, c.in_ok-costs.ensures.len);
  same = λ n h. absurd (omega (arith, h));
  small = subst (AllAtMost (2 ^ 50)) (sym c.in_ok-costs.ensures.items) (λ n h. absurd (omega (arith, h)));
}

pub loop-k-preserved : goal.loop-k-preserved
loop-k-preserved g c =
    let moves = g.L.Links.moves c.args.links.now c.args.i c.args.v c.args.cell in
    let long : length c.loop-k.costs.items ≡ c.loop-k.k = omega (arith, c.loop-k.invariant.counted, c.loop-k.costs.ok.0) in
    let here : get_or c.args.to.now c.loop-k.k Rest ≡ c.index-to-k.result = get_or_default c.args.to.now c.loop-k.k Rest
    c.index-to-k.result c.loop-k-test.true ∙ sym c.index-to-k.is in
    record {
      room = omega (arith, c.loop-k.invariant.room, c.push_reserved.ensures.capacity);
      counted = omega (arith, c.loop-k.invariant.counted, c.push_reserved.ensures.len);
      same = rw c.push_reserved.ensures.items
          (each_pushed (λ n o. o ≡ moves (get_or c.args.to.now n Rest)) c.loop-k.k c.loop-k.costs.items
          c.move_cost.result None long c.loop-k.invariant.same (c.move_cost.ensures.value ∙ ap moves (sym here)));
      small = rw c.push_reserved.ensures.items
          (sums_pushed (2 ^ 50) c.loop-k.costs.items c.move_cost.result c.loop-k.invariant.small
          c.move_cost.ensures.bound);
    }

pub returns : goal.returns
returns g c =
    let long : length c.loop-k.costs.items ≡ c.loop-k.k = omega (arith, c.loop-k.invariant.counted, c.loop-k.costs.ok.0) in
    record {
      within = omega (arith, long, c.loop-k.auto.k-end);
      same = λ n h. c.loop-k.invariant.same n (omega (arith, h, long));
      small = c.loop-k.invariant.small;
    }
