use Rattle.std.proofs.Common.{ℕ, ◌+◌, ◌<◌, List, [], length, slice_index_or, ap, sym, ◌∙◌, subst, arith}
use Rattle.std.proofs.lemmas.Bool.{OnFalse_at}
use Rattle.std.proofs.lemmas.List.{get_or_past, length-map, length_push}
use Rattle.fux_grid.specs.declared.cell.Cell.{Cell}
use Rattle.fux_grid.specs.Grid.{items_of}
use Rattle.fux_judge.specs.Links.{IsOwnCost}
use Rattle.chain_sums.proofs.TableLemmas.{each_pushed}
use Rattle.species_space.proofs.own.own_costs.Goals as goal

pub loop-k-init : goal.loop-k-init
loop-k-init c = record {
  room = c.in_ok-costs.ensures.exact;
  counted = omega (arith, ap length c.in_ok-costs.ensures.items);
  kept = λ j lt. absurd (omega (arith, lt));
}

pub loop-k-preserved : goal.loop-k-preserved
loop-k-preserved c =
    let ex = c.args.exercise.now in
    let sheet = c.args.sheet.now in
    let i = c.args.i in
    let menu = items_of c.args.columns.now in
    let k = c.loop-k.k in
    let costs = c.loop-k.costs.items in
    let cost = c.own_charge-cost.result in
    let old = c.loop-k.invariant in
    record {
      room = c.push_reserved.ensures.capacity ∙ old.room;
      counted = omega (arith, ap length c.push_reserved.ensures.items, length_push costs cost, old.counted);
      kept = subst (λ (ns : List ℕ). (j : ℕ) → j < k + 1 → IsOwnCost ex sheet i (slice_index_or menu j [])
          (slice_index_or ns j 0))
          (sym c.push_reserved.ensures.items)
          (each_pushed (λ (j n : ℕ). IsOwnCost ex sheet i (slice_index_or menu j []) n) k costs cost 0 old.counted
          old.kept
          (subst (λ (d : List Cell). IsOwnCost ex sheet i d cost) c.column_at.ensures c.own_charge-cost.ensures));
    }

pub returns-then-not-costs_some : goal.returns-then-not-costs_some
returns-then-not-costs_some c = λ k lt.
    let ex = c.args.exercise.now in
    let menu = items_of c.args.columns.now in
    let none = ap length c.new.ensures.items in
    subst (λ (n : ℕ). IsOwnCost ex c.args.sheet.now c.args.i (slice_index_or menu k []) n)
    (sym (get_or_past c.new.result.items k 0 (omega (arith, none))))
    (OnFalse_at c.if-not-costs_some.true c.costs_some.ensures k lt)

pub returns : goal.returns
returns c = λ j lt.
    c.loop-k.invariant.kept j (omega (arith, lt, length-map c.args.columns.now (λ col. col.items), c.loop-k-test.false))
