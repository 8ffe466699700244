use Rattle.std.proofs.Common.{◌+◌, ◌^◌, ◌↔◌, List, [], Some, None, ◌≡◌, ℕ, length, subst, ap, ◌∙◌, arith, get_or}
use Rattle.fux_grid.specs.declared.cell.Cell.{Cell}
use Rattle.chain_sums.specs.Chains.{given, IsLeastOf}
use Rattle.chain_sums.specs.Rows.{IsSumOf, IsSumWithin}
use Rattle.chain_sums.proofs.LeastLemmas.{length-columns, least_within_more, row_is_enough}
use Rattle.chain_sums.proofs.least.least_behind.Goals as goal

pub loop-k-preserved : goal.loop-k-preserved
loop-k-preserved g c =
    let chains = g.L.Links.chains c.args.links.now in
    let here = c.column.ensures ∙ ap (λ xs. get_or xs c.loop-k.k []) c.requires.menu in
    let sum : (x : ℕ) → (c.sum_of-sum.result ≡ Some x)
    ↔ IsSumOf chains c.args.i (given c.args.prev) (get_or (chains.menu c.args.i) c.loop-k.k [])
    (get_or c.args.row.now c.loop-k.k None) x =
    subst (λ (d : List Cell). (x : ℕ) → (c.sum_of-sum.result ≡ Some x)
    ↔ IsSumOf chains c.args.i (given c.args.prev) d (get_or c.args.row.now c.loop-k.k None) x) here
    c.sum_of-sum.ensures.value in
    record {
      least = rw c.lesser-least.ensures.value
          (least_within_more chains c.args.i (given c.args.prev) c.args.row.now c.loop-k.k c.loop-k.least
          c.sum_of-sum.result c.loop-k.invariant.least sum);
      bound = λ most h. c.lesser-least.ensures.bound (most + 2 ^ 53) (c.loop-k.invariant.bound most h)
          (c.sum_of-sum.ensures.bound most
          (h c.loop-k.k (omega (
            arith,
            length-columns c.args.menu.now.columns.items (chains.menu c.args.i)
                c.requires.menu,
            c.requires.row.beside,
          ))));
    }

pub returns-clause-least : goal.returns-clause-least
returns-clause-least g c =
    let chains = g.L.Links.chains c.args.links.now in
    let end : c.loop-k.k ≡ length (chains.menu c.args.i) = omega
    (arith, length-columns c.args.menu.now.columns.items (chains.menu c.args.i) c.requires.menu) in
    row_is_enough chains c.args.i (given c.args.prev) c.args.row.now c.loop-k.least c.requires.place c.requires.row
    (subst (λ (k : ℕ). IsLeastOf (IsSumWithin chains c.args.i (given c.args.prev) c.args.row.now k) c.loop-k.least) end
    c.loop-k.invariant.least)
