use Rattle.std.proofs.Common.{◌≡◌, ◌<◌, ◌≤◌, ◌^◌, ℕ, None, length, get_or}
use Rattle.std.specs.Prelude.{vec_capacity, vec_len}
use Rattle.fux_grid.specs.declared.cell.Cell.TheVariants.{Rest}
use Rattle.chain_sums.specs.Rows.{AllAtMost}
use Rattle.chain_sums.proofs.moves.costs_from.Given as goal

abbrev pub invariant-loop-k : goal.invariant-loop-k
invariant-loop-k g l = record {
  room : length l.to ≤ vec_capacity l.costs;
  counted : vec_len l.costs ≡ l.k;
  same : (n : ℕ) → n < l.k → get_or l.costs.items n None ≡ g.L.Links.moves l.links l.i l.v l.cell (get_or l.to n Rest);
  small : AllAtMost (2 ^ 50) l.costs.items;
}
