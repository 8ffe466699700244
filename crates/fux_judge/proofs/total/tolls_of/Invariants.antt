use Rattle.std.proofs.Common.{◌≡◌, ◌≤◌, ◌*◌, take}
use Rattle.std.specs.List.{sum_by}
use Rattle.penalty_sheet.specs.Weights.{weight_of}
use Rattle.fux_judge.specs.Rules.{cost_at}
use Rattle.fux_judge.proofs.total.tolls_of.Given as goal

abbrev pub invariant-loop-toll : goal.invariant-loop-toll
invariant-loop-toll l = record {
  value : l.sum ≡ sum_by (λ toll. cost_at toll l.ex l.score.columns l.i * weight_of l.sheet toll)
      (take l.toll-index l.toll-items);
  small : l.sum ≤ 281470681677825 * l.toll-index;
}
