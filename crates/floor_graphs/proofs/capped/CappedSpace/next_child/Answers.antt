use Rattle.std.proofs.Common.{arith}
use Rattle.floor_graphs.specs.Capped.{capped_parts}
use Rattle.floor_graphs.proofs.Better.{no_better_above}
use Rattle.floor_graphs.proofs.capped.CappedSpace.next_child.Goals as goal

pub count-requires : goal.count-requires
count-requires g c = record { path = c.requires.child.path; at = c.requires.child.at; above = c.requires.child.above }

pub returns-then-is_met-clause-onward : goal.returns-then-is_met-clause-onward
returns-then-is_met-clause-onward g c =
    omega (arith, c.count.ensures.value _ c.requires.child.at, c.requires.child.within)

pub returns-then-is_met-clause-told : goal.returns-then-is_met-clause-told
returns-then-is_met-clause-told g c = λ path at lt. absurd (omega (arith, c.count.ensures.value path at, lt))

pub returns-clause-passed : goal.returns-clause-passed
returns-clause-passed g c = λ path at child floor from to live.
    let parts = capped_parts _ _ _ floor live in
    let passed = c.next_child.ensures.passed path at child parts.own from to parts.is_own in
    no_better_above c.args.best parts.own floor (omega (arith, parts.raised_is))
    (c.best_below_cap.ensures parts.own parts.within passed)
