use Rattle.std.proofs.Common.{◌≡◌, ◌≤◌, ◌<◌, ◌+◌, ◌-◌, ◌++◌, string_bytes}
use Rattle.std.specs.List.{flat_map}
use Rattle.score_print.specs.Systems.{fits, printed_system}
use Rattle.score_print.proofs.Filling.{systems_from}
use Rattle.score_print.proofs.systems.print_wrapped.Given as goal

-- what is written so far, and the systems that are left, from the one that isn't written yet
abbrev pub invariant-loop-bar : goal.invariant-loop-bar
invariant-loop-bar l = record {
  least : 1 ≤ l.first;
  before : l.first < l.bar;
  written : string_bytes l.out ++ flat_map (printed_system l.ex l.slots)
      (systems_from (fits l.ex l.columns l.slots) l.first l.bar ((l.ex.bars + 1) - l.bar))
      ≡ flat_map (printed_system l.ex l.slots) (systems_from (fits l.ex l.columns l.slots) 1 2 ((l.ex.bars + 1) - 2));
}
