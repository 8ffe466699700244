use Rattle.std.proofs.Common.{◌≡◌, ◌+◌, ◌*◌, ◌≤◌, map, take}
use Rattle.std.specs.Prelude.{string_bytes}
use Rattle.std.specs.Option.{option_copied}
use Rattle.fux_port.specs.Counts.{Rose}
use Rattle.works.specs.WholeClasses.{AreSaid, limit_of, sought_in}
use Rattle.works.proofs.gathering.say_names.Given as goal

abbrev pub invariant-loop-place : goal.invariant-loop-place
invariant-loop-place g l = record {
  said : AreSaid (g.F.Shelf.files l.initial.shelf)
      (Rose (g.F.Shelf.faults l.initial.shelf) (g.F.Shelf.faults l.shelf)) (sought_in l.kind (option_copied l.lesson))
      (take l.place (map string_bytes l.names)) l.report;
  same : g.F.Shelf.files l.shelf ≡ g.F.Shelf.files l.initial.shelf;
  later : g.F.Shelf.faults l.initial.shelf ≤ g.F.Shelf.faults l.shelf;
  little : g.F.Shelf.given l.shelf ≤ g.F.Shelf.given l.initial.shelf + (limit_of l.kind + 1) * l.place;
}
