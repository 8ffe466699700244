use Rattle.std.proofs.Common.{◌≡◌, ◌+◌, ◌*◌, ◌≤◌, map, take}
use Rattle.std.specs.Prelude.{string_bytes}
use Rattle.fux_port.specs.Promises.{Keeps}
use Rattle.works.specs.Works.{AreRead}
use Rattle.works.proofs.classing.read_texts.Given as goal

abbrev pub invariant-loop-place : goal.invariant-loop-place
invariant-loop-place g l = record {
  read : AreRead 65536 (g.F.Shelf.files l.initial.shelf) (take l.place (map string_bytes l.names)) l.texts.items;
  same : g.F.Shelf.files l.shelf ≡ g.F.Shelf.files l.initial.shelf;
  serving : Keeps (g.F.Shelf.serves l.initial.shelf) (g.F.Shelf.serves l.shelf);
  later : g.F.Shelf.faults l.initial.shelf ≤ g.F.Shelf.faults l.shelf;
  little : g.F.Shelf.given l.shelf ≤ g.F.Shelf.given l.initial.shelf + 65537 * l.place;
}
