use Rattle.std.proofs.Common.{◌≡◌, ◌+◌, ◌*◌, ◌≤◌, map, take}
use Rattle.std.specs.Prelude.{string_bytes}
use Rattle.std.specs.Option.{option_copied}
use Rattle.fux_port.specs.Counts.{Rose}
use Rattle.works.specs.ClassPages.{ArePaged}
use Rattle.works.proofs.paging.paged_names.Given as goal

abbrev pub invariant-loop-place : goal.invariant-loop-place
invariant-loop-place g l = record {
  paged : ArePaged (g.F.Shelf.files l.initial.shelf)
      (Rose (g.F.Shelf.faults l.initial.shelf) (g.F.Shelf.faults l.shelf)) (option_copied l.lesson)
      (take l.place (map string_bytes l.names)) l.page;
  same : g.F.Shelf.files l.shelf ≡ g.F.Shelf.files l.initial.shelf;
  later : g.F.Shelf.faults l.initial.shelf ≤ g.F.Shelf.faults l.shelf;
  little : g.F.Shelf.given l.shelf ≤ g.F.Shelf.given l.initial.shelf + 65537 * l.place;
}
