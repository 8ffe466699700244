use Rattle.std.proofs.Common.{◌≡◌, ◌≤◌, ◌+◌, ◌-◌, length}
use Rattle.fux_port.specs.Promises.{Keeps}
use Rattle.cert_check.specs.Entering.{HasStated, IsEnteredInto}
use Rattle.cert_law.specs.Entries.{entry_count}
use Rattle.cert_check.proofs.entering.enter.Given as goal

abbrev pub invariant-loop-potential : goal.invariant-loop-potential
invariant-loop-potential g l =
    IsEnteredInto (g.F.Shelf.files l.initial.shelf) l.name l.stated l.reader
    × HasStated l.initial.stated l.stated
    × (g.F.Shelf.files l.shelf ≡ g.F.Shelf.files l.initial.shelf)
    × (g.F.Shelf.faults l.initial.shelf ≤ g.F.Shelf.faults l.shelf)
    × Keeps (g.F.Shelf.serves l.initial.shelf) (g.F.Shelf.serves l.shelf)
    × (g.F.Shelf.given l.shelf + l.initial.reader.offset ≤ g.F.Shelf.given l.initial.shelf + l.reader.offset)

abbrev pub decreases-loop-potential : goal.decreases-loop-potential
decreases-loop-potential g l = entry_count l.stated.exercise - length l.stated.entries
