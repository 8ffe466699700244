use Rattle.std.proofs.Common.{◌≡◌, ◌≤◌, ◌+◌, ◌-◌, ℕ, List}
use Rattle.fux_port.specs.Promises.{Keeps}
use Rattle.cert_file.specs.Readings.{IsAt}
use Rattle.cert_file.proofs.reader.Reader.next.Given as goal

abbrev pub invariant-loop-claim : goal.invariant-loop-claim
invariant-loop-claim g l =
    ((front : List ℕ) → IsAt (g.F.Shelf.files l.initial.shelf) l.name front l.initial.self
    → IsAt (g.F.Shelf.files l.initial.shelf) l.name front l.self)
    × (g.F.Shelf.files l.shelf ≡ g.F.Shelf.files l.initial.shelf)
    × (g.F.Shelf.faults l.initial.shelf ≤ g.F.Shelf.faults l.shelf)
    × (l.initial.self.offset ≤ l.self.offset)
    × Keeps (g.F.Shelf.serves l.initial.shelf) (g.F.Shelf.serves l.shelf)
    × (g.F.Shelf.given l.shelf + l.initial.self.offset ≤ g.F.Shelf.given l.initial.shelf + l.self.offset)

abbrev pub decreases-loop-claim : goal.decreases-loop-claim
decreases-loop-claim g l = 1073741824 - l.self.offset
