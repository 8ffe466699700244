use Rattle.std.proofs.Common.{◌≡◌, ◌≤◌, ◌+◌, ◌-◌, ℕ, List, false}
use Rattle.fux_port.specs.Promises.{Keeps}
use Rattle.cert_file.specs.StatedReadings.{HasGiven, IsAtStated}
use Rattle.cert_file.proofs.stated_reader.StatedReader.next.Given as goal

abbrev pub invariant-loop-taken : goal.invariant-loop-taken
invariant-loop-taken g l =
    ((front : List ℕ) → IsAtStated (g.F.Shelf.files l.initial.shelf) l.name front l.initial.self
    → IsAtStated (g.F.Shelf.files l.initial.shelf) l.name front l.self × HasGiven l.initial.self l.self 0)
    × (g.F.Shelf.files l.shelf ≡ g.F.Shelf.files l.initial.shelf)
    × (g.F.Shelf.faults l.initial.shelf ≤ g.F.Shelf.faults l.shelf)
    × (l.initial.self.offset ≤ l.self.offset)
    × Keeps (g.F.Shelf.serves l.initial.shelf) (g.F.Shelf.serves l.shelf)
    × (g.F.Shelf.given l.shelf + l.initial.self.offset ≤ g.F.Shelf.given l.initial.shelf + l.self.offset)
    × (l.self.entries.done ≡ false)

abbrev pub decreases-loop-taken : goal.decreases-loop-taken
decreases-loop-taken g l = 1073741824 - l.self.offset
