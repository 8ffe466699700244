use Rattle.std.proofs.Common.{◌≡◌, ◌≤◌, ◌+◌, ◌-◌, ℕ, List, length}
use Rattle.std.specs.Io.{StartsWith}
use Rattle.fux_port.specs.Files.{HasFile, IsMissing}
use Rattle.fux_port.specs.Promises.{Keeps}
use Rattle.fux_port.proofs.whole.read_whole.Given as goal

abbrev pub invariant-loop-bytes : goal.invariant-loop-bytes
invariant-loop-bytes g l =
    (length l.bytes.items ≤ l.limit)
    × ((file : List ℕ) → HasFile (g.F.Shelf.files l.initial.shelf) l.name file → StartsWith file l.bytes.items)
    × (g.F.Shelf.files l.shelf ≡ g.F.Shelf.files l.initial.shelf)
    × (g.F.Shelf.faults l.initial.shelf ≤ g.F.Shelf.faults l.shelf)
    × (IsMissing (g.F.Shelf.files l.initial.shelf) l.name → g.F.Shelf.faults l.shelf ≡ g.F.Shelf.faults l.initial.shelf)
    × Keeps (g.F.Shelf.serves l.initial.shelf) (g.F.Shelf.serves l.shelf)
    × (g.F.Shelf.given l.shelf ≤ g.F.Shelf.given l.initial.shelf + length l.bytes.items)

abbrev pub decreases-loop-bytes : goal.decreases-loop-bytes
decreases-loop-bytes g l = l.limit - length l.bytes.items
