use Rattle.std.proofs.Common.{◌≡◌, ◌≤◌, ◌+◌, ◌-◌, ℕ, List, length, take}
use Rattle.std.specs.Io.{StartsWith}
use Rattle.fux_port.specs.Files.{HasFile, IsMissing}
use Rattle.fux_port.specs.Promises.{Keeps}
use Rattle.cert_file.proofs.filling.fill.Given as goal

abbrev pub invariant-loop-done : goal.invariant-loop-done
invariant-loop-done g l =
    (l.done ≤ length l.buf)
    × (length l.buf ≡ length l.initial.buf)
    × ((file : List ℕ) → HasFile (g.F.Shelf.files l.initial.shelf) l.name file → StartsWith file (take l.done l.buf))
    × (g.F.Shelf.files l.shelf ≡ g.F.Shelf.files l.initial.shelf)
    × (g.F.Shelf.faults l.initial.shelf ≤ g.F.Shelf.faults l.shelf)
    × (IsMissing (g.F.Shelf.files l.initial.shelf) l.name → l.done ≡ 0)
    × Keeps (g.F.Shelf.serves l.initial.shelf) (g.F.Shelf.serves l.shelf)
    × (g.F.Shelf.given l.shelf ≤ g.F.Shelf.given l.initial.shelf + l.done)

abbrev pub decreases-loop-done : goal.decreases-loop-done
decreases-loop-done g l = length l.buf - l.done
