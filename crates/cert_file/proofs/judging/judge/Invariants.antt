use Rattle.std.proofs.Common.{◌≡◌, ◌≤◌, ◌+◌, ◌-◌}
use Rattle.fux_port.specs.Promises.{Keeps}
use Rattle.cert_file.proofs.JudgingLemmas.{IsOn}
use Rattle.cert_file.proofs.judging.judge.Given as goal

abbrev pub invariant-loop-claim : goal.invariant-loop-claim
invariant-loop-claim g l =
    IsOn g.C.Checks.subject (g.F.Shelf.files l.initial.shelf) l.name (g.C.Checks.seen l.initial.checker) l.reader
    (g.C.Checks.seen l.checker)
    × (g.F.Shelf.files l.shelf ≡ g.F.Shelf.files l.initial.shelf)
    × (g.F.Shelf.faults l.initial.shelf ≤ g.F.Shelf.faults l.shelf)
    × Keeps (g.F.Shelf.serves l.initial.shelf) (g.F.Shelf.serves l.shelf)
    × (g.F.Shelf.given l.shelf + l.initial.reader.offset ≤ g.F.Shelf.given l.initial.shelf + l.reader.offset)

abbrev pub decreases-loop-claim : goal.decreases-loop-claim
decreases-loop-claim g l = 1073741825 - (g.C.Checks.seen l.checker).count
