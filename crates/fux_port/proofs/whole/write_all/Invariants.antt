use Rattle.std.proofs.Common.{◌≡◌, ◌≤◌, ◌-◌, length, take}
use Rattle.fux_port.specs.Promises.{KeepsRoom}
use Rattle.fux_port.specs.Written.{appended}
use Rattle.fux_port.proofs.whole.write_all.Given as goal

abbrev pub invariant-loop-done : goal.invariant-loop-done
invariant-loop-done g l =
    (l.done ≤ length l.bytes)
    × (g.K.Sink.written l.sink ≡ appended (g.K.Sink.written l.initial.sink) (take l.done l.bytes))
    × (g.K.Sink.faults l.initial.sink ≤ g.K.Sink.faults l.sink)
    × KeepsRoom (g.K.Sink.serves l.initial.sink) (g.K.Sink.serves l.sink) l.done

abbrev pub decreases-loop-done : goal.decreases-loop-done
decreases-loop-done g l = length l.bytes - l.done
