use Rattle.std.proofs.Common.{◌+◌, ◌≤◌, length}
use Rattle.fux_port.proofs.Stands.{Stands}
use Rattle.cert_file.proofs.write.write_lines.Given as goal

abbrev pub invariant-loop-line : goal.invariant-loop-line
invariant-loop-line g l = record {
  stands : g.S.LineSource.stands l.source l.place;
  written : Stands (g.K.Sink.written l.initial.sink) (g.K.Sink.written l.sink) l.waiting.bytes
      (g.S.LineSource.left l.source l.place) (g.S.LineSource.left l.source l.initial.place);
  faults : g.K.Sink.faults l.initial.sink ≤ g.K.Sink.faults l.sink;
  room : g.K.Sink.serves l.initial.sink (length (g.S.LineSource.left l.source l.initial.place))
      → g.K.Sink.serves l.sink (length l.waiting.bytes + length (g.S.LineSource.left l.source l.place));
}

abbrev pub decreases-loop-line : goal.decreases-loop-line
decreases-loop-line g l = length (g.S.LineSource.left l.source l.place)
