use Rattle.std.proofs.Common.{◌≡◌, ◌+◌, length}
use Rattle.cert_file.proofs.KeptLemmas.{KeepsBefore}
use Rattle.cert_file.proofs.write.fit.Given as goal

-- what is left is the room without the lines so far, which are kept
abbrev pub invariant-loop-line : goal.invariant-loop-line
invariant-loop-line g l = record {
  stands : g.S.LineSource.stands l.source l.place;
  left : length (g.S.LineSource.left l.source l.initial.place) + l.left
      ≡ l.room + length (g.S.LineSource.left l.source l.place);
  kept : KeepsBefore l.kept (g.S.LineSource.left l.source l.place) (g.S.LineSource.left l.source l.initial.place);
}

abbrev pub decreases-loop-line : goal.decreases-loop-line
decreases-loop-line g l = length (g.S.LineSource.left l.source l.place)
