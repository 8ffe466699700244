use Rattle.std.proofs.Common.{◌≡◌, take}
use Rattle.cert_writer.proofs.copy.copy_of.Given as goal

-- the columns so far are the first ones
abbrev pub invariant-loop-i : goal.invariant-loop-i
invariant-loop-i l = record {
  voices : l.copy.voices ≡ l.score.voices;
  columns : l.copy.columns ≡ take l.i l.score.columns;
}
