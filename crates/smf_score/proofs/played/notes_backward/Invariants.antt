use Rattle.std.proofs.Common.{◌≡◌, ◌≤◌, All, drop, reverse, length}
use Rattle.smf_score.specs.Played.{AreEarly, AreEnds, IsPlayed, notes_in}
use Rattle.smf_score.proofs.played.notes_backward.Given as goal

-- the notes so far are those of the strokes that were taken, the last one first
abbrev pub invariant-loop-i : goal.invariant-loop-i
invariant-loop-i l = record {
  read : l.notes.items ≡ reverse (notes_in l.layout (drop l.i l.strokes));
  ends : AreEnds (drop l.i l.strokes) l.ends;
  early : AreEarly l.ends;
  bounds : All IsPlayed l.notes.items;
  within : l.i ≤ length l.strokes;
}

abbrev pub decreases-loop-i : goal.decreases-loop-i
decreases-loop-i l = l.i
