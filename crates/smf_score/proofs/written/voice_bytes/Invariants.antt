use Rattle.std.proofs.Common.{◌≡◌, ◌+◌, ◌*◌, ◌≤◌, ◌++◌, length}
use Rattle.smf_score.specs.Lines.{holds_ahead, notes_of}
use Rattle.smf_score.specs.Written.{notes_bytes}
use Rattle.smf_score.proofs.written.voice_bytes.Given as goal

-- the bytes so far and those of the notes that are left are those of all notes
abbrev pub invariant-loop-cell : goal.invariant-loop-cell
invariant-loop-cell l = record {
  written : l.out.items ++ notes_bytes l.v l.ended (notes_of l.at l.rest) ≡ notes_bytes l.v 0 (notes_of 0 l.cells);
  ended : l.ended ≤ l.at + holds_ahead l.rest;
  place : l.at + length l.rest ≡ length l.cells;
  short : length l.out.items ≤ 12 * l.at;
}

abbrev pub decreases-loop-cell : goal.decreases-loop-cell
decreases-loop-cell l = length l.rest
