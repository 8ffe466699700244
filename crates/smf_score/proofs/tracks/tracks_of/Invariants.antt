use Rattle.std.proofs.Common.{◌≡◌, ◌++◌, All, length}
use Rattle.smf_score.specs.Placing.{voices_of}
use Rattle.smf_score.specs.Played.{IsPlayed}
use Rattle.smf_score.specs.Tracks.{ArePlayed}
use Rattle.smf_score.proofs.tracks.tracks_of.Given as goal

-- the tracks so far, and those of the notes that are left, are all
abbrev pub invariant-loop-first : goal.invariant-loop-first
invariant-loop-first l = record {
  read : l.tracks.items ++ voices_of l.rest ≡ voices_of l.notes;
  played : ArePlayed l.tracks.items;
  left : All IsPlayed l.rest;
}

abbrev pub decreases-loop-first : goal.decreases-loop-first
decreases-loop-first l = length l.rest
