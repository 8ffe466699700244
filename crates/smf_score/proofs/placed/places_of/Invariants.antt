use Rattle.std.proofs.Common.{◌≡◌, All, length}
use Rattle.smf_score.specs.Placing.{voice_placed, voices_of, voices_placed}
use Rattle.smf_score.specs.Played.{IsPlayed}
use Rattle.smf_score.specs.Ranges.{HaveNotes}
use Rattle.smf_score.proofs.EachLemmas.{with_front}
use Rattle.smf_score.proofs.placed.places_of.Given as goal

-- the voices so far, and those of the notes that are left, are all
abbrev pub invariant-loop-first : goal.invariant-loop-first
invariant-loop-first l = record {
  read : with_front (voice_placed l.division) l.voices.items (voices_of l.rest)
      ≡ voices_placed l.division (voices_of l.notes);
  notes : HaveNotes l.voices.items;
  bounds : All IsPlayed l.rest;
}

abbrev pub decreases-loop-first : goal.decreases-loop-first
decreases-loop-first l = length l.rest
