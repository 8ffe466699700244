use Rattle.std.proofs.Common.{◌≡◌, ◌++◌, All, length}
use Rattle.smf_score.specs.Played.{IsPlayed}
use Rattle.smf_score.specs.Legato.{held_out}
use Rattle.smf_score.proofs.legato.held_out.Given as goal

-- the notes so far, and those that are left, are all
abbrev pub invariant-loop-note : goal.invariant-loop-note
invariant-loop-note l = record {
  read : l.held.items ++ held_out l.over l.rest ≡ held_out l.over l.notes;
  played : All IsPlayed l.held.items;
  left : All IsPlayed l.rest;
}

abbrev pub decreases-loop-note : goal.decreases-loop-note
decreases-loop-note l = length l.rest
