use Rattle.std.proofs.Common.{◌≡◌, ◌++◌, drop}
use Rattle.smf_score.specs.Staves.{all_apart}
use Rattle.smf_score.specs.Tracks.{ArePlayed}
use Rattle.smf_score.proofs.tracks.all_apart.Given as goal

-- the voices so far, and those of the tracks that are left, are all
abbrev pub invariant-loop-track : goal.invariant-loop-track
invariant-loop-track l = record {
  read : l.voices.items ++ all_apart l.most l.division (drop l.track-index l.tracks)
      ≡ all_apart l.most l.division l.tracks;
  played : ArePlayed l.voices.items;
}
