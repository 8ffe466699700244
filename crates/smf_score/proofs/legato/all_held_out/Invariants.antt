use Rattle.std.proofs.Common.{◌≡◌, map, take}
use Rattle.smf_score.specs.Legato.{held_out}
use Rattle.smf_score.specs.Tracks.{ArePlayed}
use Rattle.smf_score.proofs.legato.all_held_out.Given as goal

-- those of the voices so far
abbrev pub invariant-loop-voice : goal.invariant-loop-voice
invariant-loop-voice l = record {
  read : l.held.items ≡ map (held_out l.over) (take l.voice-index l.voices);
  played : ArePlayed l.held.items;
}
