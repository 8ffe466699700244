use Rattle.std.proofs.Common.{◌≡◌, drop}
use Rattle.smf_score.specs.Placing.{voice_placed, voices_placed}
use Rattle.smf_score.proofs.EachLemmas.{with_front}
use Rattle.smf_score.proofs.staves.place_all.Given as goal

-- the voices that were placed, and those that are left, are all
abbrev pub invariant-loop-voice : goal.invariant-loop-voice
invariant-loop-voice l =
    with_front (voice_placed l.division) l.placed.items (drop l.voice-index l.voices)
    ≡ voices_placed l.division l.voices
