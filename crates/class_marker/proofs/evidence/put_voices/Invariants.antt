use Rattle.std.proofs.Common.{◌≡◌, ◌++◌, string_bytes}
use Rattle.std.specs.List.{flat_map}
use Rattle.score_marker.specs.Marks.{has_voice}
use Rattle.score_marker.proofs.VoiceText.{kept_from}
use Rattle.class_marker.specs.Evidence.{voice_line}
use Rattle.class_marker.proofs.evidence.put_voices.Given as goal

-- what is written so far, and the voices that are left, are what is to be written
abbrev pub invariant-loop-v : goal.invariant-loop-v
invariant-loop-v l =
    string_bytes l.out
    ++ flat_map (voice_line l.ex l.rule l.score.columns l.i)
    (kept_from (has_voice l.set.bits) l.v 4)
    ≡ string_bytes l.fn.out
    ++ flat_map (voice_line l.ex l.rule l.score.columns l.i)
    (kept_from (has_voice l.set.bits) 0 4)
