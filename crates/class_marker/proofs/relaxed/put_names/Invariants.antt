use Rattle.std.proofs.Common.{◌≡◌, ◌++◌, string_bytes}
use Rattle.score_marker.specs.Marks.{has_voice}
use Rattle.score_marker.proofs.VoiceText.{kept_from}
use Rattle.class_marker.specs.Asked.{names_text}
use Rattle.class_marker.proofs.relaxed.put_names.Given as goal

-- what is written so far, and the voices that are left, are what is to be written
abbrev pub invariant-loop-v : goal.invariant-loop-v
invariant-loop-v l =
    string_bytes l.out ++ names_text l.voices (kept_from (has_voice l.set.bits) l.v 4)
    ≡ string_bytes l.fn.out ++ names_text l.voices (kept_from (has_voice l.set.bits) 0 4)
