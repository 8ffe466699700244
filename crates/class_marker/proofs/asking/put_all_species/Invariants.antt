use Rattle.std.proofs.Common.{◌≡◌, ◌++◌, string_bytes}
use Rattle.std.specs.List.{flat_map}
use Rattle.rule_law.specs.Voices.{is_free}
use Rattle.score_marker.proofs.VoiceText.{kept_from}
use Rattle.class_marker.specs.Asked.{species_sentence}
use Rattle.class_marker.proofs.asking.put_all_species.Given as goal

-- what is written so far, and the voices that are left, are what is to be written
abbrev pub invariant-loop-v : goal.invariant-loop-v
invariant-loop-v l =
    string_bytes l.out
    ++ flat_map (species_sentence l.ex) (kept_from (is_free l.ex) l.v l.ex.voices)
    ≡ string_bytes l.fn.out
    ++ flat_map (species_sentence l.ex) (kept_from (is_free l.ex) 0 l.ex.voices)
