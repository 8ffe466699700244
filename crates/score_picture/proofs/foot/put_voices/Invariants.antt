use Rattle.std.proofs.Common.{◌≡◌, ◌-◌, ◌++◌, string_bytes}
use Rattle.std.specs.List.{flat_map, range_with_len}
use Rattle.score_picture.specs.Pictures.{voice_number, voice_numbers}
use Rattle.score_picture.proofs.foot.put_voices.Given as goal

-- what is written so far, and the voices that are left, are what is to be written
abbrev pub invariant-loop-v : goal.invariant-loop-v
invariant-loop-v l =
    string_bytes l.out ++ flat_map (voice_number l.set.bits) (range_with_len l.v (4 - l.v))
    ≡ string_bytes l.fn.out ++ voice_numbers l.set.bits
