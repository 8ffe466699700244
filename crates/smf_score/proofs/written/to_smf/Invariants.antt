use Rattle.std.proofs.Common.{◌≡◌, ◌-◌, ◌++◌}
use Rattle.smf_score.specs.Written.{smf_of, tracks_bytes}
use Rattle.smf_score.proofs.written.to_smf.Given as goal

-- the bytes so far and the tracks that are left are the file
abbrev pub invariant-loop-v : goal.invariant-loop-v
invariant-loop-v l =
    l.out.items ++ tracks_bytes l.score.columns l.v (l.ex.voices - l.v) ≡ smf_of l.score
