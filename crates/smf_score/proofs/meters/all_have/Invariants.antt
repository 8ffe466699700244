use Rattle.std.proofs.Common.{◌≡◌, drop}
use Rattle.smf_score.specs.Meters.{all_have}
use Rattle.smf_score.proofs.meters.all_have.Given as goal

-- those that are left say what all do
abbrev pub invariant-loop-signature : goal.invariant-loop-signature
invariant-loop-signature l = all_have l.wholes (drop l.signature-index l.signatures) ≡ all_have l.wholes l.signatures
