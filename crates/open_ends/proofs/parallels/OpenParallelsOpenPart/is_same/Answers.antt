use Rattle.std.proofs.Common.{ap}
use Rattle.std.proofs.lemmas.Slice.Eq.{slice_eq-Decides}
use Rattle.rule_law.specs.Nearby.{Pitches}
use Rattle.open_ends.specs.declared.parallels.OpenParallels.{OpenParallels}
use Rattle.open_ends.proofs.SamePitches.{pitches_decide}
use Rattle.open_ends.proofs.parallels.OpenParallelsOpenPart.is_same.Goals as goal

pub returns : goal.returns
returns c =
    let Open : Pitches → OpenParallels = λ pitches. record { pitches = pitches } in
    let told = slice_eq-Decides pitches_decide c.args.self.now.pitches c.args.other.now.pitches c.eq.result c.eq.ensures in
    (λ h. ap Open (told.0 h), λ e. told.1 (ap (λ (kept : OpenParallels). kept.pitches) e))
