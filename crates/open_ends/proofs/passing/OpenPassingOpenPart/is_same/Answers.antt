use Rattle.std.specs.Prelude.{Option}
use Rattle.std.proofs.Common.{ap, sym, ◌∙◌}
use Rattle.fux_pitch.specs.declared.pitch.Pitch.{Pitch}
use Rattle.open_ends.specs.declared.passing.OpenPassing.{OpenPassing}
use Rattle.open_ends.proofs.SamePitches.{pitches_decide}
use Rattle.open_ends.proofs.passing.OpenPassingOpenPart.is_same.Goals as goal

pub returns : goal.returns
returns c =
    let Open : Option Pitch → OpenPassing = λ p. record { origin = p } in
    let told = pitches_decide c.args.self.now.origin c.args.other.now.origin in
    (λ h. ap Open (told.0 (sym c.eq.ensures ∙ h)), λ e. c.eq.ensures ∙ told.1 (ap (λ (kept : OpenPassing). kept.origin) e))
