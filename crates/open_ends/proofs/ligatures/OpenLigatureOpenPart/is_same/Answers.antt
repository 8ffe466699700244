use Rattle.std.specs.Prelude.{Option}
use Rattle.std.proofs.Common.{ap, sym, ◌∙◌}
use Rattle.fux_pitch.specs.declared.pitch.Pitch.{Pitch}
use Rattle.open_ends.specs.declared.ligatures.OpenLigature.{OpenLigature}
use Rattle.open_ends.proofs.SamePitches.{pitches_decide}
use Rattle.open_ends.proofs.ligatures.OpenLigatureOpenPart.is_same.Goals as goal

pub returns : goal.returns
returns c =
    let Open : Option Pitch → OpenLigature = λ p. record { pitch = p } in
    let told = pitches_decide c.args.self.now.pitch c.args.other.now.pitch in
    (λ h. ap Open (told.0 (sym c.eq.ensures ∙ h)), λ e. c.eq.ensures ∙ told.1 (ap (λ (kept : OpenLigature). kept.pitch) e))
