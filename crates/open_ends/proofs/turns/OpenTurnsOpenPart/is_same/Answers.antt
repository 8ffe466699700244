use Rattle.std.proofs.Common.{sym, ◌∙◌}
use Rattle.open_ends.proofs.SameTurns.{tells_same}
use Rattle.open_ends.proofs.turns.OpenTurnsOpenPart.is_same.Goals as goal

pub returns : goal.returns
returns c =
    let told = tells_same c.args.self.now c.args.other.now in
    (λ h. told.0 (sym c.eq.ensures ∙ h), λ e. c.eq.ensures ∙ told.1 e)
