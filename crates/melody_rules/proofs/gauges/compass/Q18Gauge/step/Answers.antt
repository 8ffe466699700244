use Rattle.std.proofs.Common.{◌∷◌, sym, subst}
use Rattle.fux_grid.specs.declared.cell.Cell.{Cell}
use Rattle.melody_rules.specs.GaugeParts.{IsCompassOf}
use Rattle.melody_rules.specs.Held.{pitches-hold}
use Rattle.melody_rules.specs.Rows.{pitches}
use Rattle.melody_rules.proofs.gauges.compass.Q18Gauge.step.Goals as goal

pub returns-in-Hold : goal.returns-in-Hold
returns-in-Hold c = λ cells here r.
    let P : Cell → Type 0 = λ d. IsCompassOf (pitches (d ∷ cells)) c.args.s.now in
    subst P (sym c.in-Hold.is) (rw (pitches-hold c.in-Hold.field-0 cells) r)
