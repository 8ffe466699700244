use Rattle.std.proofs.Common.{◌∷◌, sym, subst}
use Rattle.fux_grid.specs.declared.cell.Cell.{Cell}
use Rattle.melody_rules.specs.Held.{pitches-hold}
use Rattle.fux_judge.specs.GaugeStates.{IsGaugesOf}
use Rattle.fux_judge.proofs.gauges.gauge.Goals as goal

pub returns-in-Hold : goal.returns-in-Hold
returns-in-Hold c = λ cells here r.
    let P : Cell → Type 0 = λ d. IsGaugesOf (d ∷ cells) c.args.kept.now in
    subst P (sym c.in-Hold.is) record {
      climax = rw (pitches-hold c.in-Hold.field-0 cells) r.climax;
      compass = rw (pitches-hold c.in-Hold.field-0 cells) r.compass;
      leaps = rw (pitches-hold c.in-Hold.field-0 cells) r.leaps;
      strikes = rw (pitches-hold c.in-Hold.field-0 cells) r.strikes;
    }
