use Rattle.std.proofs.Common.{◌∷◌, sym, subst, arith}
use Rattle.fux_grid.specs.declared.cell.Cell.{Cell}
use Rattle.melody_rules.specs.GaugeParts.{IsLeapsOf}
use Rattle.melody_rules.specs.Held.{pitches-hold}
use Rattle.melody_rules.specs.Rows.{pitches}
use Rattle.melody_rules.proofs.GaugeLemmas.{length-pitches}
use Rattle.melody_rules.proofs.gauges.leaps.Q19Gauge.step.Goals as goal

pub returns-in-Start : goal.returns-in-Start
returns-in-Start c = λ cells here r.
    let P : Cell → Type 0 = λ d. IsLeapsOf (pitches (d ∷ cells)) c.leaps_with.result in
    subst P (sym c.in-Start.is)
    (c.leaps_with.ensures (pitches cells) (omega
    (arith, length-pitches cells, here, c.requires.place, c.requires.valid.most_bars)) r)

pub returns-in-Hold : goal.returns-in-Hold
returns-in-Hold c = λ cells here r.
    let P : Cell → Type 0 = λ d. IsLeapsOf (pitches (d ∷ cells)) c.args.s.now in
    subst P (sym c.in-Hold.is) (rw (pitches-hold c.in-Hold.field-0 cells) r)
