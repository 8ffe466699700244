use Rattle.std.proofs.Common.{arith}
use Rattle.fux_grid.specs.Columns.{line}
use Rattle.melody_rules.specs.Rows.{open_leaps}
use Rattle.melody_rules.proofs.VoiceLemmas.{notes_at, sum_of_four}
use Rattle.melody_rules.proofs.voices.open_leaps.Goals as goal

pub returns-clause-value : goal.returns-clause-value
unfolding open_leaps
returns-clause-value c = λ i behind ahead are.
    let four = c.told-voices in
    let a = c.open_leap.ensures.value (line 0 behind)
    (notes_at behind c.args.voices.now 0 c.index-voices-0.result are four (omega arith)) in
    let b = c.open_leap-2.ensures.value (line 1 behind)
    (notes_at behind c.args.voices.now 1 c.index-voices-1.result are four (omega arith)) in
    let d = c.open_leap-3.ensures.value (line 2 behind)
    (notes_at behind c.args.voices.now 2 c.index-voices-2.result are four (omega arith)) in
    let e = c.open_leap-4.ensures.value (line 3 behind)
    (notes_at behind c.args.voices.now 3 c.index-voices-3.result are four (omega arith)) in
    sum_of_four _ _ _ _ _ _ _ _ a b d e
