use Rattle.std.proofs.Common.{ap, sym, ◌∙◌, arith}
use Rattle.fux_grid.specs.Exercises.{species_in}
use Rattle.rule_law.specs.Terms.{starts}
use Rattle.dissonance_rules.specs.Starts.{next_told}
use Rattle.dissonance_rules.proofs.LatestNotes.{starts-more, starts-same}
use Rattle.dissonance_rules.proofs.starts.note_cell.Goals as goal

pub returns-then-not-starts : goal.returns-then-not-starts
returns-then-not-starts c = λ p col long cell is.
    starts-same p col c.args.v (species_in c.args.ex.now c.args.v) c.args.kept.now
    (sym (ap starts cell) ∙ sym c.starts.ensures ∙ c.if-not-starts.true) is

pub returns : goal.returns
returns c = λ p col long cell is.
    starts-more p col c.args.v (species_in c.args.ex.now c.args.v) c.args.kept.now _
    (sym (ap starts cell) ∙ sym c.starts.ensures ∙ c.if-not-starts.false)
    (omega (arith, long)) (omega arith)
    (c.next_told-kept.ensures ∙ ap (λ species. next_told species c.args.kept.now) c.species_of.ensures.value) is
