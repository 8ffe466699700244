-- Q16 is the sum of four tests, one for each voice; where no bar begins, or the first, it costs
-- nothing.
use Rattle.std.proofs.Common.{◌≡◌, ◌+◌, ◌&&◌, false, [], ap, sym, ◌∙◌, arith, drop}
use Rattle.std.specs.Prelude.{nat_le, nat_lt, slice_index_or}
use Rattle.std.proofs.lemmas.Bool.{and_right}
use Rattle.std.proofs.lemmas.Bool.Decides.{nat_tests}
use Rattle.fux_grid.specs.Columns.{earlier}
use Rattle.rule_law.specs.Bars.{begins_bar}
use Rattle.rhythm_cadence.proofs.LateLaws.{pattern_needs}
use Rattle.rhythm_cadence.proofs.VoiceCounts.{counted}
use Rattle.rhythm_cadence.specs.Patterns.{is_pattern, pattern_toll}
use Rattle.rhythm_cadence.proofs.patterns.pattern_cost.Goals as goal
use Rattle.rhythm_cadence.proofs.patterns.pattern_cost.Goals.{then-not-begins_bar-via-then-not-begins_bar, then-not-begins_bar-via-else-not-begins_bar+then-i-lt8}

pub returns-then-not-begins_bar-clause-value : goal.returns-then-not-begins_bar-clause-value
returns-then-not-begins_bar-clause-value g c = λ s first shown from.
    let i = c.args.i in
    let none : (begins_bar i && nat_le 8 i) ≡ false = elim c.then-not-begins_bar.branch [
      | then-not-begins_bar-via-then-not-begins_bar w ↦
          ap (λ b. b && nat_le 8 i) (sym c.begins_bar.ensures ∙ w.if-not-begins_bar.true)
      | then-not-begins_bar-via-else-not-begins_bar+then-i-lt8 w ↦
          and_right (begins_bar i) (nat_le 8 i) (grind (arith, nat_tests, w.if-i-lt8.true))
    ] in
    sym (pattern_needs c.args.ex.now i (earlier s i) (slice_index_or s i []) (drop (i + 1) s) none)

pub returns-clause-value : goal.returns-clause-value
unfolding pattern_toll
returns-clause-value g c = λ s first shown from.
    let ex = c.args.ex.now in
    let i = c.args.i in
    rw (c.from.ensures, c.from-2.ensures, c.from-3.ensures, c.from-4.ensures)
    (counted ex
    (λ v. nat_lt v ex.voices && is_pattern v ex i (earlier s i) (slice_index_or s i []) (drop (i + 1) s))
    c.is_pattern.result c.is_pattern-2.result c.is_pattern-3.result c.is_pattern-4.result
    (c.is_pattern.ensures s first shown from)
    (c.is_pattern-2.ensures s first shown from)
    (c.is_pattern-3.ensures s first shown from)
    (c.is_pattern-4.ensures s first shown from))
