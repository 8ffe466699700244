use Rattle.std.proofs.Common.{◌≡◌, ℕ, ◌-◌, ◌++◌, ◌∷◌, [], arith, ap, sym, ◌∙◌, subst, length}
use Rattle.std.proofs.lemmas.List.{length-append}
use Rattle.fux_grid.specs.Exercises.{columns_in}
use Rattle.rule_law.proofs.AroundLemmas.{kept_after}
use Rattle.rule_law.specs.Rulebooks.{IsAmong, RuleRow, newly_breaks}
use Rattle.rhythm_cadence.specs.Book.{quaver_rule, quavers_settled, rule_row}
use Rattle.rhythm_cadence.proofs.BookLaws.{late_by_row, late_shapes, longer, quaver_newly-among, quaver_row_of, quavers_bounds}
use Rattle.rhythm_cadence.proofs.CadenceReadings.{cadence_settles}
use Rattle.rhythm_cadence.proofs.book.RhythmRuleCrate.breaks_late.Goals as goal

pub returns-then-rule-eq3 : goal.returns-then-rule-eq3
returns-then-rule-eq3 c = λ late p col shapes newest on among.
    let A : ℕ → Type 0 = λ r. IsAmong ((rule_row r).first c.args.ex.now (length p))
    ((rule_row r).count c.args.ex.now (length p)) c.args.place in
    c.breaks_shapes.ensures (p ++ col ∷ []) (longer p col) shapes
    ∙ sym (late_shapes c.args.ex.now c.args.voices.bits p col c.args.place on (subst A c.if-rule-eq3.true among))
    ∙ ap (λ r. newly_breaks (rule_row r) c.args.ex.now c.args.voices.bits p col c.args.place) (sym c.if-rule-eq3.true)

pub returns-then-rule-eq22 : goal.returns-then-rule-eq22
returns-then-rule-eq22 c = λ late p col shapes newest on among.
    let ex = c.args.ex.now in
    let place = c.args.place in
    let A : ℕ → Type 0 = λ r. IsAmong ((rule_row r).first ex (length p)) ((rule_row r).count ex (length p)) place in
    let there = cadence_settles ex c.args.voices.bits p col place (subst A c.if-rule-eq22.true among) in
    let shown = kept_after ex p col on c.args.newest.now (place - 8) newest (omega (arith, there.0)) in
    c.breaks_cadence.ensures (p ++ col ∷ []) (place - 8) shown (omega arith)
    (omega (arith, there.0, length-append p (col ∷ []))) on.longer.follows
    ∙ sym there.1
    ∙ ap (λ r. newly_breaks (rule_row r) ex c.args.voices.bits p col place) (sym c.if-rule-eq22.true)

pub returns-then-place-newest : goal.returns-then-place-newest
returns-then-place-newest c = λ late p col shapes newest on among.
    let ex = c.args.ex.now in
    let place = c.args.place in
    let row : rule_row c.args.rule ≡ quaver_rule = quaver_row_of c.args.rule (late_by_row c.args.rule late) c.if-rule-eq3.false
    c.if-rule-eq22.false in
    let A : RuleRow → Type 0 = λ it. IsAmong (it.first ex (length p)) (it.count ex (length p)) place in
    let own : IsAmong (length p - 1) (quavers_settled (columns_in ex) (length p)) place = subst A row among in
    let bounds = quavers_bounds (columns_in ex) (length p) place own in
    let shown = kept_after ex p col on c.args.newest.now (place - 1) newest (omega (arith, bounds.1)) in
    c.breaks_quaver.ensures (p ++ col ∷ []) (place - 1) shown (omega arith)
    ∙ sym (quaver_newly-among ex c.args.voices.bits p col place on own)
    ∙ ap (λ (it : RuleRow). newly_breaks it ex c.args.voices.bits p col place) (sym row)
