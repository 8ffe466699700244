use Rattle.std.proofs.Common.{◌≡◌, ℕ, List, ◌-◌, ◌++◌, ◌∷◌, [], arith, ap, sym, ◌∙◌, subst, length}
use Rattle.std.proofs.lemmas.List.{length-append}
use Rattle.fux_grid.specs.declared.cell.Cell.{Cell}
use Rattle.rule_law.proofs.AroundLemmas.{kept_after}
use Rattle.rule_law.specs.Rulebooks.{IsAmong, TollRow, newly_costs}
use Rattle.rhythm_cadence.specs.Book.{pattern_row, toll_row}
use Rattle.rhythm_cadence.specs.Patterns.{missing_ligatures}
use Rattle.rhythm_cadence.proofs.BookLaws.{late_toll_by_row, pattern_row_of}
use Rattle.rhythm_cadence.proofs.PatternReadings.{inflection_settles, ligature_settles, pattern_settles}
use Rattle.rhythm_cadence.proofs.book.RhythmRuleCrate.cost_late.Goals as goal

pub returns-then-toll-eq15-clause-value : goal.returns-then-toll-eq15-clause-value
returns-then-toll-eq15-clause-value c = λ late p col newest on among.
    let ex = c.args.ex.now in
    let place = c.args.place in
    let A : ℕ → Type 0 = λ n. IsAmong ((toll_row n).first ex (length p)) ((toll_row n).count ex (length p)) place in
    let there = ligature_settles ex p col place (subst A c.if-toll-eq15.true among) in
    let shown = kept_after ex p col on c.args.newest.now place newest (omega (arith, there.0)) in
    c.missing_ligatures.ensures.value
    ∙ ap (λ (now : List Cell). missing_ligatures ex place now)
    (c.cells.ensures (p ++ col ∷ []) place shown (omega arith))
    ∙ sym there.1
    ∙ ap (λ n. newly_costs (toll_row n) ex p col place) (sym c.if-toll-eq15.true)

pub returns-then-toll-eq21-clause-value : goal.returns-then-toll-eq21-clause-value
returns-then-toll-eq21-clause-value c = λ late p col newest on among.
    let ex = c.args.ex.now in
    let place = c.args.place in
    let A : ℕ → Type 0 = λ n. IsAmong ((toll_row n).first ex (length p)) ((toll_row n).count ex (length p)) place in
    let own : IsAmong (length p) 1 place = subst A c.if-toll-eq21.true among in
    let there = inflection_settles ex p col place own in
    let shown = kept_after ex p col on c.args.newest.now (place - 16) newest (omega (arith, there.0)) in
    c.inflection_cost.ensures.value (p ++ col ∷ []) (place - 16) shown (omega arith)
    (omega (arith, there.0, length-append p (col ∷ [])))
    ∙ sym there.1
    ∙ ap (λ n. newly_costs (toll_row n) ex p col place) (sym c.if-toll-eq21.true)

pub returns-clause-value : goal.returns-clause-value
returns-clause-value c = λ late p col newest on among.
    let ex = c.args.ex.now in
    let place = c.args.place in
    let row : toll_row c.args.toll ≡ pattern_row = pattern_row_of c.args.toll (late_toll_by_row c.args.toll late) c.if-toll-eq15.false
    c.if-toll-eq21.false in
    let A : TollRow → Type 0 = λ it. IsAmong (it.first ex (length p)) (it.count ex (length p)) place in
    let there = pattern_settles ex p col place (subst A row among) in
    let shown = kept_after ex p col on c.args.newest.now (place - 8) newest (omega (arith, there.0)) in
    c.pattern_cost.ensures.value (p ++ col ∷ []) (place - 8) shown (omega arith)
    ∙ sym there.1
    ∙ ap (λ (it : TollRow). newly_costs it ex p col place) (sym row)
