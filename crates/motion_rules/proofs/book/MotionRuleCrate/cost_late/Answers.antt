use Rattle.std.specs.Prelude.{◌≡◌, ℕ, ◌+◌, ◌-◌, [], ◌∷◌, ◌++◌, List, length}
use Rattle.std.proofs.Common.{ap, sym, ◌∙◌, subst, arith}
use Rattle.std.proofs.lemmas.List.{length-append}
use Rattle.fux_grid.specs.declared.cell.Cell.{Cell}
use Rattle.fux_grid.specs.Columns.{earlier, newest_column}
use Rattle.rule_law.proofs.AroundLemmas.{kept_after, newest-first}
use Rattle.rule_law.specs.Rulebooks.{IsAmong, TollRow, newly_costs}
use Rattle.motion_rules.specs.Book.{run_row, toll_row}
use Rattle.motion_rules.specs.InnerVoices.{inner_moves}
use Rattle.motion_rules.proofs.LateLemmas.{newly_inner, newly_run, run_row_of}
use Rattle.motion_rules.proofs.book.MotionRuleCrate.cost_late.Goals as goal

pub returns-then-toll-ne12-clause-value : goal.returns-then-toll-ne12-clause-value
returns-then-toll-ne12-clause-value c = λ late p col newest on among.
    let ex = c.args.ex.now in
    let place = c.args.place in
    let s = p ++ col ∷ [] in
    let row : toll_row c.args.toll ≡ run_row = run_row_of c.args.toll late c.if-toll-ne12.true in
    let A : TollRow → Type 0 = λ it. IsAmong (it.first ex (length p)) (it.count ex (length p)) place in
    let there = newly_run ex p col place (subst A row among) in
    let shown = kept_after ex p col on c.args.newest.now (place - 24) newest (omega (arith, there.0)) in
    c.imperfect_runs.ensures.value s (place - 24) shown (omega arith) (omega (arith, there.0, length-append p (col ∷ [])))
    ∙ sym there.1
    ∙ ap (λ (it : TollRow). newly_costs it ex p col place) (sym row)

pub returns-clause-value : goal.returns-clause-value
returns-clause-value c = λ late p col newest on among.
    let ex = c.args.ex.now in
    let place = c.args.place in
    let s = p ++ col ∷ [] in
    let A : ℕ → Type 0 = λ n. IsAmong ((toll_row n).first ex (length p)) ((toll_row n).count ex (length p)) place in
    let there = newly_inner ex p col place (subst A c.if-toll-ne12.false among) in
    let last : length s ≡ place + 1 = omega (arith, there.0, length-append p (col ∷ [])) in
    let shown = kept_after ex p col on c.args.newest.now (place - 8) newest (omega (arith, there.0)) in
    c.inner_moves.ensures.value
    ∙ ap (λ (before : List Cell). inner_moves ex before c.cells.result.now)
    (c.cells_behind.ensures s (place - 8) shown (omega arith) (omega (arith, last))
    ∙ sym (newest-first (earlier s place)))
    ∙ ap (λ (now : List Cell). inner_moves ex (newest_column (earlier s place)) now)
    (c.cells.ensures s (place - 8) shown (omega arith))
    ∙ sym there.1
    ∙ ap (λ n. newly_costs (toll_row n) ex p col place) (sym c.if-toll-ne12.false)
