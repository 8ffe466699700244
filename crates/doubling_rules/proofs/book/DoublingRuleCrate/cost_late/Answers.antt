use Rattle.std.specs.Prelude.{◌≡◌, ◌≤◌, ◌+◌, [], ◌∷◌, ◌++◌, length, refl}
use Rattle.std.proofs.Common.{ap, sym, ◌∙◌, arith}
use Rattle.std.proofs.lemmas.List.{length-append}
use Rattle.rule_law.proofs.AtOnce.{among_own, newly_costs-there}
use Rattle.doubling_rules.specs.Book.{may_cost, toll_row}
use Rattle.doubling_rules.specs.Rows.{cost_of_column}
use Rattle.doubling_rules.proofs.book.DoublingRuleCrate.cost_late.Goals as goal

pub returns-then-place-newest-clause-value : goal.returns-then-place-newest-clause-value
returns-then-place-newest-clause-value c = λ late p col newest on among.
    let own : c.args.place ≡ length p = among_own (may_cost c.args.toll c.args.ex.now (length p)) c.args.place
    (length p) among in
    absurd (omega (arith, own, newest.count, length-append p (col ∷ []), c.if-place-newest.true))

pub returns-clause-value : goal.returns-clause-value
returns-clause-value c = λ late p col newest on among.
    let own : c.args.place ≡ length p = among_own (may_cost c.args.toll c.args.ex.now (length p)) c.args.place
    (length p) among in
    let kept : length (p ++ col ∷ []) ≤ c.args.place + 25 = omega (arith, own, length-append p (col ∷ [])) in
    c.doubling_cost.ensures.value
    ∙ ap (cost_of_column c.args.toll c.args.ex.now c.args.place) (c.at.ensures (p ++ col ∷ []) newest kept)
    ∙ sym (newly_costs-there (toll_row c.args.toll) c.args.ex.now (λ i behind now ahead. refl) p col c.args.place own)
