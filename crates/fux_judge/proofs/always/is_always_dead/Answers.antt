use Rattle.std.proofs.Common.{None, ap, sym, ◌∙◌}
use Rattle.std.specs.List.{list_any}
use Rattle.rule_law.specs.Quiet.{is_quiet}
use Rattle.fux_judge.specs.Always.{sounding_rules}
use Rattle.fux_judge.specs.Links.{breaks_strictly}
use Rattle.fux_judge.proofs.AlwaysLemmas.{sounding_dead}
use Rattle.fux_judge.proofs.QuietLinks.{rules_none}
use Rattle.fux_judge.proofs.always.is_always_dead.Goals as goal

pub returns-then-is_quiet-clause-sound : goal.returns-then-is_quiet-clause-sound
returns-then-is_quiet-clause-sound c =
    rules_none c.args.ex.now c.args.i None c.args.col.now.items
    (ap (is_quiet c.args.i) (sym c.as_slice-now.ensures.value) ∙ sym c.if-is_quiet.ensures) sounding_rules

pub returns-then-breaks_one-clause-dead : goal.returns-then-breaks_one-clause-dead
returns-then-breaks_one-clause-dead c =
    let ex = c.args.ex.now in
    sounding_dead ex c.args.i c.args.col.now.items
    (ap (λ cells. list_any (breaks_strictly ex c.args.i None cells) sounding_rules) (sym c.as_slice-now.ensures.value)
    ∙ ap (list_any (breaks_strictly ex c.args.i None c.as_slice-now.result.now)) (sym c.rules_of_sounds.ensures.value)
    ∙ sym c.if-breaks_one.ensures)

pub returns-clause-sound : goal.returns-clause-sound
returns-clause-sound c =
    let ex = c.args.ex.now in
    ap (λ cells. list_any (breaks_strictly ex c.args.i None cells) sounding_rules) (sym c.as_slice-now.ensures.value)
    ∙ ap (list_any (breaks_strictly ex c.args.i None c.as_slice-now.result.now)) (sym c.rules_of_sounds.ensures.value)
    ∙ sym c.if-breaks_one.ensures
