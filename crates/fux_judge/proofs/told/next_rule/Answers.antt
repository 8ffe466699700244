use Rattle.std.proofs.Common.{◌≡◌, ◌∷◌, [], false, true, ap, sym, ◌∙◌}
use Rattle.std.specs.Prelude.{Some, cond}
use Rattle.std.specs.List.{find}
use Rattle.fux_judge.specs.Moments.{is_strictly_broken_then}
use Rattle.fux_judge.specs.Penalties.{newly_broken}
use Rattle.fux_judge.specs.Rules.{all_sets}
use Rattle.fux_judge.proofs.ToldLemmas.{fifteenth_is_late, moving_newly}
use Rattle.fux_judge.proofs.told.next_rule.Goals as goal

pub breaks_late_rule-requires-clause-late : goal.breaks_late_rule-requires-clause-late
breaks_late_rule-requires-clause-late c = fifteenth_is_late

pub returns-then-breaks_late_rule : goal.returns-then-breaks_late_rule
returns-then-breaks_late_rule c = λ p st on.
    let ex = c.args.ex.now in
    let col = c.args.col.now.items in
    let broken : newly_broken ex p col 15 ≡ true =
    sym (c.breaks_late_rule.ensures p st on) ∙ c.if-breaks_late_rule.true in
    sym (ap (λ b. cond b (Some 15) (find (newly_broken ex p col) (16 ∷ 17 ∷ []))) broken)

pub returns : goal.returns
returns c = λ p st on.
    let ex = c.args.ex.now in
    let col = c.args.col.now.items in
    let m = c.moment_of-moment.result in
    let is = c.moment_of-moment.ensures in
    let kept : newly_broken ex p col 15 ≡ false =
    sym (c.breaks_late_rule.ensures p st on) ∙ c.if-breaks_late_rule.false in
    c.in_ok-rule.ensures p (is.after p st)
    ∙ ap (find (λ r. is_strictly_broken_then all_sets r p m)) c.told_of_moves.ensures.value
    ∙ moving_newly ex p col m is.exercise is.column
    ∙ sym (ap (λ b. cond b (Some 15) (find (newly_broken ex p col) (16 ∷ 17 ∷ []))) kept)
