use Rattle.std.proofs.Common.{ap, sym, ◌∙◌, arith}
use Rattle.std.specs.Prelude.{Some}
use Rattle.rule_law.specs.Quiet.{is_quiet}
use Rattle.fux_judge.specs.Moves.{joint_rules, joint_tolls}
use Rattle.fux_judge.proofs.LinkLemmas.{link_breaks, link_charges}
use Rattle.fux_judge.proofs.MoveLinks.{joint_broken, joint_whole, moves_within}
use Rattle.fux_judge.proofs.QuietLinks.{pair_quiet}
use Rattle.fux_judge.proofs.moves.pair_cost_from.Goals as goal

pub returns-then-is_quiet-clause-value : goal.returns-then-is_quiet-clause-value
returns-then-is_quiet-clause-value c =
    pair_quiet c.args.ex.now c.args.i (Some c.args.prev.now.items) c.args.next.now.items
    (ap (is_quiet c.args.i) (sym c.as_slice.ensures.value) ∙ sym c.if-is_quiet.ensures) c.args.sheet.now

pub returns-then-breaks_joint_rule-clause-value : goal.returns-then-breaks_joint_rule-clause-value
returns-then-breaks_joint_rule-clause-value c =
    let l = c.link_between-link.result in
    let is = c.link_between-link.ensures in
    joint_broken c.args.ex.now c.args.sheet.now c.args.i c.args.prev.now.items c.args.next.now.items c.args.moves
    c.requires.known
    (c.if-breaks_joint_rule.ensures
    ∙ link_breaks l c.args.ex c.args.i (Some c.args.prev) c.args.next.now.items is.exercise is.number is.prev is.next
    joint_rules)

pub overflow_add-result : goal.overflow_add-result
overflow_add-result c =
    let moves = moves_within c.args.ex.now c.args.sheet.now c.args.i c.args.prev.now.items c.args.next.now.items
    c.args.moves c.requires.known c.weighs_little.ensures.repetition c.weighs_little.ensures.third
    c.weighs_little.ensures.fifth c.weighs_little.ensures.leap in
    omega (arith, moves, c.joint_charges.ensures.bound)

pub returns-clause-value : goal.returns-clause-value
returns-clause-value c =
    let l = c.link_between-link.result in
    let is = c.link_between-link.ensures in
    joint_whole c.args.ex.now c.args.sheet.now c.args.i c.args.prev.now.items c.args.next.now.items c.args.moves
    c.requires.known c.joint_charges.result
    (c.joint_charges.ensures.value
    ∙ link_charges l c.args.ex c.args.i (Some c.args.prev) c.args.next.now.items is.exercise is.number is.prev is.next
    c.args.sheet.now joint_tolls)
    (c.if-breaks_joint_rule.ensures
    ∙ link_breaks l c.args.ex c.args.i (Some c.args.prev) c.args.next.now.items is.exercise is.number is.prev is.next
    joint_rules)

pub returns-clause-bound : goal.returns-clause-bound
returns-clause-bound c =
    let moves = moves_within c.args.ex.now c.args.sheet.now c.args.i c.args.prev.now.items c.args.next.now.items
    c.args.moves c.requires.known c.weighs_little.ensures.repetition c.weighs_little.ensures.third
    c.weighs_little.ensures.fifth c.weighs_little.ensures.leap in
    omega (arith, moves, c.joint_charges.ensures.bound)
