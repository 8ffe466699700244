use Rattle.std.proofs.Common.{◌≡◌, List, sym, ◌∙◌, subst}
use Rattle.std.specs.Prelude.{IfSome, Some}
use Rattle.std.proofs.lemmas.Option.{IfSome_then}
use Rattle.fux_grid.specs.declared.cell.Cell.{Cell}
use Rattle.fux_grid.specs.declared.exercise.Exercise.{Exercise}
use Rattle.fux_judge.specs.Told.{least_alone}
use Rattle.fux_judge.proofs.ToldLemmas.{first_joint, joint_newly, next_joint}
use Rattle.fux_judge.proofs.told.joint_rule.Goals as goal

pub first_jointly-requires-clause-alone : goal.first_jointly-requires-clause-alone
first_jointly-requires-clause-alone c =
    let m = c.moment_of-moment.result in
    let is = c.moment_of-moment.ensures in
    subst (λ (ex : Exercise). IfSome c.args.alone (λ least. least ≡ least_alone ex m.state.now.newest.len m.column.now))
    (sym is.exercise)
    (subst (λ n. IfSome c.args.alone (λ least. least ≡ least_alone c.args.ex.now n m.column.now)) (sym is.place)
    (subst (λ (d : List Cell). IfSome c.args.alone (λ least. least
    ≡ least_alone c.args.ex.now c.args.state.now.newest.len d)) (sym is.column) c.requires.alone))

pub returns-in-Some : goal.returns-in-Some
returns-in-Some c = λ p st on.
    let m = c.moment_of-moment.result in
    let is = c.moment_of-moment.ensures in
    first_joint c.args.ex.now p c.args.col.now.items c.in-Some.rule
    (c.in-Some.ensures p (is.after p st) ∙ joint_newly c.args.ex.now p c.args.col.now.items m is.exercise is.column)

pub returns-in-None : goal.returns-in-None
returns-in-None c =
    let m = c.moment_of-moment.result in
    let is = c.moment_of-moment.ensures in
    IfSome_then c.next_rule.result c.next_rule.ensures (λ rule found p st on.
    next_joint c.args.ex.now p c.args.col.now.items rule
    (c.in-None.ensures p (is.after p st) ∙ joint_newly c.args.ex.now p c.args.col.now.items m is.exercise is.column)
    (found p st on))
