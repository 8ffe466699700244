use Rattle.std.proofs.Common.{◌-◌, arith}
use Rattle.cert_tree.proofs.Levels.{noted}
use Rattle.cert_tree.proofs.walk.judge_newest.Goals as goal

pub returns-clause-levels : goal.returns-clause-levels
returns-clause-levels g c =
    let it = c.args.it.now in
    let tree = g.T.ClaimTree in
    (noted (tree.tree it) (tree.is_of it) (tree.ways it) c.args.levels.now.items c.index_mut-level.result.now
    c.judge_behind.new.known (c.len-top.result - 1) c.requires.some (omega (arith, c.len-top.ensures))
    c.index_mut-level.ensures.value c.judge_behind.ensures.kept c.requires.levels).0

pub returns-clause-steps : goal.returns-clause-steps
returns-clause-steps g c =
    let it = c.args.it.now in
    let tree = g.T.ClaimTree in
    (noted (tree.tree it) (tree.is_of it) (tree.ways it) c.args.levels.now.items c.index_mut-level.result.now
    c.judge_behind.new.known (c.len-top.result - 1) c.requires.some (omega (arith, c.len-top.ensures))
    c.index_mut-level.ensures.value c.judge_behind.ensures.kept c.requires.levels).1
