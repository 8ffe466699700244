use Rattle.std.proofs.Common.{length, ap, arith}
use Rattle.cert_law.specs.Cases.{matter_of}
use Rattle.cert_law.specs.Known.{tailed_of}
use Rattle.cert_law.proofs.KnownLemmas.{next_moved, open_same}
use Rattle.cert_law.proofs.NumberLemmas.{number_moved}
use Rattle.fux_grid.specs.declared.exercise.Exercise.{Exercise}
use Rattle.cert_law.proofs.tailed.next_step.Goals as goal

pub next-requires : goal.next-requires
next-requires g c =
    let own = c.requires.open_node.is_open.is_of in
    let tailed = tailed_of (matter_of c.args.case.now) (g.T.Tails.basis c.args.tails.now) in
    let further = open_same tailed c.args.known.now c.requires.case c.requires.open_node c.requires.open_node.node own in
    omega (
      arith,
      further.shorter,
      own.judged.state.newest.count,
      ap (λ (ex : Exercise). ex.bars) c.requires.tails.exercise,
    )

pub returns : goal.returns
returns g c = λ p is.
    let t = matter_of c.args.case.now in
    let basis = g.T.Tails.basis c.args.tails.now in
    let known = c.args.known.now in
    let further = open_same (tailed_of t basis) known c.requires.case c.requires.open_node p is in
    next_moved t.exercise p c.args.from c.next.result (c.requires.tails.narrow (length p) further.shorter)
    (number_moved basis.exercise t.exercise known.judged.state.newest.len p c.before-before.result.now
    c.args.from c.next.result c.requires.tails.exercise is.judged.state.newest.count
    (c.before-before.ensures p is.judged.state) c.next.ensures)
