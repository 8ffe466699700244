use Rattle.std.proofs.Common.{◌<◌, sym, subst}
use Rattle.cantus_space.proofs.Trees.{number-at, numbers_of}
use Rattle.cantus_space.proofs.path.cantus_of.Goals as goal

pub numbered_pitch-requires : goal.numbered_pitch-requires
numbered_pitch-requires c =
    subst (λ n. n < 73) (sym c.from.ensures)
    (number-at c.args.path.now (numbers_of c.args.space.now c.args.path.now c.requires) c.loop-k.k-index
    c.loop-k-test.true)
