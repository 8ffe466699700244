use Rattle.std.proofs.Common.{◌≡◌, ◌/◌, ap, arith}
use Rattle.species_space.proofs.blocks.block_end.Goals as goal

pub returns-then-length-eq1 : goal.returns-then-length-eq1
returns-then-length-eq1 c = record {
  onward = omega arith;
  one_block = λ j le lt.
      let same : j ≡ c.args.k = omega (arith, le, lt) in
      ap (λ n. n / c.args.length) same;
}
