use Rattle.std.proofs.Common.{◌<◌, length, arith}
use Rattle.cert_law.proofs.NumberLemmas.{found_next, found_none, none_beyond}
use Rattle.species_space.specs.Blocks.{columns_seen}
use Rattle.price_check.proofs.tails.next_in.Goals as goal

pub returns-then-from-len : goal.returns-then-from-len
returns-then-from-len c =
    none_beyond (columns_seen c.args.menu.now) c.args.before.now c.args.from
    (omega (arith, c.if-from-len.true, c.len.ensures))

pub returns-then-next-len : goal.returns-then-next-len
returns-then-next-len c =
    let next = c.next_that_follows-next.ensures in
    found_none (columns_seen c.args.menu.now) c.args.before.now c.args.from c.next_that_follows-next.result next.onward
    next.within next.passed (omega (arith, c.if-next-len.true, c.len-2.ensures))

pub returns : goal.returns
returns c =
    let next = c.next_that_follows-next.ensures in
    let there : c.next_that_follows-next.result < length (columns_seen c.args.menu.now) =
    omega (arith, c.if-next-len.false, c.len-2.ensures) in
    found_next (columns_seen c.args.menu.now) c.args.before.now c.args.from c.next_that_follows-next.result next.onward
    next.within next.passed there (next.follows there)
