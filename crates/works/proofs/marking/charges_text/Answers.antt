use Rattle.std.proofs.Common.{length, ap, arith}
use Rattle.works.proofs.marking.charges_text.Goals as goal

pub bill_of-requires : goal.bill_of-requires
bill_of-requires c =
    let whole = c.requires.whole_cantus in
    let same = ap length c.as_slice.ensures in
    record {
      fewest = omega (arith, same, whole, c.requires.fewest_bars);
      most = omega (arith, same, whole, c.requires.most_bars);
    }

pub returns : goal.returns
returns c = rw (c.in_ok-bill.ensures.charges, c.as_slice.ensures) at c.bill_text.ensures
