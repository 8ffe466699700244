use Rattle.std.proofs.Common.{◌≤◌, ◌*◌, arith}
use Rattle.std.proofs.lemmas.Nat.{mul-le}
use Rattle.smf_score.proofs.staves.end_of.Goals as goal

pub overflow_mul-result-2 : goal.overflow_mul-result-2
overflow_mul-result-2 c =
    let ticks : 4 * c.from.result ≤ 17179869180 = omega (arith, c.from.ensures, c.ranges.division.fits) in
    let bars : c.from-2.result ≤ 24 = omega (arith, c.from-2.ensures, c.requires.most_bars) in
    omega (arith, mul-le (4 * c.from.result) c.from-2.result 17179869180 24 ticks bars)

pub returns-clause-early : goal.returns-clause-early
returns-clause-early c =
    let ticks : 4 * c.from.result ≤ 17179869180 = omega (arith, c.from.ensures, c.ranges.division.fits) in
    let bars : c.from-2.result ≤ 24 = omega (arith, c.from-2.ensures, c.requires.most_bars) in
    omega (arith, mul-le (4 * c.from.result) c.from-2.result 17179869180 24 ticks bars)
