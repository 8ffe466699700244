use Rattle.std.proofs.Common.{◌≤◌, ◌*◌, arith}
use Rattle.std.proofs.lemmas.Nat.{mul-le}
use Rattle.smf_score.proofs.staves.slots_in.Goals as goal

pub overflow_mul-result-2 : goal.overflow_mul-result-2
overflow_mul-result-2 c =
    let bars : 8 * c.from.result ≤ 192 = omega (arith, c.from.ensures, c.requires.most_bars) in
    let voices : c.from-2.result ≤ 4 = omega (arith, c.from-2.ensures, c.requires.most_voices) in
    omega (arith, mul-le (8 * c.from.result) c.from-2.result 192 4 bars voices)
