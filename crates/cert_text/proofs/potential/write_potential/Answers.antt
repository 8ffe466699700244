use Rattle.std.proofs.Common.{◌<◌, ◌^◌, ◌++◌, length, length-append, ap, subst, codes, ◌∙◌, arith}
use Rattle.std.specs.Fmt.{decimal}
use Rattle.std.proofs.lemmas.Fmt.{length-decimal-le}
use Rattle.std.proofs.lemmas.Str.{encode_ascii}
use Rattle.cert_text.specs.Potentials.{IsPotential}
use Rattle.cert_text.proofs.potential.write_potential.Goals as goal
use Rattle.cert_text.proofs.potential.write_potential.Goals.{in-Least, in-NoChain}

pub push_digits-requires : goal.push_digits-requires
push_digits-requires c =
    let n = c.in-Least.number in
    let small : n < 2 ^ 32 = subst IsPotential c.in-Least.is c.requires in
    let few = length-decimal-le 10 n (omega arith) (omega (arith, small)) (omega (arith, small)) in
    let put = ap length (c.push_str.ensures.bytes ∙ ap (λ bytes. bytes ++ codes "p ") c.new-line.ensures) in
    omega (arith, few, put)

pub push-requires-2 : goal.push-requires-2
push-requires-2 c =
    let feed = ap length (encode_ascii 10 (omega arith)) in
    elim c.match-p.branch [
      | in-Least w ↦
          let n = w.in-Least.number in
          let small : n < 2 ^ 32 = subst IsPotential w.in-Least.is c.requires in
          let few = length-decimal-le 10 n (omega arith) (omega (arith, small)) (omega (arith, small)) in
          let put = ap length (w.push_str.ensures.bytes ∙ ap (λ bytes. bytes ++ codes "p ") c.new-line.ensures) in
          let more = ap length w.push_digits.ensures in
          let all = length-append w.push_str.new.self.bytes (decimal n) in
          (omega arith, omega (arith, feed, few, put, more, all, ap (λ line. length line.bytes) w.line-is))
      | in-NoChain w ↦
          let put = ap length (w.push.ensures.ascii (omega arith) ∙ ap (λ bytes. bytes ++ codes "n") c.new-line.ensures) in
          (omega arith, omega (arith, feed, put, ap (λ line. length line.bytes) w.line-is))
    ]
