use Rattle.std.proofs.Common.{◌≡◌, ◌+◌, ◌/◌, ◌%◌, [], ◌∷◌, ◌++◌, length, length-append, ap, sym, ◌∙◌, append_assoc, arith}
use Rattle.std.specs.Fmt.{decimal}
use Rattle.std.proofs.lemmas.Fmt.{decimal_digit, decimal_step}
use Rattle.std.proofs.lemmas.Str.{encode_ascii}
use Rattle.cert_text.proofs.potential.+push_digits.Goals as goal
use Rattle.cert_text.proofs.potential.+push_digits.Goals.{then-number-ge10, else-number-ge10}

pub push_digits-requires : goal.push_digits-requires
push_digits-requires t c =
    let n = c.args.number in
    let step = ap length (decimal_step n c.if-number-ge10.true (omega (arith, c.ranges.number.fits))) in
    let two = length-append (decimal (n / 10)) ((48 + n % 10) ∷ []) in
    (omega (arith, c.decreases, c.if-number-ge10.true), omega (arith, step, two, c.requires))

pub push-requires : goal.push-requires
push-requires t c =
    let n = c.args.number in
    let byte : c.from.result ≡ 48 + n % 10 = c.from.ensures in
    let one = ap length (encode_ascii c.from.result (omega (arith, byte))) in
    elim c.if-number-ge10.branch [
      | then-number-ge10 w ↦
          let step = ap length (decimal_step n w.if-number-ge10.true (omega (arith, c.ranges.number.fits))) in
          let two = length-append (decimal (n / 10)) ((48 + n % 10) ∷ []) in
          let now = ap (λ line. length line.bytes) w.line-is in
          let more = ap length w.push_digits.ensures in
          let all = length-append c.args.line.now.bytes (decimal (n / 10)) in
          (omega arith, omega (arith, one, step, two, now, more, all, c.requires))
      | else-number-ge10 w ↦
          let now = ap (λ line. length line.bytes) w.line-is in
          let digit = ap length (decimal_digit n w.if-number-ge10.false) in
          (omega arith, omega (arith, one, now, digit, c.requires))
    ]

pub returns : goal.returns
returns t c =
    let n = c.args.number in
    let byte : c.from.result ≡ 48 + n % 10 = c.from.ensures in
    let put = c.push.ensures.ascii (omega (arith, byte)) ∙ ap (λ b. c.if-number-ge10.line.bytes ++ b ∷ []) byte in
    elim c.if-number-ge10.branch [
      | then-number-ge10 w ↦
          put ∙ ap (λ line. line.bytes ++ (48 + n % 10) ∷ []) w.line-is
          ∙ ap (λ bytes. bytes ++ (48 + n % 10) ∷ []) w.push_digits.ensures
          ∙ append_assoc c.args.line.now.bytes (decimal (n / 10)) ((48 + n % 10) ∷ [])
          ∙ ap (λ bytes. c.args.line.now.bytes ++ bytes)
          (sym (decimal_step n w.if-number-ge10.true (omega (arith, c.ranges.number.fits))))
      | else-number-ge10 w ↦
          let same : 48 + n % 10 ≡ 48 + n = omega (arith, w.if-number-ge10.false) in
          put ∙ ap (λ line. line.bytes ++ (48 + n % 10) ∷ []) w.line-is
          ∙ ap (λ b. c.args.line.now.bytes ++ b ∷ []) same
          ∙ ap (λ bytes. c.args.line.now.bytes ++ bytes) (sym (decimal_digit n w.if-number-ge10.false))
    ]
