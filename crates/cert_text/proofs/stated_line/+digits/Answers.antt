use Rattle.std.proofs.Common.{◌/◌, ◌%◌, ◌+◌, ◌≤◌, ◌∷◌, [], length, length-append, ap, arith}
use Rattle.std.specs.Fmt.{decimal}
use Rattle.std.proofs.lemmas.Fmt.{decimal_digit, decimal_step, length-decimal-le}
use Rattle.cert_text.proofs.stated_line.+digits.Goals as goal

pub overflow_add-result : goal.overflow_add-result
overflow_add-result t c =
    let few : length (decimal (c.args.number / 10)) ≤ 20 =
    length-decimal-le 20 (c.args.number / 10) (omega arith) (omega arith) (omega arith) in
    omega (arith, few, c.digits.ensures)

pub returns-then-number-lt10 : goal.returns-then-number-lt10
returns-then-number-lt10 t c =
    let one = ap length (decimal_digit c.args.number c.if-number-lt10.true) in omega (arith, one)

pub returns-else-number-lt10 : goal.returns-else-number-lt10
returns-else-number-lt10 t c =
    let step = ap length (decimal_step c.args.number c.if-number-lt10.false (omega arith)) in
    let two = length-append (decimal (c.args.number / 10)) ((48 + c.args.number % 10) ∷ []) in
    omega (arith, step, two, c.digits.ensures)
