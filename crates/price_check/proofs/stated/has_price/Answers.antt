use Rattle.std.proofs.Common.{ap, sym, ◌∙◌, arith}
use Rattle.std.specs.Prelude.{false}
use Rattle.price_check.specs.Stated.{some_told, told_or}
use Rattle.price_check.proofs.Told.{told_end, told_here, told_later}
use Rattle.price_check.proofs.stated.has_price.Goals as goal

pub loop-line-preserved : goal.loop-line-preserved
loop-line-preserved c =
    c.loop-line.invariant
    ∙ told_later some_told c.args.lines.now c.loop-line.line-index c.line-item.result (omega arith) c.line-item.is
    (sym c.some_told.ensures ∙ c.in_default.is)

pub returns-in-Some : goal.returns-in-Some
returns-in-Some c =
    sym (ap (told_or false) (c.loop-line.invariant
    ∙ told_here some_told c.args.lines.now c.loop-line.line-index c.line-item.result _ (omega arith) c.line-item.is
    (sym c.some_told.ensures ∙ c.in-Some.is)))

pub returns : goal.returns
returns c =
    sym (ap (told_or false) (c.loop-line.invariant
    ∙ told_end some_told c.args.lines.now c.loop-line.line-index (omega arith)))
