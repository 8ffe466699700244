use Rattle.std.proofs.Common.{ap, sym, ◌∙◌, arith}
use Rattle.price_check.specs.Stated.{price_told, told_or}
use Rattle.price_check.proofs.Told.{told_end, told_here, told_later}
use Rattle.price_check.proofs.stated.price_at.Goals as goal

pub loop-line-preserved : goal.loop-line-preserved
loop-line-preserved c =
    c.loop-line.invariant
    ∙ told_later (price_told c.args.case c.args.voice c.args.place) c.args.lines.now c.loop-line.line-index c.line-item.result (omega arith) c.line-item.is
    (sym c.price_told.ensures ∙ c.in_default.is)

pub returns-in-Some : goal.returns-in-Some
returns-in-Some c =
    sym (ap (told_or 0) (c.loop-line.invariant
    ∙ told_here (price_told c.args.case c.args.voice c.args.place) c.args.lines.now c.loop-line.line-index c.line-item.result _ (omega arith) c.line-item.is
    (sym c.price_told.ensures ∙ c.in-Some.is)))

pub returns : goal.returns
returns c =
    sym (ap (told_or 0) (c.loop-line.invariant
    ∙ told_end (price_told c.args.case c.args.voice c.args.place) c.args.lines.now c.loop-line.line-index (omega arith)))
