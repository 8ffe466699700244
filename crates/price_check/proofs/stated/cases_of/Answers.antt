use Rattle.std.proofs.Common.{[], ap, sym, ◌∙◌, arith}
use Rattle.price_check.specs.Stated.{cases_told, told_or}
use Rattle.price_check.proofs.Told.{none_seen, some_seen, told_end, told_here, told_later}
use Rattle.price_check.proofs.stated.cases_of.Goals as goal

pub loop-line-preserved : goal.loop-line-preserved
loop-line-preserved c =
    c.loop-line.invariant
    ∙ told_later cases_told c.args.lines.now c.loop-line.line-index c.line-item.result (omega arith) c.line-item.is
    (sym c.cases_told.ensures ∙ none_seen _ _ c.in_default.is)

pub returns-in-Some : goal.returns-in-Some
returns-in-Some c =
    sym (ap (told_or (0, [])) (c.loop-line.invariant
    ∙ told_here cases_told c.args.lines.now c.loop-line.line-index c.line-item.result _ (omega arith) c.line-item.is
    (sym c.cases_told.ensures ∙ some_seen _ _ _ c.in-Some.is)))

pub returns : goal.returns
returns c =
    sym (ap (told_or (0, [])) (c.loop-line.invariant
    ∙ told_end cases_told c.args.lines.now c.loop-line.line-index (omega arith)))
