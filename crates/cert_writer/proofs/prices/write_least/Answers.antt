use Rattle.std.proofs.Common.{List, map, ap, sym, subst, ◌∙◌}
use Rattle.cert_writer.proofs.Least.{least_fits}
use Rattle.cert_writer.specs.Stating.{FitBehind}
use Rattle.price_check.specs.Statements.{HasLargeStated}
use Rattle.price_check.specs.PriceLines.{Line, line_of}
use Rattle.cert_writer.proofs.Heads.{least_large}
use Rattle.cert_writer.proofs.prices.write_least.Goals as goal

pub write_by_lines-requires-clause-fit : goal.write_by_lines-requires-clause-fit
write_by_lines-requires-clause-fit g c κs within =
    let space = c.args.space.now in
    subst (λ (ls : List Line). FitBehind space.exercise space.sheet c.args.front.now ls)
    (sym (ap (map line_of) c.deref.ensures.value ∙ c.in_ok-lines.ensures))
    (least_fits space.exercise space.sheet c.args.front.now c.requires.brief)

pub returns-clause-large : goal.returns-clause-large
returns-clause-large g c = λ is.
    let space = c.args.space.now in
    least_large space.exercise space.sheet
    (subst (λ (ls : List Line). HasLargeStated space.exercise space.sheet ls)
    (ap (map line_of) c.deref.ensures.value ∙ c.in_ok-lines.ensures) (c.write_by_lines.ensures.large is))
