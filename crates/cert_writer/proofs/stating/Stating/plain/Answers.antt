use Rattle.std.proofs.Common.{ap, ◌∙◌}
use Rattle.price_check.specs.PriceLines.{Keeps, after}
use Rattle.cert_writer.proofs.Begun.{one_line, plain_states}
use Rattle.cert_writer.proofs.stating.Stating.plain.Goals as goal

pub returns : goal.returns
returns c =
    plain_states c.args.ex.now c.args.sheet.now c.args.turns c.args.runs _
    (one_line _ _ _ c.in_ok-push.ensures.items c.new-lines.ensures.items)
    (c.after-before.ensures ∙ ap (λ b. after b (Keeps c.args.turns c.args.runs)) c.nothing.ensures)
