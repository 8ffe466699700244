use Rattle.std.proofs.Common.{ap, map, [], ◌∷◌, ◌∙◌}
use Rattle.std.proofs.lemmas.Bool.{OnTrue_at}
use Rattle.std.proofs.lemmas.List.{map-append}
use Rattle.price_check.specs.PriceLines.{line_of}
use Rattle.cert_writer.proofs.Begun.{put_states, within_more}
use Rattle.cert_writer.proofs.stating.Stating.put.Goals as goal

pub returns : goal.returns
returns c =
    let yes = c.if-not-may_stand.false in
    put_states c.args.ex.now c.args.sheet.now c.args.self.now _ (line_of c.args.line) c.requires
    (ap (map line_of) c.in_ok-push.ensures.items
    ∙ map-append line_of c.args.self.now.lines.items (c.args.line ∷ []))
    c.after-before.ensures (OnTrue_at yes c.may_stand.ensures.fits) (OnTrue_at yes c.may_stand.ensures.last)
    (within_more _ _ (line_of c.args.line) c.most_price_of.ensures.due (OnTrue_at yes c.may_stand.ensures.within))
