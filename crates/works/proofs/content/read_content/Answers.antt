use Rattle.std.proofs.Common.{Err, refl, ap, ◌∙◌}
use Rattle.works.proofs.ContentLemmas.{long_content, may_have}
use Rattle.works.proofs.content.read_content.Goals as goal

pub returns-in-Ok-clause-reads : goal.returns-in-Ok-clause-reads
returns-in-Ok-clause-reads g c = record {
  bytes = c.in-Ok.bytes.items;
  had = may_have (g.F.Shelf.files c.args.shelf.now) c.args.name.now c.in-Ok.bytes.items
      (λ absent. cc (c.read_whole.ensures.missing absent, c.in-Ok.is)) c.in-Ok.ensures.ok;
  content = refl;
}

pub returns-in-Err-TooLong-clause-reads : goal.returns-in-Err-TooLong-clause-reads
returns-in-Err-TooLong-clause-reads g c =
    let fault = c.in-Err-TooLong.field-0-is in
    let known = c.in-Err-TooLong.ensures in
    long_content c.args.limit (g.F.Shelf.files c.args.shelf.now) c.args.name.now
    (λ absent. cc (known.missing absent, fault)) (known.too_long (ap Err fault))

pub returns-in-Err-Failed-clause-served : goal.returns-in-Err-Failed-clause-served
returns-in-Err-Failed-clause-served g c = λ promised.
    c.read_whole.ensures.served promised (c.in-Err-Failed.is ∙ ap Err c.in-Err-Failed.field-0-is)

pub returns-in-Err-Failed-clause-reads : goal.returns-in-Err-Failed-clause-reads
returns-in-Err-Failed-clause-reads g c =
    (refl, c.read_whole.ensures.failed (c.in-Err-Failed.is ∙ ap Err c.in-Err-Failed.field-0-is))
