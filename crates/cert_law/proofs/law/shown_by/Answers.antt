use Rattle.cert_law.proofs.TailFacts.{tails_hold}
use Rattle.cert_law.proofs.Valid.{certificate_holds}
use Rattle.cert_law.proofs.law.shown_by.Goals as goal

pub returns : goal.returns
returns c = λ stated claims valid.
    certificate_holds c.args.ex.now c.args.sheet.now c.requires.valid.most_voices stated
    (tails_hold c.args.ex.now c.requires.valid c.args.sheet.now stated valid.entries)
    c.args.head.now claims valid
