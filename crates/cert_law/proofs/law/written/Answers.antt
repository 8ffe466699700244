use Rattle.cert_law.proofs.CostBounds.{entries_small}
use Rattle.cert_law.proofs.FloorFacts.{floors_hold}
use Rattle.cert_law.proofs.WrittenClaims.{written_is_valid}
use Rattle.cert_law.proofs.WrittenEntries.{stated_are_rests}
use Rattle.cert_law.specs.Rests.{stated_in}
use Rattle.cert_law.proofs.law.written.Goals as goal

pub returns-clause-rests : goal.returns-clause-rests
returns-clause-rests c = λ stated rests holds.
    written_is_valid c.args.ex.now c.args.sheet.now c.requires.valid
    (floors_hold c.args.ex.now c.requires.valid c.args.sheet.now)
    c.args.head.now stated rests holds

pub returns-clause-forms : goal.returns-clause-forms
returns-clause-forms c = λ form holds.
    written_is_valid c.args.ex.now c.args.sheet.now c.requires.valid
    (floors_hold c.args.ex.now c.requires.valid c.args.sheet.now)
    c.args.head.now (stated_in form c.args.ex.now c.args.sheet.now)
    (stated_are_rests c.args.ex.now c.args.sheet.now form) holds

pub returns-clause-small : goal.returns-clause-small
returns-clause-small c = entries_small c.args.ex.now c.args.sheet.now c.weights_are_small.ensures c.requires.valid
