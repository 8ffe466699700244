use Rattle.std.proofs.Common.{ap, ◌∙◌}
use Rattle.cert_law.specs.Cases.{matter_of}
use Rattle.cert_law.specs.Rests.{stating}
use Rattle.cert_writer.proofs.StageLemmas.{rest_fits, rest_is}
use Rattle.cert_writer.proofs.entries.column_entry.Goals as goal

pub stating-requires : goal.stating-requires
stating-requires c =
    rest_fits (matter_of c.args.case.now) c.args.tables.now c.requires.task c.args.place c.args.number
    c.rest_of_number.result c.requires.place c.rest_of_number.ensures.rest

pub returns-clause-value : goal.returns-clause-value
returns-clause-value c =
    c.stating.ensures ∙ ap stating (rest_is (matter_of c.args.case.now) c.args.tables.now c.requires.task c.args.place
    c.args.number c.rest_of_number.result c.requires.place c.rest_of_number.ensures.rest)
