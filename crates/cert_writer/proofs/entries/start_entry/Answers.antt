use Rattle.std.proofs.Common.{ap, ◌∙◌}
use Rattle.cert_law.specs.Cases.{matter_of}
use Rattle.cert_law.specs.Rests.{stating}
use Rattle.cert_writer.proofs.StageLemmas.{start_fits, start_is}
use Rattle.cert_writer.proofs.entries.start_entry.Goals as goal

pub stating-requires : goal.stating-requires
stating-requires c =
    start_fits (matter_of c.args.case.now) c.args.tables.now c.requires.task c.start.result c.start.ensures.start

pub returns-clause-value : goal.returns-clause-value
returns-clause-value c =
    c.stating.ensures ∙ ap stating (start_is (matter_of c.args.case.now) c.args.tables.now c.requires.task c.start.result
    c.start.ensures.start)
