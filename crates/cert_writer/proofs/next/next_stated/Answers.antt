use Rattle.cert_law.specs.Cases.{matter_of}
use Rattle.cert_writer.proofs.StageLemmas.{column_next, start_next}
use Rattle.cert_writer.proofs.next.next_stated.Goals as goal

pub returns-in-Start-clause-text : goal.returns-in-Start-clause-text
returns-in-Start-clause-text c =
    start_next (matter_of c.args.case.now) c.args.stage.now c.stage_from.result c.start_entry.result
    c.write_potential.result.bytes c.write_potential.ensures c.stage_from.ensures.last c.in-Start.is
    c.stage_from.ensures.left c.start_entry.ensures.value

pub returns-in-Column-clause-text : goal.returns-in-Column-clause-text
returns-in-Column-clause-text c =
    column_next (matter_of c.args.case.now) c.args.stage.now c.stage_after.result c.column_entry.result
    c.write_potential-in-Column.result.bytes c.write_potential-in-Column.ensures c.stage_after.ensures.last
    c.in-Column.place c.in-Column.number (rw c.in-Column.is at c.requires.stage).1 c.in-Column.is
    c.stage_after.ensures.left c.column_entry.ensures.value
