use Rattle.std.proofs.Common.{codes}
use Rattle.toml.specs.View.{table_view}
use Rattle.penalty_sheet.specs.Sheets.{more_fault}
use Rattle.penalty_sheet.proofs.EntryLemmas.{more_tested_by, number_found, weight_fits}
use Rattle.penalty_sheet.proofs.entries.more_in.Goals as goal

pub kept-requires-clause-low : goal.kept-requires-clause-low
kept-requires-clause-low c =
    (weight_fits c.in-Some.weight
    (number_found more_fault more_tested_by (codes "Q21")
    (table_view c.args.table.now) c.in-Some.weight c.requires.right c.in-Some.ensures)).0

pub kept-requires-clause-high : goal.kept-requires-clause-high
kept-requires-clause-high c =
    (weight_fits c.in-Some.weight
    (number_found more_fault more_tested_by (codes "Q21")
    (table_view c.args.table.now) c.in-Some.weight c.requires.right c.in-Some.ensures)).1
