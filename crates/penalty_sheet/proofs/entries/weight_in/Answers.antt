use Rattle.toml.specs.View.{table_view}
use Rattle.penalty_sheet.specs.Sheets.{entry_fault}
use Rattle.penalty_sheet.proofs.EntryLemmas.{number_found, weight_fits, weight_tested_by}
use Rattle.penalty_sheet.proofs.entries.weight_in.Goals as goal

pub kept-requires-clause-low : goal.kept-requires-clause-low
kept-requires-clause-low c =
    (weight_fits c.in-Some.weight
    (number_found entry_fault weight_tested_by c.toll_key.result.now
    (table_view c.args.table.now) c.in-Some.weight c.requires.right c.in-Some.ensures)).0

pub kept-requires-clause-high : goal.kept-requires-clause-high
kept-requires-clause-high c =
    (weight_fits c.in-Some.weight
    (number_found entry_fault weight_tested_by c.toll_key.result.now
    (table_view c.args.table.now) c.in-Some.weight c.requires.right c.in-Some.ensures)).1
