use Rattle.toml.specs.View.{table_view}
use Rattle.penalty_sheet.proofs.EntryLemmas.{key_tested, number_found, weight_fits}
use Rattle.cantus_space.specs.PricedSheets.{is_price_key, price_fault}
use Rattle.cantus_space.proofs.entries.price_in.Goals as goal

pub kept-requires-clause-low : goal.kept-requires-clause-low
kept-requires-clause-low c =
    (weight_fits c.in-Some.weight
    (number_found price_fault (λ key value. key_tested key value (is_price_key key)) c.price_key.result.now
    (table_view c.args.table.now) c.in-Some.weight c.requires.right c.in-Some.ensures)).0

pub kept-requires-clause-high : goal.kept-requires-clause-high
kept-requires-clause-high c =
    (weight_fits c.in-Some.weight
    (number_found price_fault (λ key value. key_tested key value (is_price_key key)) c.price_key.result.now
    (table_view c.args.table.now) c.in-Some.weight c.requires.right c.in-Some.ensures)).1
