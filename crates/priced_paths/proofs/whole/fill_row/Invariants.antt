use Rattle.priced_paths.specs.Laid.{IsRow}
use Rattle.priced_paths.proofs.whole.fill_row.Given as goal

abbrev pub invariant-loop-label : goal.invariant-loop-label
invariant-loop-label g l = IsRow (g.P.Pricing.step_at l.pricing) l.states.keys l.at l.state l.label l.row.items
