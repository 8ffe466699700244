use Rattle.std.proofs.Common.{ap, sym, ◌∙◌}
use Rattle.std.specs.Prelude.{find}
use Rattle.fux_grid.specs.Exercises.{IsRelax}
use Rattle.penalty_sheet.specs.Prices.{relaxes}
use Rattle.penalty_sheet.proofs.FoundLines.{found_holds}
use Rattle.penalty_sheet.proofs.price.price_at.Goals as goal

-- each line of a valid exercise has a price within the limit
pub returns-in-Some-clause-bound : goal.returns-in-Some-clause-bound
returns-in-Some-clause-bound c valid =
    let found = sym c.in-Some.is ∙ c.first_line.ensures
    ∙ ap (find (relaxes c.args.rule c.args.voices.bits c.args.bar)) c.as_slice.ensures in
    (found_holds (relaxes c.args.rule c.args.voices.bits c.args.bar) (IsRelax c.args.ex.now) c.args.ex.now.relax
    c.in-Some.line (sym found) valid.relax_fit).price
