use Rattle.std.proofs.Common.{◌≡◌, ◌≤◌, ℕ, true, length, arith}
use Rattle.std.specs.Prelude.{nat_le}
use Rattle.std.proofs.lemmas.Bool.Decides.{nat_tests}
use Rattle.fux_grid.specs.Exercises.{columns_in}
use Rattle.species_space.specs.Paths.{alive_parts}
use Rattle.priced_floors.proofs.pricing.PricedSpacePricing.settled.Goals as goal

at_most : (a b : ℕ) → nat_le a b ≡ true → a ≤ b
at_most a b h = grind (arith, nat_tests)

pub returns-clause-small : goal.returns-clause-small
returns-clause-small c =
    let ex = c.args.self.now.space.now.exercise in
    let its = c.requires.at in
    let long = at_most (length c.requires.path) (columns_in ex) (alive_parts ex c.requires.path its.alive).room in
    omega (arith, c.paid.ensures, its.few, long, c.args.self.now.short)
