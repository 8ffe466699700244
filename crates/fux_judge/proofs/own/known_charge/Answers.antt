use Rattle.std.proofs.Common.{ℕ, Option, subst}
use Rattle.std.specs.Prelude.{IfSome}
use Rattle.fux_judge.specs.Links.{IsOwnCost}
use Rattle.fux_judge.proofs.own.known_charge.Goals as goal

pub returns-in-Some : goal.returns-in-Some
returns-in-Some c =
    subst (λ (o : Option ℕ). IfSome o (IsOwnCost c.args.ex.now c.args.sheet.now c.args.i c.args.col.now.items))
    c.in-Some.is c.requires.known
