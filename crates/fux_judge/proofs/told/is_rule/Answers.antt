use Rattle.std.proofs.Common.{◌≡◌, ◌==◌, ℕ, Option, ap, sym, subst}
use Rattle.std.specs.Prelude.{Some}
use Rattle.std.proofs.lemmas.Bool.{OnTrue_from, eqb-true}
use Rattle.fux_judge.proofs.told.is_rule.Goals as goal

pub returns-in-Some : goal.returns-in-Some
returns-in-Some c =
    OnTrue_from (c.in-Some.least == c.args.rule) (c.args.told ≡ Some c.args.rule)
    (λ h. subst (λ (o : Option ℕ). o ≡ Some c.args.rule) (sym c.in-Some.is)
    (ap Some (eqb-true c.in-Some.least c.args.rule h)))
