use Rattle.std.proofs.Common.{◌≡◌, ℕ, Option, ap, sym, subst}
use Rattle.std.specs.Prelude.{Some}
use Rattle.std.proofs.lemmas.Bool.{OnTrue_at, OnTrue_from}
use Rattle.fux_judge.proofs.told.is_least.Goals as goal

pub returns-in-Some : goal.returns-in-Some
returns-in-Some c =
    OnTrue_from c.is_rule.result (c.args.alone ≡ Some (Some c.args.rule))
    (λ h. subst (λ (o : Option (Option ℕ)). o ≡ Some (Some c.args.rule)) (sym c.in-Some.is)
    (ap Some (OnTrue_at h c.is_rule.ensures)))
