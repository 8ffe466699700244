use Rattle.std.proofs.Common.{◌≡◌, ℕ, Option, ap, sym, ◌∙◌, subst}
use Rattle.std.specs.Prelude.{IfSome, Some}
use Rattle.std.proofs.lemmas.Bool.{OnTrue_at}
use Rattle.fux_judge.specs.Told.{least_alone}
use Rattle.fux_judge.proofs.ToldLemmas.{alone_newly}
use Rattle.fux_judge.proofs.told.is_told_broken.Goals as goal

pub returns-then-is_least : goal.returns-then-is_least
returns-then-is_least c = λ p st on.
    let ex = c.args.ex.now in
    let col = c.args.col.now.items in
    let told : c.args.alone ≡ Some (Some c.args.rule) = OnTrue_at c.if-is_least.true c.is_least.ensures in
    let given = subst (λ (o : Option (Option ℕ)). IfSome o (λ l. l ≡ least_alone ex c.args.state.now.newest.len col))
    told c.requires.alone in
    alone_newly ex p col c.args.rule (ap (λ n. least_alone ex n col) (sym st.newest.count) ∙ sym given)
