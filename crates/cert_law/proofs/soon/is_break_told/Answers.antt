use Rattle.std.proofs.Common.{◌++◌, ◌∷◌, [], sym, subst}
use Rattle.std.proofs.lemmas.Bool.{OnTrue_at}
use Rattle.cert_law.specs.Claims.{IsTrueOf}
use Rattle.cert_law.specs.Cases.{matter_of}
use Rattle.cert_law.proofs.SoonLemmas.{broken_more}
use Rattle.cert_text.specs.declared.claim.Claim.{Claim}
use Rattle.cert_law.proofs.soon.is_break_told.Goals as goal

pub returns-then-is_told_broken : goal.returns-then-is_told_broken
returns-then-is_told_broken c = λ stated p judged on.
    let t = matter_of c.args.case.now in
    let col = c.args.column.now.items in
    subst (λ (claim : Claim). IsTrueOf t.exercise t.sheet t.head stated (p ++ col ∷ []) claim) (sym c.in-Broken.is)
    (broken_more t.exercise p col c.in-Broken.rule
    (OnTrue_at c.if-is_told_broken.true c.is_told_broken.ensures p judged.state on))
