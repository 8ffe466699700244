use Rattle.std.proofs.Common.{◌≡◌, ◌∷◌, sym, ap, ◌∙◌, arith}
use Rattle.std.specs.Prelude.{[]}
use Rattle.cert_text.proofs.NameLemmas.{names-stop}
use Rattle.cert_text.proofs.PieceLemmas.{IfErr-map, IfOk-map}
use Rattle.cert_text.proofs.scan.name.Goals as goal

pub returns-in_default-clause-ok : goal.returns-in_default-clause-ok
returns-in_default-clause-ok c =
    IfOk-map c.start.result (λ found read. read c.args.i c.args.before) c.start.ensures.ok

pub returns-in_default-clause-err : goal.returns-in_default-clause-err
returns-in_default-clause-err c =
    let none : c.args.bytes.now ≡ [] = c.next.ensures.none c.in_default.is in
    IfErr-map c.start.result
    (λ left stop. names-stop c.args.i c.args.before c.args.bytes.now left
    (λ cell b more e s name. let both = sym none ∙ e in absurd (grind (arith, both))) stop)
    c.start.ensures.err

pub returns-in-None-clause-ok : goal.returns-in-None-clause-ok
returns-in-None-clause-ok c =
    IfOk-map c.start-in-None.result (λ found read. read c.args.i c.args.before) c.start-in-None.ensures.ok

pub returns-in-None-clause-err : goal.returns-in-None-clause-err
returns-in-None-clause-err c =
    IfErr-map c.start-in-None.result
    (λ left stop. names-stop c.args.i c.args.before c.args.bytes.now left
    (λ cell b more e s name.
    let both : c.in-Some.byte ∷ c.in-Some.rest.now ≡ b ∷ more = sym c.in-Some.ensures.some ∙ e in
    let same : b ≡ c.in-Some.byte = cc in
    c.rest_or_hold.ensures.none c.in-None.is cell s (name ∙ ap (λ x. x ∷ []) same)) stop)
    c.start-in-None.ensures.err
