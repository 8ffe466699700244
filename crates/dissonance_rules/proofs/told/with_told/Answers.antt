use Rattle.std.proofs.Common.{◌≡◌, ℕ, Some, None, sym, ◌∙◌, subst}
use Rattle.std.proofs.lemmas.Bool.{both_ways}
use Rattle.rule_law.specs.Rulebooks.{IsAmong}
use Rattle.rule_law.specs.Voices.{is_free}
use Rattle.dissonance_rules.proofs.told.with_told.Goals as goal

pub returns-then-not-is_free-clause-told : goal.returns-then-not-is_free-clause-told
returns-then-not-is_free-clause-told c = λ i is first before within.
    absurd (both_ways (is_free c.args.ex.now c.args.v) (sym c.is_free.ensures ∙ c.if-not-is_free.true) is.free)

pub returns-in-Some-clause-from : goal.returns-in-Some-clause-from
returns-in-Some-clause-from c = λ h. c.with_place.ensures.from c.args.first h c.in-Some.ensures.from

pub returns-in-Some-clause-to : goal.returns-in-Some-clause-to
returns-in-Some-clause-to c = c.with_place.ensures.to c.args.last c.requires.end c.in-Some.ensures.before

pub returns-in-Some-clause-told : goal.returns-in-Some-clause-told
returns-in-Some-clause-told c = λ i is first before within.
    let found : Some c.in-Some.place ≡ Some i = c.in-Some.ensures.told i is.latest is.told first before within in
    let same : c.in-Some.place ≡ i = cc in
    let P : ℕ → Type 0 = λ k. IsAmong c.with_place.result.first c.with_place.result.count k in
    subst P same c.with_place.ensures.new

pub returns-in-None-clause-told : goal.returns-in-None-clause-told
returns-in-None-clause-told c = λ i is first before within.
    let none : None ≡ Some i = c.in-None.ensures.told i is.latest is.told first before within in
    absurd (cc)
