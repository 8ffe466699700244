use Rattle.std.proofs.Common.{◌≡◌, ◌∙◌, subst, sym}
use Rattle.std.proofs.lemmas.Option.{IfSome_then}
use Rattle.cert_law.specs.declared.known.PrefixKnown.{PrefixKnown}
use Rattle.cert_law.specs.Known.{IsBehindKnown, IsStepOf as IsPlainStepOf, KeepsKnown, Tailed, own_in as plain_own, ways_of}
use Rattle.price_check.specs.Sharps.{Sharp, lists_in, plain_of}
use Rattle.price_check.proofs.SharpLemmas.{broken_first, plain_step, sharp_kept, sharp_step}
use Rattle.price_check.proofs.sharp_case.SharpCaseClaimTree.tell_behind.Goals as goal

pub tell_behind-plain-requires-clause-step : goal.tell_behind-plain-requires-clause-step
tell_behind-plain-requires-clause-step c =
    subst (λ (t : Tailed). IsPlainStepOf t c.args.number c.args.known.now.own) (sym c.self.invariant.without)
    (subst (λ (s : Sharp). IsPlainStepOf (plain_of s.case) c.args.number c.args.known.now.own) (sym c.self.view_is)
    (plain_step c.args.self.now c.args.known.now c.args.number c.requires.step))

-- more may be known without lists then
plain_kept : (v s : Sharp) (plain : Tailed) (old new : PrefixKnown) → v ≡ s → plain ≡ plain_of v.case
    → KeepsKnown plain old new → KeepsKnown (plain_of s.case) old new
plain_kept v s plain old new is without kept =
    subst (λ (x : Sharp). KeepsKnown (plain_of x.case) old new) is
    (subst (λ (w : Tailed). KeepsKnown w old new) without kept)

pub returns-in-Broken-clause-own : goal.returns-in-Broken-clause-own
returns-in-Broken-clause-own c =
    let s = c.args.self.now in
    let t = s.case in
    let k = c.args.number in
    let known = c.args.known.now in
    let result = c.tell_behind-plain.result in
    let plain = subst (λ (w : Tailed). IsBehindKnown w known.own k (λ q. result ≡ plain_own w q)) c.self.invariant.without
    c.tell_behind-plain.ensures.own in
    let told = subst (λ (x : Sharp). IsBehindKnown (plain_of x.case) known.own k (λ q. result ≡ plain_own (plain_of x.case) q))
    c.self.view_is plain in
    λ p is at.
    let q = (ways_of t.exercise).child p k in
    c.in-Broken.is
    ∙ sym (broken_first t.exercise t.sheet t.head (lists_in s) q c.in-Broken.field-0 (sym (told p is.own at) ∙ c.in-Broken.is))

pub returns-in-Broken-clause-kept : goal.returns-in-Broken-clause-kept
returns-in-Broken-clause-kept c = sharp_kept c.args.self.now c.args.known.now c.tell_behind-plain.new.known (plain_kept _ c.args.self.now _ c.args.known.now.own c.tell_behind-plain.new.known c.self.view_is
    c.self.invariant.without c.tell_behind-plain.ensures.kept)

pub tell_by_lists-requires : goal.tell_by_lists-requires
tell_by_lists-requires c =
    sharp_step c.args.self.now c.args.known.now c.tell_behind-plain.new.known (plain_kept _ c.args.self.now _ c.args.known.now.own c.tell_behind-plain.new.known
    c.self.view_is c.self.invariant.without c.tell_behind-plain.ensures.kept) c.args.number c.requires.step

pub returns-clause-own : goal.returns-clause-own
returns-clause-own c = λ p is at.
    c.tell_by_lists.ensures.own p
    (sharp_kept c.args.self.now c.args.known.now c.tell_behind-plain.new.known (plain_kept _ c.args.self.now _ c.args.known.now.own c.tell_behind-plain.new.known
    c.self.view_is c.self.invariant.without c.tell_behind-plain.ensures.kept) p is) at

pub returns-clause-found : goal.returns-clause-found
returns-clause-found c =
    IfSome_then c.tell_by_lists.new.found c.tell_by_lists.ensures.found (λ next behind p is at.
    behind p (sharp_kept c.args.self.now c.args.known.now c.tell_behind-plain.new.known (plain_kept _ c.args.self.now _ c.args.known.now.own c.tell_behind-plain.new.known
    c.self.view_is c.self.invariant.without c.tell_behind-plain.ensures.kept) p is) at)

pub returns-clause-kept : goal.returns-clause-kept
returns-clause-kept c = sharp_kept c.args.self.now c.args.known.now c.tell_behind-plain.new.known (plain_kept _ c.args.self.now _ c.args.known.now.own c.tell_behind-plain.new.known
    c.self.view_is c.self.invariant.without c.tell_behind-plain.ensures.kept)
