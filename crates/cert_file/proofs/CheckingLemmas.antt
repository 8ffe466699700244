-- What a checker answers and keeps, by what is judged of its tree: a claim that is taken
-- (`taken_seen`) or refused (`refused_seen`), and that claims which were fed to it were fed to the
-- tree (`fed_seen`).
use Rattle.std.proofs.Common.{◌≡◌, inl, inr, ◌+◌, List, [], ◌∷◌, ◌++◌, Option, Some, None, refl, sym, ap, subst, ◌∙◌}
use Rattle.std.specs.Prelude.{option_map}
use Rattle.cert_text.specs.declared.answers.Refused.{Refused}
use Rattle.cert_text.specs.declared.claim.Claim.{Claim}
use Rattle.cert_tree.specs.Judgings.{AreFed as TreeFed, IsFault as TreeFault, IsFed as TreeIsFed, IsFedCertified, IsFedNone, Refuses as TreeRefuses, Standing, Takes as TreeTakes, TakesOf as TreeTakesOf, begun_at}
use Rattle.cert_tree.specs.Trees.{Tree, owed_by}
use Rattle.cert_tree.specs.declared.judging.Cause.{Cause}
use Rattle.cert_tree.specs.declared.judging.Cause.TheVariants as causes
use Rattle.cert_tree.specs.declared.judging.Refusal.{Refusal}
use Rattle.cert_file.specs.Checking.{AreFed, Checking, IsFault, IsFed, IsFedCertificate, Refuses, Takes, TakesOf, refused_by, why_of}
use Rattle.cert_file.specs.Checking as checking
use Rattle.cert_file.specs.Subjects.{Subject}

-- what contracts see of a checker of this, by where its judge stands
abbrev pub seen_at : {P H X : Type 0} → P → H → Standing X → Checking P H X
seen_at asked head s = record {
  asked = asked;
  head = head;
  owed = s.owed;
  count = s.count;
  refusal = option_map refused_by s.refusal;
}

same_cause : (a b : Cause) → why_of a ≡ why_of b → a ≡ b
same_cause causes.False causes.False e = refl
same_cause causes.False causes.Over e = cc
same_cause causes.False causes.Short e = cc
same_cause causes.Over causes.False e = cc
same_cause causes.Over causes.Over e = refl
same_cause causes.Over causes.Short e = cc
same_cause causes.Short causes.False e = cc
same_cause causes.Short causes.Over e = cc
same_cause causes.Short causes.Short e = refl

same_refusal : (a b : Refusal) → refused_by a ≡ refused_by b → a ≡ b
same_refusal a b e =
    let number : a.number ≡ b.number = ap (λ (r : Refused). r.number) e in
    let cause : a.cause ≡ b.cause = same_cause a.cause b.cause (ap (λ (r : Refused). r.why) e) in
    ap (λ n. record { number = n; cause = a.cause }) number ∙ ap (λ (k : Cause). record { number = b.number; cause = k }) cause

pub none_seen : (refusal : Option Refusal) → option_map refused_by refusal ≡ None → refusal ≡ None
none_seen None e = refl
none_seen (Some refused) e = cc

pub some_seen : (refusal : Option Refusal) (refused : Refused) → option_map refused_by refusal ≡ Some refused
    → (own : Refusal) × (refusal ≡ Some own) × (refused_by own ≡ refused)
some_seen None refused e = cc
some_seen (Some own) refused e = (own, refl, cc)

module _ {P H X : Type 0} (family : P → Subject H X) (asked : P) (head : H) where
  abbrev tree : Tree X Claim
  tree = (family asked).tree head

  abbrev seen : Standing X → Checking P H X
  seen = seen_at asked head

  pub takes_seen : (old : Standing X) (claim : Claim) (new : Standing X)
      → TreeTakes tree old claim new → Takes (family asked) (seen old) claim (seen new)
  takes_seen old claim new takes = by old.owed takes
    where
      by : (owed : List X) → TreeTakesOf tree old owed claim new
          → TakesOf (family asked) (seen old) owed claim (seen new)
      by [] it = it
      by (p ∷ owed) it = (it.0, ap seen it.1)

  pub refuses_seen : (old : Standing X) (claim : Claim) (refused : Refusal) (new : Standing X)
      → TreeRefuses tree old claim refused new → Refuses (family asked) (seen old) claim (refused_by refused) (seen new)
  refuses_seen old claim refused new refuses = (by old.owed refuses.0, ap seen refuses.1)
    where
      by : (owed : List X) → TreeFault tree old owed claim refused
          → IsFault (family asked) (seen old) owed claim (refused_by refused)
      by [] it = ap refused_by it
      by (p ∷ owed) it = (it.0, ap refused_by it.1)

  -- what a checker answers and keeps, that contracts see as this
  pub taken_seen : (old new : Standing X) (claim : Claim) (now : Checking P H X) → seen old ≡ now
      → (old.refusal ≡ None → TreeTakes tree old claim new)
      → now.refusal ≡ None → Takes (family now.asked) now claim (seen new)
  taken_seen old new claim now same taken =
      subst (λ (s : Checking P H X). s.refusal ≡ None → Takes (family s.asked) s claim (seen new)) same
      (λ clear. takes_seen old claim new (taken (none_seen old.refusal clear)))

  pub refused_seen : (old new : Standing X) (claim : Claim) (refusal : Refusal) (now : Checking P H X) → seen old ≡ now
      → (old.refusal ≡ None → TreeRefuses tree old claim refusal new)
      → now.refusal ≡ None → Refuses (family now.asked) now claim (refused_by refusal) (seen new)
  refused_seen old new claim refusal now same refused =
      subst (λ (s : Checking P H X). s.refusal ≡ None → Refuses (family s.asked) s claim (refused_by refusal) (seen new)) same
      (λ clear. refuses_seen old claim refusal new (refused (none_seen old.refusal clear)))

  -- ---- and the other way round

  same_option : (a b : Option Refusal) → option_map refused_by a ≡ option_map refused_by b → a ≡ b
  same_option None None e = refl
  same_option None (Some b) e = cc
  same_option (Some a) None e = cc
  same_option (Some a) (Some b) e = let same : refused_by a ≡ refused_by b = cc in ap Some (same_refusal a b same)

  same_standing : (a b : Standing X) → seen a ≡ seen b → a ≡ b
  same_standing a b e =
      let owed : a.owed ≡ b.owed = ap (λ (c : Checking P H X). c.owed) e in
      let count : a.count ≡ b.count = ap (λ (c : Checking P H X). c.count) e in
      let refusal : a.refusal ≡ b.refusal = same_option a.refusal b.refusal (ap (λ (c : Checking P H X). c.refusal) e) in
      ap (λ o. record { owed = o; count = a.count; refusal = a.refusal }) owed
      ∙ ap (λ n. record { owed = b.owed; count = n; refusal = a.refusal }) count
      ∙ ap (λ r. record { owed = b.owed; count = b.count; refusal = r }) refusal

  to_tree : (s : Standing X) (claim : Claim) (new : Checking P H X) → IsFed (family asked) (seen s) claim new
      → (t : Standing X) × (seen t ≡ new) × TreeIsFed tree s claim t
  to_tree s claim new fed = by s.refusal refl
    where
      some_none : (own : Refusal) → s.refusal ≡ None → s.refusal ≡ Some own → ⊥
      some_none own e f = let both : None ≡ Some own = sym e ∙ f in cc

      takes : s.refusal ≡ None → (owed : List X) → s.owed ≡ owed → TakesOf (family asked) (seen s) owed claim new
          → (t : Standing X) × (seen t ≡ new) × TreeIsFed tree s claim t
      takes clear [] e it = absurd it
      takes clear (p ∷ owed) e it =
          let t : Standing X =
          record s { owed = owed_by tree p claim ++ owed; count = s.count + 1 } in (
            t,
            sym it.1,
            record {
              judged = λ _. inl (subst (λ o. TreeTakesOf tree s o claim t) (sym e) (it.0, refl));
              again = λ own f. absurd (some_none own clear f);
            },
          )

      refuses : s.refusal ≡ None → (refused : Refused) → new ≡ record (seen s) { refusal = Some refused }
          → (owed : List X) → s.owed ≡ owed → IsFault (family asked) (seen s) owed claim refused
          → (t : Standing X) × (seen t ≡ new) × TreeIsFed tree s claim t
      refuses clear refused is [] e it =
          let own : Refusal = record { number = s.count + 1; cause = causes.Over } in
          let t : Standing X = record s { refusal = Some own } in (
            t,
            sym (is ∙ ap (λ r. record (seen s) { refusal = Some r }) it),
            record {
              judged = λ _.
                  inr (own, (subst (λ o. TreeFault tree s o claim own) (sym e) refl, refl));
              again = λ other f. absurd (some_none other clear f);
            },
          )
      refuses clear refused is (p ∷ owed) e it =
          let own : Refusal = record { number = s.count + 1; cause = causes.False } in
          let t : Standing X = record s { refusal = Some own } in (
            t,
            sym (is ∙ ap (λ r. record (seen s) { refusal = Some r }) it.1),
            record {
              judged = λ _.
                  inr (own, (subst (λ o. TreeFault tree s o claim own) (sym e) (it.0, refl), refl));
              again = λ other f. absurd (some_none other clear f);
            },
          )

      by : (refusal : Option Refusal) → s.refusal ≡ refusal
          → (t : Standing X) × (seen t ≡ new) × TreeIsFed tree s claim t
      by (Some own) e = (
        s,
        sym (fed.again (refused_by own) (ap (option_map refused_by) e)),
        record { judged = λ clear. absurd (some_none own clear e); again = λ other f. refl },
      )
      by None e = elim (fed.judged (ap (option_map refused_by) e)) [
        | inl it ↦ takes e s.owed refl it
        | inr it ↦ refuses e it.0 it.1.1 s.owed refl it.1.0
      ]

  -- claims that were fed to a checker were fed to its judge
  pub fed_seen : (claims : List Claim) (s end : Standing X) → AreFed (family asked) (seen s) claims (seen end)
      → TreeFed tree s claims end
  fed_seen [] s end are = same_standing end s are
  fed_seen (claim ∷ claims) s end are =
      let next = to_tree s claim are.0 are.1 in
      (next.0, next.2, fed_seen claims next.0 end (subst (λ (k : Checking P H X). AreFed (family asked) k claims (seen end)) (sym next.1) are.2))

  -- so what is certified there is a certificate
  pub certificate_seen : (now : Checking P H X) (s : Standing X) → seen s ≡ now → (family asked).IsSound head
      → IsFedCertified tree (family asked).root s → IsFedCertificate (family now.asked) now
  certificate_seen now s same sound fed =
      subst (λ (k : Checking P H X). IsFedCertificate (family k.asked) k) same
      (λ claims are. record {
        sound = sound;
        certified = fed claims (fed_seen claims (begun_at (family asked).root) s are);
      })

  pub none_certified : (now : Checking P H X) (s : Standing X) → seen s ≡ now
      → IsFedNone tree (family asked).root s → checking.IsFedNone (family now.asked) now
  none_certified now s same fed =
      subst (λ (k : Checking P H X). checking.IsFedNone (family k.asked) k) same
      (λ claims are valid. fed claims (fed_seen claims (begun_at (family asked).root) s are) valid.certified)
