-- Bytes are refused before any claim of a cantus certificate in one way, if they are
-- (`cantus_once`).
use Rattle.std.proofs.Common.{◌≡◌, ℕ, ◌++◌, List, length, drop, refl, sym, ap, subst, ◌∙◌, arith, append_assoc}
use Rattle.std.proofs.lemmas.List.{take-append-drop}
use Rattle.cert_file.specs.Readings.{judged_bytes, longest_certificate}
use Rattle.cert_file.specs.declared.verdict.Verdict.{Verdict}
use Rattle.cert_file.specs.declared.verdict.Verdict.TheVariants as verdicts
use Rattle.cert_file.proofs.OneVerdict.{IsRefusedOnce}
use Rattle.cert_text.specs.declared.answers.CertFault.TheVariants.{CertHead as WrongHead, CertWord, CertEnd, Memory}
use Rattle.cert_text.specs.declared.answers.Why.{Why}
use Rattle.cert_text.specs.declared.answers.Why.TheVariants.{Head}
use Rattle.cert_text.specs.Pieces.{GoesTo, Stands}
use Rattle.cert_text.proofs.Fronts.{at_front, stands-one}
use Rattle.cantus_check.specs.Certificates.{IsHeadSound}
use Rattle.cantus_check.specs.Claims.{Said}
use Rattle.cantus_space.specs.declared.plan.CantusPlan.{CantusPlan}
use Rattle.cantus_check.specs.Heads.{IsHeadText}
use Rattle.cantus_check.proofs.HeadRows.{heads-alone}
use Rattle.cantus_check.specs.Topics.{IsUnsound, Refuses, cantus_subject}

module _ (plan : CantusPlan) (bytes : List ℕ) where
  -- no head stands at the front, or it isn't sound
  data Kind (it : Verdict) : Type 0 where
    headless : (at : ℕ) → it ≡ verdicts.Text (WrongHead at) → GoesTo IsHeadText bytes at → Kind it
    unsound : (number : ℕ) → it ≡ verdicts.Claim (record { number = 0; why = Head }) → IsUnsound plan number bytes → Kind it

  kind_of : (it : Verdict) → Refuses plan it bytes → Kind it
  kind_of (verdicts.Accepted answer) it = absurd it
  kind_of (verdicts.Claim refused) it =
      unsound refused.number
      (ap (λ (n : ℕ). verdicts.Claim (record { number = n; why = refused.why })) it.1.numbered
      ∙ ap (λ (w : Why). verdicts.Claim (record { number = 0; why = w })) it.0)
      it.1
  kind_of (verdicts.Text (WrongHead at)) it = headless at refl it
  kind_of (verdicts.Text (CertWord at)) it = absurd it
  kind_of (verdicts.Text (CertEnd at)) it = absurd it
  kind_of (verdicts.Text Memory) it = absurd it

  -- the head that isn't sound stands at the front of all bytes
  stands_unsound : (number : ℕ) (it : IsUnsound plan number bytes) → Stands IsHeadText bytes it.said (length it.front)
  stands_unsound number it =
      let rest = drop (length it.front) bytes in
      at_front IsHeadText it.said bytes it.front rest
      (sym (take-append-drop (length it.front) bytes) ∙ ap (λ xs. xs ++ rest) it.begins) it.heads

  one_stop : (a b : ℕ) → GoesTo IsHeadText bytes a → GoesTo IsHeadText bytes b → a ≡ b
  one_stop a b p q = omega (arith, p.longest b q.within q.begins, q.longest a p.within p.begins)

  one_kind : (it other : Verdict) → Kind it → Kind other → it ≡ other
  one_kind it other (headless a e p) (headless b f q) =
      e ∙ ap (λ n. verdicts.Text (WrongHead n)) (one_stop a b p q) ∙ sym f
  one_kind it other (headless a e p) (unsound n f q) = absurd (p.unfinished q.said _ (stands_unsound n q))
  one_kind it other (unsound n e p) (headless b f q) = absurd (q.unfinished p.said _ (stands_unsound n p))
  one_kind it other (unsound n e p) (unsound m f q) = e ∙ sym f

  no_head : (it : Verdict) (said : Said) (front rest : List ℕ) → Kind it → IsHeadSound plan said → IsHeadText said front
      → judged_bytes bytes ≡ front ++ rest → ⊥
  no_head it said front rest kind sound heads is = by kind
    where
      later : List ℕ
      later = drop longest_certificate bytes

      stands : Stands IsHeadText bytes said (length front)
      stands = at_front IsHeadText said bytes front (rest ++ later)
          (sym (take-append-drop longest_certificate bytes) ∙ ap (λ xs. xs ++ later) is ∙ append_assoc front rest later)
          heads

      by : Kind it → ⊥
      by (headless a e p) = p.unfinished said (length front) stands
      by (unsound n e p) =
          p.unsound (subst (λ (h : Said). IsHeadSound plan h)
          (stands-one IsHeadText heads-alone bytes said p.said _ _ stands (stands_unsound n p)).0 sound)

  pub cantus_once : IsRefusedOnce (cantus_subject plan) bytes
  cantus_once = record {
    one = λ it other p q. one_kind it other (kind_of it p) (kind_of other q);
    none = λ it said front rest p sound heads is. no_head it said front rest (kind_of it p) sound heads is;
  }
