-- Claims that were judged are certified just where in the end none was refused and no node is owed
-- (`are_certified`, `are_none`).
use Rattle.std.specs.Prelude.{◌≡◌, ◌⊎◌, List, [], ◌∷◌, ◌++◌, Some, None, refl}
use Rattle.std.proofs.Common.{inl, inr, ap, sym, ◌∙◌, subst}
use Rattle.cert_tree.specs.Trees.{IsCertified, IsCertifiedFrom, Tree, owed_by}
use Rattle.cert_tree.specs.Judgings.{AreFed, IsFault, Refuses, Standing, Takes, TakesOf, begun_at}
use Rattle.cert_tree.specs.declared.judging.Refusal.{Refusal}

pub some_none : (refused : Refusal) → Some refused ≡ None → ⊥
some_none refused e = cc

-- no claim was refused, and no node is owed
record IsDone {X : Type 0} (s : Standing X) : Type 0 where
  pub unrefused : s.refusal ≡ None
  pub none : s.owed ≡ []

module _ {X C : Type 0} (tree : Tree X C) where
  -- a refusal is kept
  stays_refused : (claims : List C) (old new : Standing X) (refused : Refusal) → old.refusal ≡ Some refused
      → AreFed tree old claims new → new.refusal ≡ Some refused
  stays_refused [] old new refused kept are = ap (λ (s : Standing X). s.refusal) are ∙ kept
  stays_refused (claim ∷ claims) old new refused kept are =
      stays_refused claims are.0 new refused
      (ap (λ (s : Standing X). s.refusal) (are.1.again refused kept) ∙ kept) are.2

  -- so after one nothing is done
  refused_not_done : (old next new : Standing X) (claim : C) (claims : List C) (refused : Refusal)
      → Refuses tree old claim refused next → AreFed tree next claims new → IsDone new → ⊥
  refused_not_done old next new claim claims refused is are done =
      some_none refused (sym (stays_refused claims next new refused (ap (λ (s : Standing X). s.refusal) is.1) are)
      ∙ done.unrefused)

  run_done : (claims : List C) (old new : Standing X) → old.refusal ≡ None → AreFed tree old claims new
      → (IsDone new → IsCertified tree old.owed claims) × (IsCertified tree old.owed claims → IsDone new)
  run_done [] old new unrefused are = (
    λ done. subst (λ (ps : List X). IsCertified tree ps [])
        (sym (sym (ap (λ (s : Standing X). s.owed) are) ∙ done.none)) tt,
    λ certified. record {
      unrefused = ap (λ (s : Standing X). s.refusal) are ∙ unrefused;
      none = ap (λ (s : Standing X). s.owed) are ∙ none old.owed certified;
    },
  )
    where
      none : (ps : List X) → IsCertified tree ps [] → ps ≡ []
      none [] h = refl
      none (p ∷ ps) h = absurd h
  run_done (claim ∷ claims) old new unrefused are = at old.owed refl (are.1.judged unrefused) (run_done claims are.0 new)
    where
      next : Standing X
      next = are.0

      at : (ps : List X) → old.owed ≡ ps
          → Takes tree old claim next ⊎ ((refused : Refusal) × Refuses tree old claim refused next)
          → (next.refusal ≡ None → AreFed tree next claims new → (IsDone new → IsCertified tree next.owed claims)
          × (IsCertified tree next.owed claims → IsDone new))
          → (IsDone new → IsCertified tree old.owed (claim ∷ claims))
          × (IsCertified tree old.owed (claim ∷ claims) → IsDone new)
      at [] e (inl takes) later = absurd (subst (λ (qs : List X). TakesOf tree old qs claim next) e takes)
      at [] e (inr refuses) later = (
        λ done. absurd (refused_not_done old next new claim claims refuses.0 refuses.1 are.2 done),
        λ certified. absurd (subst (λ (qs : List X). IsCertified tree qs (claim ∷ claims)) e certified),
      )
      at (p ∷ ps) e (inl takes) later =
          let is = subst (λ (qs : List X). TakesOf tree old qs claim next) e takes in
          let rest = later (ap (λ (s : Standing X). s.refusal) is.1 ∙ unrefused) are.2 in
          let owed : next.owed ≡ owed_by tree p claim ++ ps = ap (λ (s : Standing X). s.owed) is.1 in (
            λ done. subst (λ (qs : List X). IsCertified tree qs (claim ∷ claims)) (sym e)
                (is.0, subst (λ (qs : List X). IsCertified tree qs claims) owed (rest.0 done)),
            λ certified.
                let parts = subst (λ (qs : List X). IsCertified tree qs (claim ∷ claims)) e certified in
                rest.1 (subst (λ (qs : List X). IsCertified tree qs claims) (sym owed) parts.1),
          )
      at (p ∷ ps) e (inr refuses) later = (
        λ done. absurd (refused_not_done old next new claim claims refuses.0 refuses.1 are.2 done),
        λ certified.
            let fault = subst (λ (qs : List X). IsFault tree old qs claim refuses.0) e refuses.1.0 in
            absurd (fault.0 (subst (λ (qs : List X). IsCertified tree qs (claim ∷ claims)) e certified).0),
      )

  pub are_certified : (root : X) (now : Standing X) → now.refusal ≡ None → now.owed ≡ [] → (claims : List C)
      → AreFed tree (begun_at root) claims now → IsCertifiedFrom tree root claims
  are_certified root now unrefused none claims are =
      (run_done claims (begun_at root) now refl are).0 record { unrefused = unrefused; none = none }

  pub are_none : (root : X) (now : Standing X) → (now.refusal ≡ None → now.owed ≡ [] → ⊥) → (claims : List C)
      → AreFed tree (begun_at root) claims now → IsCertifiedFrom tree root claims → ⊥
  are_none root now undone claims are certified =
      let done = (run_done claims (begun_at root) now refl are).1 certified in
      undone done.unrefused done.none

-- ---- what a walk owes
