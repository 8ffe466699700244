-- Two states are the same where their depths are and what they keep is (`state_same`), and a set has
-- one state more or none where one is put (`grows_put`).
use Rattle.std.proofs.Common.{◌≡◌, ℕ, ◌==◌, ◌&&◌, Bool, true, false, true≢false, List, [], ◌∷◌, ◌++◌, Option, Some, if◌then◌else◌, refl, sym, ap, subst, ◌∙◌, inl, inr}
use Rattle.std.specs.Bool.{Decides}
use Rattle.std.specs.Cmp.{decided}
use Rattle.std.specs.List.{list_any}
use Rattle.std.proofs.lemmas.Bool.Decides.{Decides-and, Decides-eqb, Decides-like}
use Rattle.std.proofs.lemmas.Map.Views.{Contains-from_any, list_any-from_Contains}
use Rattle.indexmap.specs.IndexSet.{insert_key}
use Rattle.priced_paths.specs.declared.states.State.{State}
use Rattle.priced_paths.specs.Sizes.{state_at}
use Rattle.priced_paths.specs.Listed.{GrowsBy}

pub state_same : {K : Type 0} {eq : K → K → Bool} → ((a b : K) → Decides (eq a b) (a ≡ b)) → (s t : State K)
    → Decides ((s.depth == t.depth) && eq s.kept t.kept) (s ≡ t)
state_same {K} same s t =
    Decides-like _ (λ both. ap (λ (d : ℕ). state_at d s.kept) both.0 ∙ ap (λ (k : K). state_at t.depth k) both.1)
    (λ e. (ap (λ (x : State K). x.depth) e, ap (λ (x : State K). x.kept) e))
    (Decides-and _ _ (Decides-eqb s.depth t.depth) (same s.kept t.kept))

pub grows_put : {X : Type 0} {eq : X → X → Bool} → ((a b : X) → Decides (eq a b) (a ≡ b)) → (old new : List X) (x : X)
    (o : Option X) → o ≡ Some x → new ≡ insert_key eq old x → GrowsBy o old new
grows_put {X} {eq} same old new x o is put = subst (λ p. GrowsBy p old new) (sym is) (by (list_any (eq x) old) refl)
  where
    by : (b : Bool) → list_any (eq x) old ≡ b → GrowsBy (Some x) old new
    by true e = inl (
      Contains-from_any (λ a b. (same a b).0) x old e,
      put ∙ ap (λ b. if b then old else old ++ x ∷ []) e,
    )
    by false e = inr (
      λ there. true≢false (sym (list_any-from_Contains (decided eq same) x old there) ∙ e),
      put ∙ ap (λ b. if b then old else old ++ x ∷ []) e,
    )
