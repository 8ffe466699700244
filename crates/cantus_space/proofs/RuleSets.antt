-- Sets of rules to which rules are added one by one.
use Rattle.std.specs.Prelude.{◌≡◌, ℕ, ◌==◌, Bool, true, false, ◌&&◌, ◌||◌, List, [], ◌∷◌, refl}
use Rattle.std.specs.List.{list_any}
use Rattle.std.proofs.Common.{ap, sym, ◌∙◌}
use Rattle.std.proofs.lemmas.Bool.{eqb-true}

pub or-assoc : (a b c : Bool) → ((a || b) || c) ≡ (a || (b || c))
or-assoc true b c = refl
or-assoc false b c = refl

-- a rule is one of these that pass where it is one of these, and passes
pub any-own : (passes : ℕ → Bool) (rule : ℕ) (rules : List ℕ)
    → list_any (λ r. passes r && rule == r) rules ≡ (list_any (λ r. rule == r) rules && passes rule)
any-own passes rule [] = refl
any-own passes rule (r ∷ rules) =
    ap (λ b. (passes r && rule == r) || b) (any-own passes rule rules)
    ∙ at (rule == r) refl (passes r) refl
  where
    at : (same : Bool) → (rule == r) ≡ same → (own : Bool) → passes r ≡ own
        → ((own && same) || (list_any (λ s. rule == s) rules && passes rule))
        ≡ ((same || list_any (λ s. rule == s) rules) && passes rule)
    at true e own f =
        let here : passes rule ≡ own = ap passes (eqb-true rule r e) ∙ f in
        ap (λ b. (own && true) || (list_any (λ s. rule == s) rules && b)) here
        ∙ closed own (list_any (λ s. rule == s) rules) ∙ sym here
      where
        closed : (a b : Bool) → ((a && true) || (b && a)) ≡ a
        closed true b = refl
        closed false true = refl
        closed false false = refl
    at false e true f = refl
    at false e false f = refl
