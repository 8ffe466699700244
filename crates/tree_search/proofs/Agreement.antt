-- Two searches of a tree that are not spent give one outcome (`outcomes_agree`).
use Rattle.std.proofs.Common.{◌≡◌, ℕ, ⊎_elim, List, Option, refl, sym, ap₂, subst, ◌∙◌, arith}
use Rattle.tree_search.specs.Answer.{IsLeaf, IsFirstLeast}
use Rattle.tree_search.specs.Outcomes.{IsAnswer}
use Rattle.tree_search.specs.declared.outcome.Outcome.{Outcome}
use Rattle.tree_search.specs.declared.outcome.Outcome.TheVariants.{Found, Nothing, Spent}
use Rattle.tree_search.proofs.Order.{compared}

-- there is one first leaf of least value
first_is_one : (live : List ℕ → Option ℕ) (height : ℕ) (p q : List ℕ) (v w : ℕ)
    → IsFirstLeast live height p v → IsFirstLeast live height q w → (p ≡ q) × (v ≡ w)
first_is_one live height p q v w first other =
    let level : v ≡ w = omega (arith, first.least q w other.leaf, other.least p v first.leaf) in (
      ⊎_elim
          (λ one. one)
          (λ apart. absurd (⊎_elim
          (λ before. other.first p (subst (λ (x : ℕ). IsLeaf live height p x) level first.leaf) before)
          (λ after. first.first q (subst (λ (x : ℕ). IsLeaf live height q x) (sym level) other.leaf) after)
          apart))
          (compared p q (first.leaf.0 ∙ sym other.leaf.0)),
      level,
    )

pub outcomes_agree : (live : List ℕ → Option ℕ) (height : ℕ) (one other : Outcome)
    → IsAnswer live height one → IsAnswer live height other → one ≡ other
outcomes_agree live height (Found p v) (Found q w) h k =
    let same = first_is_one live height p q v w h.found k.found in
    ap₂ (λ path value. Found path value) same.0 same.1
outcomes_agree live height (Found p v) Nothing h k = absurd (k.nothing p v h.found.leaf)
outcomes_agree live height Nothing (Found q w) h k = absurd (h.nothing q w k.found.leaf)
outcomes_agree live height Nothing Nothing h k = refl
outcomes_agree live height (Spent bound) other h k = absurd (h.unspent tt)
outcomes_agree live height one (Spent bound) h k = absurd (k.unspent tt)
