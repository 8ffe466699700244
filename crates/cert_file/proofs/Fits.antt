-- Each claim that is written has a line (`claims-fit`, `to_come-fit`, `next-fits`).
use Rattle.std.proofs.Common.{ℕ, zero, suc, Bool, true, false, List, [], ◌∷◌, ◌++◌, Option, Some, None, if◌then◌else◌}
use Rattle.std.specs.Prelude.{IfSome}
use Rattle.std.specs.List.{AllByRecursion, flat_map}
use Rattle.cert_text.specs.Lines.{IsClaim}
use Rattle.cert_text.specs.declared.claim.Claim.{Claim}
use Rattle.cert_tree.specs.Trees.{Tree, claims_from}
use Rattle.cert_tree.specs.Walks.{Ways, owed_by_walk}
use Rattle.cert_tree.specs.Writing.{claims_at, claims_to_come, claims_with, steps_left}
use Rattle.cert_tree.specs.declared.walk.Walk.{Walk}

all_append : {A : Type 0} (P : A → Type 0) (xs ys : List A) → AllByRecursion P xs → AllByRecursion P ys
    → AllByRecursion P (xs ++ ys)
all_append P [] ys p q = q
all_append P (x ∷ xs) ys p q = (p.0, all_append P xs ys p.1 q)

all_flat : {A B : Type 0} (P : B → Type 0) (f : A → List B) (xs : List A) → ((x : A) → AllByRecursion P (f x))
    → AllByRecursion P (flat_map f xs)
all_flat P f [] h = tt
all_flat P f (x ∷ xs) h = all_append P (f x) (flat_map f xs) (h x) (all_flat P f xs h)

module _ {X : Type 0} (tree : Tree X Claim) (own : X → Claim) (fits : (p : X) → IsClaim (own p)) where
  pub claims-fit : (count : ℕ) (p : X) → AllByRecursion IsClaim (claims_from tree own count p)
  unfolding claims_from
  claims-fit zero p = (fits p, tt)
  claims-fit (suc count) p = (fits p, by (tree.is_open (own p)) (claims-fit count))
    where
      by : (b : Bool) → ((q : X) → AllByRecursion IsClaim (claims_from tree own count q))
          → AllByRecursion IsClaim (if b then flat_map (claims_from tree own count) (tree.longer p) else [])
      by true each = all_flat IsClaim (claims_from tree own count) (tree.longer p) each
      by false each = tt

  pub to_come-fit : {K : Type 0} (ways : Ways X) (walk : Walk K) → AllByRecursion IsClaim (claims_to_come tree own ways walk)
  to_come-fit ways walk =
      all_flat IsClaim (claims_at tree own ways) (owed_by_walk ways walk)
      (λ p. claims-fit (steps_left ways p) p)

pub next-fits : (claim : Option Claim) (later : List Claim) → AllByRecursion IsClaim (claims_with claim later)
    → IfSome claim IsClaim
next-fits None later all = tt
next-fits (Some claim) later all = all.0
