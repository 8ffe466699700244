-- The claims to come are the own claim of the next node, and those of what that owes in its place
-- (`claims_step`), which are true (`told_step`).
use Rattle.std.specs.Prelude.{◌≡◌, ℕ, zero, suc, ◌+◌, Bool, true, false, List, [], ◌∷◌, ◌++◌, refl, if◌then◌else◌}
use Rattle.std.specs.List.{AllByRecursion, flat_map}
use Rattle.std.proofs.Common.{arith, ap, sym, ◌∙◌, subst}
use Rattle.std.proofs.lemmas.List.Concat.{flat_map-append}
use Rattle.cert_tree.specs.Trees.{AreTrueFrom, Tree, claims_from}
use Rattle.cert_tree.specs.Walks.{AreWays, Ways}
use Rattle.cert_tree.specs.Writing.{claims_at, steps_left}

all-append : {X : Type 0} (P : X → Type 0) (xs ys : List X) → AllByRecursion P xs → AllByRecursion P ys
    → AllByRecursion P (xs ++ ys)
all-append P [] ys all more = more
all-append P (x ∷ xs) ys all more = (all.0, all-append P xs ys all.1 more)

module _ {X C : Type 0} (tree : Tree X C) (own : X → C) (root : X) (ways : Ways X) (are : AreWays tree root ways) (p : X)
  where
    -- a step takes one of those that are left
    one_less : (count : ℕ) (q : X) → steps_left ways p ≡ suc count → ways.steps q ≡ ways.steps p + 1
        → steps_left ways q ≡ count
    one_less count q left step = omega (arith, left, step)

    same_claims : (count : ℕ) (qs : List X) → steps_left ways p ≡ suc count
        → AllByRecursion (λ q. ways.steps q ≡ ways.steps p + 1) qs
        → flat_map (claims_from tree own count) qs ≡ flat_map (claims_at tree own ways) qs
    same_claims count [] left steps = refl
    same_claims count (q ∷ qs) left steps =
        let here : count ≡ steps_left ways q = sym (one_less count q left steps.0) in
        ap (λ n. claims_from tree own n q ++ flat_map (claims_from tree own count) qs) here
        ∙ ap (λ claims. claims_at tree own ways q ++ claims) (same_claims count qs left steps.1)

    all_told : (count : ℕ) (qs : List X) → steps_left ways p ≡ suc count
        → AllByRecursion (λ q. ways.steps q ≡ ways.steps p + 1) qs → AllByRecursion (AreTrueFrom tree own count) qs
        → AllByRecursion (λ q. AreTrueFrom tree own (steps_left ways q) q) qs
    all_told count [] left steps told = tt
    all_told count (q ∷ qs) left steps told =
        let here : count ≡ steps_left ways q = sym (one_less count q left steps.0) in
        (subst (λ n. AreTrueFrom tree own n q) here told.0, all_told count qs left steps.1 told.1)

    -- the claims of a node, by what is found of its own claim
    claims_go_on : (b : Bool) → b ≡ tree.is_open (own p) → AreTrueFrom tree own (steps_left ways p) p
        → claims_at tree own ways p ≡ own p ∷ flat_map (claims_at tree own ways) (if b then ways.longer_from p 0 else [])
    unfolding claims_from
    claims_go_on b e told = at (steps_left ways p) refl b e told
      where
        at : (count : ℕ) → steps_left ways p ≡ count → (b : Bool) → b ≡ tree.is_open (own p)
            → AreTrueFrom tree own count p → claims_from tree own count p
            ≡ own p ∷ flat_map (claims_at tree own ways) (if b then ways.longer_from p 0 else [])
        at zero left true o told = let clash : true ≡ false = o ∙ told.1 in cc
        at zero left false o told = refl
        at (suc count) left true o told =
            ap (λ t. own p ∷ (if t then flat_map (claims_from tree own count) (tree.longer p) else [])) (sym o)
            ∙ ap (λ claims. own p ∷ claims) (same_claims count (tree.longer p) left (are.each_step p))
            ∙ ap (λ qs. own p ∷ flat_map (claims_at tree own ways) qs) (sym (are.all p))
        at (suc count) left false o told =
            ap (λ t. own p ∷ (if t then flat_map (claims_from tree own count) (tree.longer p) else [])) (sym o)

    pub claims_step : (claim : C) (b : Bool) (later : List X) → claim ≡ own p → b ≡ tree.is_open claim
        → AreTrueFrom tree own (steps_left ways p) p
        → flat_map (claims_at tree own ways) (p ∷ later) ≡ claim
        ∷ flat_map (claims_at tree own ways) ((if b then ways.longer_from p 0 else []) ++ later)
    claims_step claim b later is o told =
        ap (λ claims. claims ++ flat_map (claims_at tree own ways) later) (claims_go_on b (o ∙ ap tree.is_open is) told)
        ∙ ap (λ claims. own p ∷ claims)
        (sym (flat_map-append (claims_at tree own ways) (if b then ways.longer_from p 0 else []) later))
        ∙ ap (λ k. k ∷ flat_map (claims_at tree own ways) ((if b then ways.longer_from p 0 else []) ++ later)) (sym is)

    told_go_on : (b : Bool) → b ≡ tree.is_open (own p) → AreTrueFrom tree own (steps_left ways p) p
        → AllByRecursion (λ q. AreTrueFrom tree own (steps_left ways q) q) (if b then ways.longer_from p 0 else [])
    told_go_on b e told = at (steps_left ways p) refl b e told
      where
        at : (count : ℕ) → steps_left ways p ≡ count → (b : Bool) → b ≡ tree.is_open (own p)
            → AreTrueFrom tree own count p
            → AllByRecursion (λ q. AreTrueFrom tree own (steps_left ways q) q) (if b then ways.longer_from p 0 else [])
        at zero left true o told = let clash : true ≡ false = o ∙ told.1 in cc
        at zero left false o told = tt
        at (suc count) left true o told =
            subst (λ qs. AllByRecursion (λ q. AreTrueFrom tree own (steps_left ways q) q) qs) (sym (are.all p))
            (all_told count (tree.longer p) left (are.each_step p) (told.1 (sym o)))
        at (suc count) left false o told = tt

    pub told_step : (claim : C) (b : Bool) (later : List X) → claim ≡ own p → b ≡ tree.is_open claim
        → AreTrueFrom tree own (steps_left ways p) p
        → AllByRecursion (λ q. AreTrueFrom tree own (steps_left ways q) q) later
        → AllByRecursion (λ q. AreTrueFrom tree own (steps_left ways q) q)
        ((if b then ways.longer_from p 0 else []) ++ later)
    told_step claim b later is o told more =
        all-append (λ q. AreTrueFrom tree own (steps_left ways q) q) (if b then ways.longer_from p 0 else []) later
        (told_go_on b (o ∙ ap tree.is_open is) told) more
