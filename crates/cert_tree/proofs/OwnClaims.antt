-- Own claims that are true are certified (`written_from`): so are the claims of several nodes, one
-- after the other (`certified-append`). They are true from a node on where they are of each node
-- that may come (`true_from`, by `each_of`).
use Rattle.std.proofs.Common.{◌≡◌, ℕ, zero, suc, Bool, true, false, List, [], ◌∷◌, ◌++◌, refl, sym, subst, append_assoc}
use Rattle.std.specs.Prelude.{if◌then◌else◌}
use Rattle.std.specs.List.{AllByRecursion, flat_map}
use Rattle.std.proofs.lemmas.List.{append-nil}
use Rattle.cert_tree.specs.Trees.{AreTrueFrom, IsCertified, IsCertifiedFrom, Tree, claims_from, owed_by}

pub each_of : {X : Type 0} {P Q : X → Type 0} (xs : List X) → ((x : X) → P x → Q x) → AllByRecursion P xs
    → AllByRecursion Q xs
each_of [] f all = tt
each_of (x ∷ xs) f all = (f x all.0, each_of xs f all.1)

module _ {X C : Type 0} (tree : Tree X C) where
  -- what is certified of two rows of nodes is certified of both together
  pub certified-append : (claims more : List C) (owed others : List X) → IsCertified tree owed claims
      → IsCertified tree others more → IsCertified tree (owed ++ others) (claims ++ more)
  certified-append [] more [] others first second = second
  certified-append [] more (p ∷ owed) others first second = absurd first
  certified-append (claim ∷ claims) more [] others first second = absurd first
  certified-append (claim ∷ claims) more (p ∷ owed) others first second =
      let P : List X → Type 0 = λ ps. IsCertified tree ps (claims ++ more) in (
        first.0,
        subst P (append_assoc (owed_by tree p claim) owed others)
            (certified-append claims more (owed_by tree p claim ++ owed) others first.1 second),
      )

  module _ (own : X → C) where
    -- the claims of each of the nodes, and of all that it owes
    each_written : (count : ℕ) (ps : List X)
        → ((p : X) → AreTrueFrom tree own count p → IsCertifiedFrom tree p (claims_from tree own count p))
        → AllByRecursion (AreTrueFrom tree own count) ps
        → IsCertified tree ps (flat_map (claims_from tree own count) ps)
    each_written count [] step holds = tt
    each_written count (p ∷ ps) step holds =
        certified-append (claims_from tree own count p) (flat_map (claims_from tree own count) ps) (p ∷ []) ps
        (step p holds.0) (each_written count ps step holds.1)

    ends : (p : X) (b : Bool) → b ≡ false → IsCertified tree ((if b then tree.longer p else []) ++ []) []
    ends p true e = cc
    ends p false e = tt

    goes_on : (count : ℕ) (p : X) (b : Bool) → tree.is_open (own p) ≡ b
        → (b ≡ true → IsCertified tree (tree.longer p) (flat_map (claims_from tree own count) (tree.longer p)))
        → IsCertified tree ((if b then tree.longer p else []) ++ [])
        (if b then flat_map (claims_from tree own count) (tree.longer p) else [])
    goes_on count p true e h =
        let P : List X → Type 0 = λ ps. IsCertified tree ps (flat_map (claims_from tree own count) (tree.longer p)) in
        subst P (sym (append-nil (tree.longer p))) (h refl)
    goes_on count p false e h = tt

    pub written_from : (count : ℕ) (p : X) → AreTrueFrom tree own count p
        → IsCertifiedFrom tree p (claims_from tree own count p)
    unfolding claims_from
    written_from zero p holds = (holds.0, ends p (tree.is_open (own p)) holds.1)
    written_from (suc count) p holds = (
      holds.0,
      goes_on count p (tree.is_open (own p)) refl
          (λ h. each_written count (tree.longer p) (written_from count) (holds.1 h)),
    )

    -- nodes with so many steps still to come, of each of which the own claim is true, and open at
    -- none where none may come
    module _ (IsBefore : ℕ → X → Type 0) (holds : (count : ℕ) (p : X) → IsBefore count p → tree.IsTrueOf p (own p))
        (closed : (p : X) → IsBefore zero p → tree.is_open (own p) ≡ false)
        (longer : (count : ℕ) (p : X) → IsBefore (suc count) p → AllByRecursion (IsBefore count) (tree.longer p))
      where
        pub true_from : (count : ℕ) (p : X) → IsBefore count p → AreTrueFrom tree own count p
        true_from zero p before = (holds zero p before, closed p before)
        true_from (suc count) p before = (
          holds (suc count) p before,
          λ _. each_of {P = IsBefore count} {Q = AreTrueFrom tree own count} (tree.longer p) (true_from count)
              (longer count p before),
        )
