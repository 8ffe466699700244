-- Certified claims leave nothing that refutes (`none_refutes_from`): as long as true claims are
-- taken, what refutes is begun by a node that is owed (`claim_kept`), and in the end none is owed.
use Rattle.std.proofs.Common.{◌≡◌, inl, inr, Bool, true, false, List, [], ◌∷◌, ◌++◌, refl}
use Rattle.std.specs.Prelude.{if◌then◌else◌}
use Rattle.cert_tree.specs.Trees.{Excludes, IsBegunByOne, IsCertified, IsCertifiedFrom, OwesRefuting, Tree, owed_by}

pub begun-left : {X L : Type 0} (Begins : X → L → Type 0) (owed others : List X) (leaf : L)
    → IsBegunByOne Begins owed leaf → IsBegunByOne Begins (owed ++ others) leaf
begun-left Begins [] others leaf h = absurd h
begun-left Begins (p ∷ owed) others leaf (inl h) = inl h
begun-left Begins (p ∷ owed) others leaf (inr h) = inr (begun-left Begins owed others leaf h)

pub begun-right : {X L : Type 0} (Begins : X → L → Type 0) (owed others : List X) (leaf : L)
    → IsBegunByOne Begins others leaf → IsBegunByOne Begins (owed ++ others) leaf
begun-right Begins [] others leaf h = h
begun-right Begins (p ∷ owed) others leaf h = inr (begun-right Begins owed others leaf h)

module _ {X C L : Type 0} (tree : Tree X C) (Begins : X → L → Type 0) (Refutes : L → Type 0)
    (excludes : Excludes tree Begins Refutes) where
  goes_on : (p : X) (claim : C) (leaf : L) (b : Bool) → tree.is_open claim ≡ b → tree.IsTrueOf p claim → Refutes leaf
      → Begins p leaf → IsBegunByOne Begins (if b then tree.longer p else []) leaf
  goes_on p claim leaf true e holds refutes h = excludes.open_goes_on p claim leaf e holds refutes h
  goes_on p claim leaf false e holds refutes h = excludes.closed_ends p claim leaf e holds refutes h

  pub claim_kept : (p : X) (claim : C) (owed : List X) → tree.IsTrueOf p claim → OwesRefuting Begins Refutes (p ∷ owed)
      → OwesRefuting Begins Refutes (owed_by tree p claim ++ owed)
  claim_kept p claim owed holds owes leaf refutes = at (owes leaf refutes)
    where
      at : IsBegunByOne Begins (p ∷ owed) leaf → IsBegunByOne Begins (owed_by tree p claim ++ owed) leaf
      at (inr h) = begun-right Begins (owed_by tree p claim) owed leaf h
      at (inl h) = begun-left Begins (owed_by tree p claim) owed leaf
          (goes_on p claim leaf (tree.is_open claim) refl holds refutes h)

  pub none_refutes : (claims : List C) (owed : List X) → IsCertified tree owed claims → OwesRefuting Begins Refutes owed
      → (leaf : L) → Refutes leaf → ⊥
  none_refutes [] [] certified owes leaf refutes = owes leaf refutes
  none_refutes [] (p ∷ owed) certified owes leaf refutes = certified
  none_refutes (claim ∷ claims) [] certified owes leaf refutes = certified
  none_refutes (claim ∷ claims) (p ∷ owed) certified owes leaf refutes =
      none_refutes claims (owed_by tree p claim ++ owed) certified.1 (claim_kept p claim owed certified.0 owes) leaf refutes

  pub none_refutes_from : (root : X) (claims : List C) → IsCertifiedFrom tree root claims → ((leaf : L) → Begins root leaf)
      → (leaf : L) → Refutes leaf → ⊥
  none_refutes_from root claims certified begins leaf refutes =
      none_refutes claims (root ∷ []) certified (λ l _. inl (begins l)) leaf refutes
