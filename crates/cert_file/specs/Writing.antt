-- What is still to be written of the claims of a tree.
use Rattle.std.specs.Prelude.{ℕ, List, ◌++◌}
use Rattle.std.specs.List.{flat_map}
use Rattle.cert_text.specs.Lines.{IsClaim, claim_line}
use Rattle.cert_text.specs.declared.claim.Claim.{Claim}
use Rattle.cert_tree.specs.Trees.{Tree, claims_from}
use Rattle.cert_tree.specs.Walks.{IsWalk, Ways}
use Rattle.cert_tree.specs.Writing.{AreTold, claims_to_come}
use Rattle.cert_tree.specs.declared.walk.Walk.{Walk}

-- each node's own claim has a line
abbrev pub HaveLines : {X : Type 0} → (X → Claim) → Type 0
HaveLines own = (p : _) → IsClaim (own p)

-- a walk at which a writer stands: each claim that is to come is true
pub record IsWriting {X K : Type 0} (tree : Tree X Claim) (IsOf : K → X → Type 0) (ways : Ways X) (own : X → Claim)
    (walk : Walk K) : Type 0
  where
    pub is : IsWalk tree IsOf ways walk
    pub told : AreTold tree own ways walk

-- the lines of claims
abbrev pub claim_lines : List Claim → List ℕ
claim_lines claims = flat_map claim_line claims

-- the lines of those that are still to come
abbrev pub lines_left : {X K : Type 0} → Tree X Claim → Ways X → (X → Claim) → Walk K → List ℕ
lines_left tree ways own walk = claim_lines (claims_to_come tree own ways walk)

-- the lines of the claims of a root and of all that it owes
abbrev pub lines_from : {X : Type 0} → Tree X Claim → Ways X → (X → Claim) → X → List ℕ
lines_from tree ways own root = claim_lines (claims_from tree own ways.height root)

-- a text, and behind it these
abbrev pub text_with : {X : Type 0} → Tree X Claim → Ways X → (X → Claim) → X → List ℕ → List ℕ
text_with tree ways own root text = text ++ lines_from tree ways own root
