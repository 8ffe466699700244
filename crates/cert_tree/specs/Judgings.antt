-- Claims that are judged one after the other.
use Rattle.std.specs.Prelude.{◌≡◌, ◌⊎◌, ℕ, ◌+◌, List, [], ◌∷◌, ◌++◌, Option, Some, None}
use Rattle.cert_tree.specs.Trees.{IsCertifiedFrom, OwesRefuting, Tree, owed_by}
use Rattle.cert_tree.specs.Walks.{IsWalk, Ways, owed_by_walk}
use Rattle.cert_tree.specs.declared.judging.Judging.{Judging}
use Rattle.cert_tree.specs.declared.judging.Refusal.{Refusal}
use Rattle.cert_tree.specs.declared.judging.Cause.TheVariants.{False, Over}

-- the nodes that are owed, the next one first, how many claims were taken, and the refusal that is
-- kept
pub record Standing (X : Type 0) : Type 0 where
  pub owed : List X
  pub count : ℕ
  pub refusal : Option Refusal

abbrev pub standing_of : {X K : Type 0} → Ways X → Judging K → Standing X
standing_of ways judging =
    record { owed = owed_by_walk ways judging.walk; count = judging.taken; refusal = judging.refusal }

-- the root alone is owed, no claim was taken, and none was refused
abbrev pub begun_at : {X : Type 0} → X → Standing X
begun_at root = record { owed = root ∷ []; count = 0; refusal = None }

-- a claim is taken: it is true of the first node that is owed, and what it owes stands in the place
-- of that
abbrev pub TakesOf : {X C : Type 0} → Tree X C → Standing X → List X → C → Standing X → Type 0
TakesOf tree old [] claim new = ⊥
TakesOf tree old (p ∷ owed) claim new =
    tree.IsTrueOf p claim
    × (new ≡ record old { owed = owed_by tree p claim ++ owed; count = old.count + 1 })

abbrev pub Takes : {X C : Type 0} → Tree X C → Standing X → C → Standing X → Type 0
Takes tree old claim new = TakesOf tree old old.owed claim new

-- why a claim is refused: it is false of the first node that is owed, or none is owed
abbrev pub IsFault : {X C : Type 0} → Tree X C → Standing X → List X → C → Refusal → Type 0
IsFault tree old [] claim refused = refused ≡ record { number = old.count + 1; cause = Over }
IsFault tree old (p ∷ owed) claim refused =
    (tree.IsTrueOf p claim → ⊥) × (refused ≡ record { number = old.count + 1; cause = False })

abbrev pub Refuses : {X C : Type 0} → Tree X C → Standing X → C → Refusal → Standing X → Type 0
Refuses tree old claim refused new =
    IsFault tree old old.owed claim refused × (new ≡ record old { refusal = Some refused })

-- what is kept as claims are judged: as long as none was refused, each leaf that refutes is begun
-- by a node that is owed
pub record IsKept {X C L K : Type 0} (tree : Tree X C) (IsOf : K → X → Type 0) (ways : Ways X) (Begins : X → L → Type 0)
    (Refutes : L → Type 0) (judging : Judging K) : Type 0 where
  pub walk : IsWalk tree IsOf ways judging.walk
  pub owes : judging.refusal ≡ None → OwesRefuting Begins Refutes (owed_by_walk ways judging.walk)

-- ---- runs

-- a claim is taken or refused; after a refusal nothing changes
pub record IsFed {X C : Type 0} (tree : Tree X C) (old : Standing X) (claim : C) (new : Standing X) : Type 0 where
  pub judged : old.refusal ≡ None
      → Takes tree old claim new ⊎ ((refused : Refusal) × Refuses tree old claim refused new)
  pub again : (refused : Refusal) → old.refusal ≡ Some refused → new ≡ old

-- the same of claims in their order
abbrev pub AreFed : {X C : Type 0} → Tree X C → Standing X → List C → Standing X → Type 0
AreFed tree old [] new = new ≡ old
AreFed tree old (claim ∷ claims) new = (next : _) × IsFed tree old claim next × AreFed tree next claims new

-- where all claims since the root alone was owed were judged: they are certified from the root on
abbrev pub IsFedCertified : {X C : Type 0} → Tree X C → X → Standing X → Type 0
IsFedCertified tree root now = (claims : List _) → AreFed tree (begun_at root) claims now
    → IsCertifiedFrom tree root claims

-- they are not
abbrev pub IsFedNone : {X C : Type 0} → Tree X C → X → Standing X → Type 0
IsFedNone tree root now = (claims : List _) → AreFed tree (begun_at root) claims now
    → IsCertifiedFrom tree root claims → ⊥
