-- What contracts see of a checker, what it answers, and claims that are fed to it one after the
-- other.
use Rattle.std.specs.Prelude.{◌≡◌, ◌⊎◌, ℕ, ◌+◌, List, [], ◌∷◌, ◌++◌, Option, Some, None}
use Rattle.cert_text.specs.declared.answers.Refused.{Refused}
use Rattle.cert_text.specs.declared.answers.Why.{Why}
use Rattle.cert_text.specs.declared.answers.Why.TheVariants.{False, Over, Short}
use Rattle.cert_text.specs.declared.claim.Claim.{Claim}
use Rattle.cert_tree.specs.Trees.{owed_by}
use Rattle.cert_tree.specs.declared.judging.Cause.{Cause}
use Rattle.cert_tree.specs.declared.judging.Cause.TheVariants as cause
use Rattle.cert_tree.specs.declared.judging.Refusal.{Refusal}
use Rattle.cert_file.specs.Subjects.{IsCertificate, Subject}

-- what is asked, what stands in front of the claims, the nodes that are owed, the next one first,
-- how many claims were taken, and the refusal that is kept
pub record Checking (P H X : Type 0) : Type 0 where
  pub asked : P
  pub head : H
  pub owed : List X
  pub count : ℕ
  pub refusal : Option Refused

-- a refusal, as it is answered
abbrev pub why_of : Cause → Why
why_of cause.False = False
why_of cause.Over = Over
why_of cause.Short = Short

abbrev pub refused_by : Refusal → Refused
refused_by refusal = record { number = refusal.number; why = why_of refusal.cause }

-- this node alone is owed, no claim was taken, and none was refused
abbrev pub opened_at : {P H X : Type 0} → P → H → X → Checking P H X
opened_at asked head root = record { asked = asked; head = head; owed = root ∷ []; count = 0; refusal = None }

-- a claim is taken: it is true of the first node that is owed, and what it owes stands in the place
-- of that
abbrev pub TakesOf : {P H X : Type 0} → Subject H X → Checking P H X → List X → Claim → Checking P H X → Type 0
TakesOf subject old [] claim new = ⊥
TakesOf subject old (p ∷ owed) claim new =
    (subject.tree old.head).IsTrueOf p claim
    × (new ≡ record old { owed = owed_by (subject.tree old.head) p claim ++ owed; count = old.count + 1 })

abbrev pub Takes : {P H X : Type 0} → Subject H X → Checking P H X → Claim → Checking P H X → Type 0
Takes subject old claim new = TakesOf subject old old.owed claim new

-- why a claim is refused: it is false of the first node that is owed, or none is owed
abbrev pub IsFault : {P H X : Type 0} → Subject H X → Checking P H X → List X → Claim → Refused → Type 0
IsFault subject old [] claim refused = refused ≡ record { number = old.count + 1; why = Over }
IsFault subject old (p ∷ owed) claim refused =
    ((subject.tree old.head).IsTrueOf p claim → ⊥) × (refused ≡ record { number = old.count + 1; why = False })

abbrev pub Refuses : {P H X : Type 0} → Subject H X → Checking P H X → Claim → Refused → Checking P H X → Type 0
Refuses subject old claim refused new =
    IsFault subject old old.owed claim refused × (new ≡ record old { refusal = Some refused })

-- ---- claims that are fed one after the other

-- a claim is taken or refused; after a refusal nothing changes
pub record IsFed {P H X : Type 0} (subject : Subject H X) (old : Checking P H X) (claim : Claim) (new : Checking P H X) : Type 0
  where
    pub judged : old.refusal ≡ None
        → Takes subject old claim new ⊎ ((refused : Refused) × Refuses subject old claim refused new)
    pub again : (refused : Refused) → old.refusal ≡ Some refused → new ≡ old

-- the same of claims in their order
abbrev pub AreFed : {P H X : Type 0} → Subject H X → Checking P H X → List Claim → Checking P H X → Type 0
AreFed subject old [] new = new ≡ old
AreFed subject old (claim ∷ claims) new =
    (next : Checking _ _ _) × IsFed subject old claim next × AreFed subject next claims new

-- where all claims since a checker was opened were fed to it: they are a certificate with its head
abbrev pub IsFedCertificate : {P H X : Type 0} → Subject H X → Checking P H X → Type 0
IsFedCertificate subject c =
    (claims : List Claim) → AreFed subject (opened_at c.asked c.head subject.root) claims c
    → IsCertificate subject c.head claims

-- they are none
abbrev pub IsFedNone : {P H X : Type 0} → Subject H X → Checking P H X → Type 0
IsFedNone subject c =
    (claims : List Claim) → AreFed subject (opened_at c.asked c.head subject.root) claims c
    → IsCertificate subject c.head claims → ⊥
