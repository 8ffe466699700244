-- What the bytes of a certificate's file are found to be: the text of a valid certificate, or the
-- first thing that is wrong with them.
use Rattle.std.specs.Prelude.{◌≡◌, ℕ, ◌+◌, ◌≤◌, ◌⊎◌, List, [], ◌∷◌, ◌++◌, length}
use Rattle.std.specs.Io.{StartsWith}
use Rattle.cert_file.specs.Readings.{FaultAt, Files, MayBe, judged_bytes, longest_certificate}
use Rattle.cert_file.specs.declared.verdict.Verdict.{Verdict}
use Rattle.cert_file.specs.declared.verdict.Verdict.TheVariants as verdict
use Rattle.cert_text.specs.declared.answers.Accepted.{Accepted}
use Rattle.cert_text.specs.declared.answers.CertFault.{CertFault}
use Rattle.cert_text.specs.declared.answers.Why.{Why}
use Rattle.cert_text.specs.declared.answers.Why.TheVariants.{Head, False, Over, Short, Potential, Price}
use Rattle.cert_text.specs.declared.claim.Claim.{Claim}
use Rattle.cert_text.specs.Lines.{IsClaim, claim_line}
use Rattle.fux_port.specs.Files.{HasFile}
use Rattle.cert_file.specs.Subjects.{IsCertificateText, IsTextOf, Leaves, Subject}

-- the bytes are the text of the head, which is sound, and of so many claims, each true, that leave
-- these nodes owed
pub record IsTaken {H X : Type 0} (subject : Subject H X) (head : H) (count : ℕ) (owed : List X) (bytes : List ℕ) : Type 0
  where
    pub sound : subject.IsSound head
    pub claims : List Claim
    pub counted : length claims ≡ count
    pub text : IsTextOf subject head claims bytes
    pub left : Leaves (subject.tree head) (subject.root ∷ []) claims owed

-- behind claims that are taken stands one that is false of the node that is owed next
pub record HasFalse {H X : Type 0} (subject : Subject H X) (head : H) (number : ℕ) (bytes : List ℕ) : Type 0 where
  pub count : ℕ
  pub numbered : number ≡ count + 1
  pub next : X
  pub owed : List X
  pub front : List ℕ
  pub taken : IsTaken subject head count (next ∷ owed) front
  pub claim : Claim
  pub fits : IsClaim claim
  pub begins : StartsWith (judged_bytes bytes) (front ++ claim_line claim)
  pub untrue : (subject.tree head).IsTrueOf next claim → ⊥

-- behind claims that leave nothing owed stands one more
pub record HasOver {H X : Type 0} (subject : Subject H X) (head : H) (number : ℕ) (bytes : List ℕ) : Type 0 where
  pub count : ℕ
  pub numbered : number ≡ count + 1
  pub front : List ℕ
  pub taken : IsTaken subject head count [] front
  pub claim : Claim
  pub fits : IsClaim claim
  pub begins : StartsWith (judged_bytes bytes) (front ++ claim_line claim)

-- claims that are taken leave one owed, and there is no more
pub record IsShort {H X : Type 0} (subject : Subject H X) (head : H) (number : ℕ) (bytes : List ℕ) : Type 0 where
  pub count : ℕ
  pub numbered : number ≡ count + 1
  pub next : X
  pub owed : List X
  pub taken : IsTaken subject head count (next ∷ owed) bytes
  pub short : length bytes ≤ longest_certificate

-- behind claims that are taken stands a line that is none
pub record HasFault {H X : Type 0} (subject : Subject H X) (head : H) (fault : CertFault) (bytes : List ℕ) : Type 0 where
  pub count : ℕ
  pub owed : List X
  pub front : List ℕ
  pub taken : IsTaken subject head count owed front
  pub fault_at : FaultAt front fault bytes

-- why a claim is refused; the head and what is stated with it aren't claims
abbrev pub RefusesFor : {H X : Type 0} → Subject H X → H → ℕ → Why → List ℕ → Type 0
RefusesFor subject head number Head bytes = ⊥
RefusesFor subject head number False bytes = HasFalse subject head number bytes
RefusesFor subject head number Over bytes = HasOver subject head number bytes
RefusesFor subject head number Short bytes = IsShort subject head number bytes
RefusesFor subject head number Potential bytes = ⊥
RefusesFor subject head number Price bytes = ⊥

-- what a verdict says of bytes with a sound head
abbrev pub FindsIn : {H X : Type 0} → Subject H X → H → Verdict → List ℕ → Type 0
FindsIn subject head (verdict.Accepted answer) bytes =
    (answer ≡ subject.accepted head) × IsCertificateText subject head bytes
FindsIn subject head (verdict.Claim refused) bytes = RefusesFor subject head refused.number refused.why bytes
FindsIn subject head (verdict.Text fault) bytes = HasFault subject head fault bytes

-- what it says of the file of a name
abbrev pub Finds : {H X : Type 0} → Subject H X → H → Files → List ℕ → Verdict → Type 0
Finds subject head files name it = MayBe files name (FindsIn subject head it)

-- a verdict that accepts shows that what the head says holds
abbrev pub Shows : {H X : Type 0} → Subject H X → H → Verdict → Type 0
Shows subject head it = (answer : Accepted) → it ≡ verdict.Accepted answer → subject.Holds head

-- what a verdict says of bytes by the head at their front; and that this head holds, where they are
-- accepted
pub record FindsBehind {H X : Type 0} (subject : Subject H X) (it : Verdict) (bytes : List ℕ) : Type 0 where
  pub head : H
  pub finds : FindsIn subject head it bytes
  pub shown : Shows subject head it

-- what a verdict says of bytes: why they are refused before any claim is judged, or what is found
-- behind a head
abbrev pub IsVerdictBy : {H X : Type 0} → Subject H X → Verdict → List ℕ → Type 0
IsVerdictBy subject it bytes = subject.Refuses it bytes ⊎ FindsBehind subject it bytes

-- a verdict accepts the file with a head, where it is the text of a valid certificate
abbrev pub AcceptsValid : {H X : Type 0} → Subject H X → H → Files → List ℕ → Verdict → Type 0
AcceptsValid subject head files name it =
    (bytes : List ℕ) → HasFile files name bytes → IsCertificateText subject head bytes
    → it ≡ verdict.Accepted (subject.accepted head)
