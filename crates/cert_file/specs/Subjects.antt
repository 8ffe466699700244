-- What a certificate may be about, whatever stands in front of its claims: the texts of that, which
-- of it is sound, and the tree of whose nodes claims are.
use Rattle.std.specs.Prelude.{◌≡◌, ℕ, ◌≤◌, List, [], ◌∷◌, ◌++◌, length}
use Rattle.std.specs.List.{AllByRecursion, flat_map}
use Rattle.cert_file.specs.Readings.{Files, IsAt, Reading, longest_certificate}
use Rattle.cert_file.specs.declared.verdict.Verdict.{Verdict}
use Rattle.cert_text.specs.declared.answers.Accepted.{Accepted}
use Rattle.cert_text.specs.declared.claim.Claim.{Claim}
use Rattle.cert_text.specs.Lines.{IsClaim, claim_line}
use Rattle.cert_tree.specs.Trees.{IsCertifiedFrom, Tree, owed_by}

-- the texts of a head H, which is all that stands in front of claims, whether it is sound, what a
-- verdict says of bytes that are refused before any claim is judged, the tree of the claims behind
-- a head and the root of that, what the head shows where it is accepted, and whether what it says
-- holds
pub record Subject (H X : Type 0) : Type 1 where
  pub IsHead : H → List ℕ → Type 0
  pub IsSound : H → Type 0
  pub Refuses : Verdict → List ℕ → Type 0
  pub tree : H → Tree X Claim
  pub root : X
  pub accepted : H → Accepted
  pub Holds : H → Type 0

-- the text of a head and of the lines of claims
pub record IsTextOf {H X : Type 0} (subject : Subject H X) (head : H) (claims : List Claim) (bytes : List ℕ) : Type 0
  where
    pub front : List ℕ
    pub heads : subject.IsHead head front
    pub fits : AllByRecursion IsClaim claims
    pub is : bytes ≡ front ++ flat_map claim_line claims

-- the claims are a certificate with this head: it is sound, and they are certified from the root on
pub record IsCertificate {H X : Type 0} (subject : Subject H X) (head : H) (claims : List Claim) : Type 0 where
  pub sound : subject.IsSound head
  pub certified : IsCertifiedFrom (subject.tree head) subject.root claims

-- the text of a valid certificate, no longer than one may be
pub record IsCertificateText {H X : Type 0} (subject : Subject H X) (head : H) (bytes : List ℕ) : Type 0 where
  pub claims : List Claim
  pub text : IsTextOf subject head claims bytes
  pub short : length bytes ≤ longest_certificate
  pub valid : IsCertificate subject head claims

-- each of the claims is true of the node that is owed next, and they leave these owed
abbrev pub Leaves : {X : Type 0} → Tree X Claim → List X → List Claim → List X → Type 0
Leaves tree owed [] left = owed ≡ left
Leaves tree [] (claim ∷ claims) left = ⊥
Leaves tree (p ∷ owed) (claim ∷ claims) left =
    tree.IsTrueOf p claim × Leaves tree (owed_by tree p claim ++ owed) claims left

-- a reader of claims stands behind the head of a file
pub record IsOpened {H : Type 0} (IsHead : H → List ℕ → Type 0) (files : Files) (name : List ℕ) (head : H) (reader : Reading)
    : Type 0 where
  pub front : List ℕ
  pub heads : IsHead head front
  pub at : IsAt files name front reader
