-- Where bytes stop being the text of a head.
use Rattle.std.specs.Prelude.{◌≡◌, ◌⊎◌, ℕ, ◌≤◌, ⊤, None, Some, List, ◌++◌, Option, Result, MatchResult, length, take}
use Rattle.fux_grid.specs.declared.exercise.Exercise.{Exercise}
use Rattle.fux_text.specs.Texts.{AreSingLinesOf}
use Rattle.cert_text.specs.declared.answers.CertHead.{CertHead}
use Rattle.cert_text.specs.declared.answers.CertHead.TheVariants.{Best, Nothing}
use Rattle.cert_text.specs.declared.answers.CertFault.{CertFault}
use Rattle.cert_text.specs.declared.answers.CertFault.TheVariants as faults
use Rattle.cert_text.specs.declared.answers.Form.{Form}
use Rattle.cert_text.specs.declared.answers.Form.TheVariants.{First}
use Rattle.cert_text.specs.HeadRows.{IsUpTo}
use Rattle.cert_text.specs.SingItems.{IsHeadText, best_text}

-- a head of a form up to this one goes on by these bytes: they are the front of one's text
pub record BeginsText (ex : Exercise) (last : Form) (front : List ℕ) : Type 0 where
  pub form : Form
  pub among : IsUpTo last form
  pub penalty : Option ℕ
  pub rest : List ℕ
  pub whole : IsHeadText ex form (front ++ rest) penalty

-- no such head stands at the front of the bytes, and so many of them are the longest front by which
-- one goes on
pub record TextStops (ex : Exercise) (last : Form) (bytes : List ℕ) (at : ℕ) : Type 0 where
  pub within : at ≤ length bytes
  pub begins : BeginsText ex last (take at bytes)
  pub longest : (n : ℕ) → n ≤ length bytes → BeginsText ex last (take n bytes) → n ≤ at
  pub unfinished : (form : Form) → IsUpTo last form → (n : ℕ) (penalty : Option ℕ) → n ≤ length bytes
      → IsHeadText ex form (take n bytes) penalty → ⊥

-- the penalty of a head
abbrev pub penalty_of : CertHead → Option ℕ
penalty_of (Best penalty score) = Some penalty
penalty_of Nothing = None

-- its lines are those of its setting
abbrev pub HasLines : Exercise → Form → List ℕ → CertHead → Type 0
HasLines ex form bytes (Best penalty score) =
    (lines : List ℕ) × (bytes ≡ best_text form penalty lines) × AreSingLinesOf ex lines score
HasLines ex form bytes Nothing = ⊤

-- a head of a form stands at the front of the bytes, and has so many of them
pub record Heads (ex : Exercise) (form : Form) (bytes : List ℕ) (head : CertHead) (used : ℕ) : Type 0 where
  pub within : used ≤ length bytes
  pub text : IsHeadText ex form (take used bytes) (penalty_of head)
  pub setting : HasLines ex form (take used bytes) head

-- a head's fault: memory ran out, or no head of a form up to this one goes on where it says
abbrev pub IsHeadFault : Exercise → Form → List ℕ → CertFault → Type 0
IsHeadFault ex last bytes fault =
    (fault ≡ faults.Memory) ⊎ ((at : ℕ) × (fault ≡ faults.CertHead at) × TextStops ex last bytes at)

-- there is an answer of which this holds, unless memory runs out
abbrev pub UnlessMemory : {A : Type 0} → Result A CertFault → (A → Type 0) → Type 0
UnlessMemory result Holds = MatchResult result Holds (λ fault. fault ≡ faults.Memory)

-- a text of such a head at the front of the bytes is answered by its form, its penalty and its
-- length, unless memory runs out
abbrev pub AnswersTexts : Exercise → Form → List ℕ → Result (Form × CertHead × ℕ) CertFault → Type 0
AnswersTexts ex last bytes result =
    (form : Form) → IsUpTo last form → (n : ℕ) (penalty : Option ℕ) → n ≤ length bytes
    → IsHeadText ex form (take n bytes) penalty
    → UnlessMemory result (λ found. (found.0 ≡ form) × (penalty_of found.1 ≡ penalty) × (found.2 ≡ n))

-- the same of the first form alone
abbrev pub AnswersFirstTexts : Exercise → List ℕ → Result (CertHead × ℕ) CertFault → Type 0
AnswersFirstTexts ex bytes result =
    (n : ℕ) (penalty : Option ℕ) → n ≤ length bytes → IsHeadText ex First (take n bytes) penalty
    → UnlessMemory result (λ found. (penalty_of found.0 ≡ penalty) × (found.1 ≡ n))
