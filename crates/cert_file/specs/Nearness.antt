-- How much is read of a file that a verdict refuses: no more than a piece beyond the line by which
-- it is refused.
use Rattle.std.specs.Prelude.{◌≡◌, ◌⊎◌, ℕ, ◌+◌, ◌≤◌, ⊤, List, length, drop}
use Rattle.std.specs.Io.{StartsWith}
use Rattle.cert_file.specs.Readings.{Files, IsAt, MayBe, Reading, longest_piece}
use Rattle.cert_file.specs.StatedReadings.{IsAtStated, StatedReading}
use Rattle.cert_file.specs.Subjects.{IsTextOf, Subject}
use Rattle.cert_file.specs.declared.verdict.Verdict.{Verdict}
use Rattle.cert_file.specs.declared.verdict.Verdict.TheVariants as verdict
use Rattle.cert_text.specs.declared.answers.CertFault.TheVariants.{CertHead, CertWord, CertEnd, Memory}
use Rattle.cert_text.specs.declared.answers.Why.{Why}
use Rattle.cert_text.specs.declared.answers.Why.TheVariants.{Head, False, Over, Short, Potential, Price}
use Rattle.cert_text.specs.declared.claim.Claim.{Claim}
use Rattle.cert_text.specs.Lines.{line_part}

-- where the line ends that begins at a byte
abbrev pub line_end : ℕ → List ℕ → ℕ
line_end at bytes = at + length (line_part (drop at bytes))

-- so many bytes of the file of a name end no more than a piece beyond the line that begins at a byte
abbrev pub EndsNear : Files → List ℕ → ℕ → ℕ → Type 0
EndsNear files name at read = MayBe files name (λ bytes. read ≤ line_end at bytes + longest_piece)

-- a reader that stands behind a front has read no more than a piece beyond the line behind that
abbrev pub StandsNear : Files → List ℕ → Reading → ℕ → Type 0
StandsNear files name before offset =
    (front : List ℕ) → IsAt files name front before → EndsNear files name (length front) offset

-- the same of a reader of what is stated
abbrev pub StandsNearStated : Files → List ℕ → StatedReading → ℕ → Type 0
StandsNearStated files name before offset =
    (front : List ℕ) → IsAtStated files name front before → EndsNear files name (length front) offset

-- bytes begin with the text of the head and of so many claims, and no more than a piece was read
-- beyond that
pub record IsReadToClaim {H X : Type 0} (subject : Subject H X) (head : H) (number read : ℕ) (bytes : List ℕ) : Type 0
  where
    pub front : List ℕ
    pub claims : List Claim
    pub counted : length claims ≡ number
    pub text : IsTextOf subject head claims front
    pub begins : StartsWith bytes front
    pub near : read ≤ length front + longest_piece

-- how much is read where a claim is refused, a head, or a number or a price that is stated: numbers are
-- judged when all of them are read, and prices stand in the first piece. A claim that is wanting takes
-- the whole file
abbrev pub IsReadFor : {H X : Type 0} → Subject H X → H → ℕ → ℕ → Why → List ℕ → Type 0
IsReadFor subject head read number False bytes = IsReadToClaim subject head number read bytes
IsReadFor subject head read number Over bytes = IsReadToClaim subject head number read bytes
IsReadFor subject head read number Potential bytes = IsReadToClaim subject head 0 read bytes
IsReadFor subject head read number Short bytes = ⊤
IsReadFor subject head read number Head bytes = read ≤ longest_piece
IsReadFor subject head read number Price bytes = read ≤ longest_piece

-- how much is read where this is the verdict: no more than a piece where no head stands at the front,
-- or beyond a line that is wrong. A file that is accepted, or ends where it may not, is read to its
-- end
abbrev pub IsReadTo : {H X : Type 0} → Subject H X → H → ℕ → Verdict → List ℕ → Type 0
IsReadTo subject head read (verdict.Claim refused) bytes =
    IsReadFor subject head read refused.number refused.why bytes
IsReadTo subject head read (verdict.Text (CertWord at)) bytes = read ≤ line_end at bytes + longest_piece
IsReadTo subject head read (verdict.Text (CertHead at)) bytes = read ≤ longest_piece
IsReadTo subject head read (verdict.Text (CertEnd at)) bytes = ⊤
IsReadTo subject head read (verdict.Text Memory) bytes = ⊤
IsReadTo subject head read (verdict.Accepted answer) bytes = ⊤

-- a shelf that had given so many bytes gave this many, and what it gave since ends so
pub record ReadsNear {H X : Type 0} (subject : Subject H X) (head : H) (files : Files) (name : List ℕ) (before given : ℕ)
    (it : Verdict) : Type 0 where
  pub read : ℕ
  pub few : given ≤ before + read
  pub near : MayBe files name (IsReadTo subject head read it)

-- the same of a file, whatever its head is: before claims are judged, no more than a piece is read,
-- or what is stated
abbrev pub IsReadNear : {H X : Type 0} → Subject H X → Files → List ℕ → ℕ → ℕ → Verdict → Type 0
IsReadNear {H = H} subject files name before given it =
    (given ≤ before + longest_piece) ⊎ ((head : H) × ReadsNear subject head files name before given it)
