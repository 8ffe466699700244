-- Where the reading of what a certificate states stands, and what comes next: a potential's line,
-- the line `claims`, or a line that is none of them.
use Rattle.std.specs.Prelude.{◌≡◌, ℕ, ◌+◌, ◌≤◌, Bool, true, false, List, [], ◌++◌, Option, Some, None, Result, Ok, Err, length}
use Rattle.fux_port.specs.Files.{MayHave}
use Rattle.cert_text.specs.declared.answers.CertFault.{CertFault}
use Rattle.cert_text.specs.declared.potential.Potential.{Potential}
use Rattle.cert_text.specs.declared.potentials.TakenPotential.{TakenPotential}
use Rattle.cert_text.specs.Lines.{HasNoFeed}
use Rattle.cert_text.specs.PotentialReading.{PotentialReading, owes_potential}
use Rattle.cert_text.specs.Potentials.{BeginsOwed, IsPotential, last_line, potential_line}
use Rattle.cert_file.specs.declared.fault.ReadFault.{ReadFault}
use Rattle.cert_file.specs.declared.fault.ReadFault.TheVariants.{Unreadable, Text}
use Rattle.cert_file.specs.Readings.{Begins, FaultAtLine, Files, MayBe, Owed, Piece, Stated, longest_piece}

-- what contracts see of a reader: its potentials, the bytes that were read and not used, and how
-- many were read
pub record StatedReading : Type 0 where
  pub entries : PotentialReading
  pub ahead : List ℕ
  pub offset : ℕ

-- a reader that goes on at a byte where the line of the first of so many potentials begins
abbrev pub stated_from : ℕ → ℕ → List ℕ → ℕ → StatedReading
stated_from next count ahead offset = record {
  entries = record { next = next; used = 0; begun = []; count = count; given = 0; done = false; refused = None };
  ahead = ahead;
  offset = offset;
}

-- what each reader keeps
pub record IsStatedReading (piece : Piece) (entries : PotentialReading) : Type 0 where
  pub limit : piece.offset ≤ 1073741824
  pub taken : entries.used + length piece.ahead ≤ piece.offset
  pub short : length piece.ahead ≤ longest_piece

-- a reader stands behind the front of a file: behind it are the bytes of a line that was begun, and
-- those that were read and not used
pub record IsAtStated (files : Files) (name front : List ℕ) (reader : StatedReading) : Type 0 where
  pub begins : MayBe files name (Begins (front ++ (reader.entries.begun ++ reader.ahead)))
  pub next : reader.entries.next ≡ length front + length reader.entries.begun
  pub clear : reader.entries.refused ≡ None
  pub more : reader.entries.done ≡ false
  pub line : BeginsOwed (owes_potential reader.entries) reader.entries.begun
  pub unended : HasNoFeed reader.entries.begun
  pub offset : reader.offset ≡ length front + (length reader.entries.begun + length reader.ahead)

-- it stands behind the line `claims`
pub record IsAtClaims (files : Files) (name front : List ℕ) (reader : StatedReading) : Type 0 where
  pub begins : MayBe files name (Begins (front ++ reader.ahead))
  pub offset : reader.offset ≡ length front + length reader.ahead

-- the line that is owed next
abbrev pub owed_line : StatedReading → Owed
owed_line reader = Stated (owes_potential reader.entries)

-- one potential more was given, or none
pub record HasGiven (before after : StatedReading) (more : ℕ) : Type 0 where
  pub given : after.entries.given ≡ before.entries.given + more
  pub count : after.entries.count ≡ before.entries.count

-- what a reader behind a front gives next: the potential whose line stands there, the line
-- `claims`, or what is wrong
abbrev pub GivesStated : Files → List ℕ → Type 0 → List ℕ → StatedReading → StatedReading
    → Result (Option Potential) ReadFault → Type 0
GivesStated files name rose front before after (Ok (Some potential)) =
    IsPotential potential × (owes_potential before.entries ≡ true)
    × IsAtStated files name (front ++ potential_line potential) after × HasGiven before after 1
GivesStated files name rose front before after (Ok None) =
    (owes_potential before.entries ≡ false) × IsAtClaims files name (front ++ last_line) after
GivesStated files name rose front before after (Err Unreadable) = rose
GivesStated files name rose front before after (Err (Text fault)) =
    MayBe files name (FaultAtLine (owed_line before) front fault)

-- the same, wherever in the file the reader stands
abbrev pub GivesNextStated : Files → List ℕ → Type 0 → StatedReading → StatedReading → Result (Option Potential) ReadFault
    → Type 0
GivesNextStated files name rose before after result =
    (front : List ℕ) → IsAtStated files name front before → GivesStated files name rose front before after result

-- what a reader makes of the piece alone: of a potential's line, of the line `claims`, or of a
-- piece that is used up before a line ends
abbrev pub TakesLines : Files → List ℕ → List ℕ → StatedReading → StatedReading → Option Potential → Bool → Type 0
TakesLines files name front before after (Some potential) done =
    IsPotential potential × (owes_potential before.entries ≡ true)
    × IsAtStated files name (front ++ potential_line potential) after × HasGiven before after 1
TakesLines files name front before after None true =
    (owes_potential before.entries ≡ false) × IsAtClaims files name (front ++ last_line) after
TakesLines files name front before after None false =
    IsAtStated files name front after × (after.ahead ≡ []) × HasGiven before after 0

abbrev pub TakesStated : Files → List ℕ → List ℕ → StatedReading → StatedReading → Result TakenPotential CertFault → Type 0
TakesStated files name front before after (Ok taken) =
    TakesLines files name front before after taken.potential taken.done
TakesStated files name front before after (Err fault) = MayBe files name (FaultAtLine (owed_line before) front fault)

-- what the next piece makes of a reader behind a front, where the last is used up
abbrev pub ReadsStated : Files → List ℕ → Type 0 → List ℕ → StatedReading → StatedReading → Result Bool ReadFault → Type 0
ReadsStated files name rose front before after (Ok true) = IsAtStated files name front after × HasGiven before after 0
ReadsStated files name rose front before after (Ok false) =
    IsAtStated files name front after × HasGiven before after 0 × MayHave files name (front ++ after.entries.begun)
ReadsStated files name rose front before after (Err Unreadable) = rose
ReadsStated files name rose front before after (Err (Text fault)) =
    MayBe files name (FaultAtLine (owed_line before) front fault)

-- the same, wherever in the file a reader stands whose piece is used up
abbrev pub ReadsNextStated : Files → List ℕ → Type 0 → StatedReading → StatedReading → Result Bool ReadFault → Type 0
ReadsNextStated files name rose before after result =
    (front : List ℕ) → IsAtStated files name front before → before.ahead ≡ []
    → ReadsStated files name rose front before after result

-- the end of any file is a fault, where its last line is the one that the reader has begun
abbrev pub EndsStated : StatedReading → CertFault → Type 0
EndsStated reader fault =
    (files : Files) (name front : List ℕ) → IsAtStated files name front reader
    → MayHave files name (front ++ reader.entries.begun) → MayBe files name (FaultAtLine (owed_line reader) front fault)
