-- What stands at the front of a certificate's file: its head, and what it states.
use Rattle.std.specs.Prelude.{◌≡◌, ◌≤◌, ℕ, ◌⊎◌, ◌++◌, List, Some, Result, Ok, Err, length, take}
use Rattle.std.specs.List.{AllByRecursion, flat_map}
use Rattle.fux_grid.specs.declared.exercise.Exercise.{Exercise}
use Rattle.fux_port.specs.Files.{IsMissing}
use Rattle.cert_law.specs.Entries.{entry_count}
use Rattle.cert_text.specs.declared.answers.CertFault.TheVariants as fault
use Rattle.cert_text.specs.declared.answers.CertHead.{CertHead}
use Rattle.cert_text.specs.declared.answers.Form.{Form}
use Rattle.cert_text.specs.declared.answers.Form.TheVariants.{Second, Third}
use Rattle.cert_text.specs.declared.potential.Potential.{Potential}
use Rattle.cert_text.specs.HeadTexts.{Heads, TextStops}
use Rattle.cert_text.specs.Potentials.{IsPotential, potential_line}
use Rattle.cert_file.specs.declared.fault.ReadFault.{ReadFault}
use Rattle.cert_file.specs.declared.fault.ReadFault.TheVariants.{Unreadable, Text}
use Rattle.cert_file.specs.Readings.{Files, IsPlaced, MayBe, Piece, longest_piece}
use Rattle.cert_file.specs.StatedReadings.{IsAtClaims, IsAtStated, StatedReading}
use Rattle.cert_check.specs.Settings.{IsOpeningOf, Numbers}

-- the head of a form was used of a file, of which its first piece was read
pub record IsStarted (ex : Exercise) (files : Files) (name : List ℕ) (form : Form) (head : CertHead) (piece : Piece) : Type
    0 where
  pub front : List ℕ
  pub heads : Heads ex form front head (length front)
  pub at : IsPlaced files name front piece
  pub first : MayBe files name (λ bytes. take longest_piece bytes ≡ front ++ piece.ahead)

-- how the reading of a file starts: behind its head; or where a head stops, or a read failed
abbrev pub Starts : Exercise → Files → List ℕ → Type 0 → Result (Form × CertHead × Piece) ReadFault → Type 0
Starts ex files name rose (Ok found) = IsStarted ex files name found.0 found.1 found.2
Starts ex files name rose (Err Unreadable) = rose ⊎ IsMissing files name
Starts ex files name rose (Err (Text (fault.CertHead at))) = MayBe files name (λ bytes. TextStops ex Third bytes at)
Starts ex files name rose (Err (Text fault.Memory)) = Unit {0}
Starts ex files name rose (Err (Text fault)) = ⊥

-- nothing was read: there is no file, or there was not enough memory
abbrev pub IsUnread : Result (Form × CertHead × Piece) ReadFault → Type 0
IsUnread result = (result ≡ Err Unreadable) ⊎ (result ≡ Err (Text fault.Memory))

-- a reader of what is stated stands behind the head of a file and these entries
pub record IsEntered (ex : Exercise) (files : Files) (name : List ℕ) (head : CertHead) (entries : List Potential)
    (reader : StatedReading) : Type 0 where
  pub front : List ℕ
  pub heads : Heads ex Second front head (length front)
  pub fits : AllByRecursion IsPotential entries
  pub at : IsAtStated files name (front ++ flat_map potential_line entries) reader
  pub given : reader.entries.given ≡ length entries
  pub count : reader.entries.count ≡ entry_count ex
  pub few : length entries ≤ entry_count ex

-- it stands behind the line `claims`
pub record IsStatedWhole (ex : Exercise) (files : Files) (name : List ℕ) (head : CertHead) (entries : List Potential)
    (reader : StatedReading) : Type 0 where
  pub opening : List ℕ
  pub opens : IsOpeningOf ex head (Numbers (Some entries)) opening
  pub at : IsAtClaims files name opening reader
