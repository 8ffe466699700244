-- Where the reading of a certificate's file stands, and what comes next: a claim's line, the file's
-- end, or a line that is none.
use Rattle.std.specs.Prelude.{◌≡◌, ◌≢◌, ℕ, ◌+◌, ◌-◌, ◌<◌, ◌≤◌, ◌⊎◌, Bool, true, false, ⊤, List, [], ◌++◌, Option, Some, None, Result, Ok, Err, length, take}
use Rattle.std.specs.Io.{StartsWith}
use Rattle.fux_port.specs.Files.{HasFile, MayHave}
use Rattle.cert_text.specs.declared.answers.CertFault.{CertFault}
use Rattle.cert_text.specs.declared.answers.CertFault.TheVariants.{CertHead, CertWord, CertEnd, Memory}
use Rattle.cert_text.specs.declared.claim.Claim.{Claim}
use Rattle.cert_text.specs.Lines.{BeginsClaim, HasNoFeed, IsClaim, claim_line, line_part}
use Rattle.cert_text.specs.Potentials.{BeginsOwed}
use Rattle.cert_text.specs.Reading as text
use Rattle.cert_file.specs.declared.fault.ReadFault.{ReadFault}
use Rattle.cert_file.specs.declared.fault.ReadFault.TheVariants.{Unreadable, Text}

-- what contracts see of a reader: its claims, the bytes that were read and not used, and how many
-- were read
pub record Reading : Type 0 where
  pub claims : text.Reading
  pub ahead : List ℕ
  pub offset : ℕ

-- a reader that goes on at a byte where a line begins, with these bytes read and not used
abbrev pub reading_from : ℕ → List ℕ → ℕ → Reading
reading_from next ahead offset = record {
  claims = record { next = next; used = 0; begun = []; refused = None };
  ahead = ahead;
  offset = offset;
}

-- how many bytes a piece has at most
abbrev pub longest_piece : ℕ
longest_piece = 65536

-- what contracts see of the pieces of a file: the bytes of the last one that weren't used, and how
-- many bytes were read
pub record Piece : Type 0 where
  pub ahead : List ℕ
  pub offset : ℕ

-- what the pieces keep
pub record IsPiece (piece : List ℕ) (from to offset : ℕ) : Type 0 where
  pub long : length piece ≡ longest_piece
  pub used : from ≤ to
  pub within : to ≤ longest_piece
  pub read : to - from ≤ offset
  pub limit : offset ≤ 1073741824

-- what each reader keeps
pub record IsReading (piece : Piece) (claims : text.Reading) : Type 0 where
  pub limit : piece.offset ≤ 1073741824
  pub taken : claims.used + length piece.ahead ≤ piece.offset
  pub short : length piece.ahead ≤ longest_piece

-- the files that a shelf tells, if it does
abbrev pub Files : Type 0
Files = Option (List ℕ → Option (List ℕ))

-- the file of a name may have such bytes: it has them, where the shelf tells its files
pub record MayBe (files : Files) (name : List ℕ) (Such : List ℕ → Type 0) : Type 0 where
  pub bytes : List ℕ
  pub had : MayHave files name bytes
  pub such : Such bytes

-- a fact of the file of a name, where the shelf tells of one
abbrev pub IfThere : Files → List ℕ → (List ℕ → Type 0) → Type 0
IfThere files name Such = (file : List ℕ) → HasFile files name file → Such file

-- bytes begin with these
abbrev pub Begins : List ℕ → List ℕ → Type 0
Begins front bytes = StartsWith bytes front

-- a reader stands behind the front of a file: behind it are the bytes of a line that was begun, and
-- those that were read and not used
pub record IsAt (files : Files) (name front : List ℕ) (reader : Reading) : Type 0 where
  pub begins : MayBe files name (Begins (front ++ (reader.claims.begun ++ reader.ahead)))
  pub next : reader.claims.next ≡ length front + length reader.claims.begun
  pub clear : reader.claims.refused ≡ None
  pub line : BeginsClaim reader.claims.begun
  pub unended : HasNoFeed reader.claims.begun
  pub offset : reader.offset ≡ length front + (length reader.claims.begun + length reader.ahead)

-- how many bytes a certificate has at most
abbrev pub longest_certificate : ℕ
longest_certificate = 1073741824

-- the bytes of a file that are judged: the first ones, as many as a certificate may have
abbrev pub judged_bytes : List ℕ → List ℕ
judged_bytes bytes = take longest_certificate bytes

-- the line that is owed next: a claim's, if the file goes on; or one of what is stated, where a
-- potential's line is owed or the line `claims`
pub data Owed : Type 0 where
  AClaim : Owed
  Stated : Bool → Owed

-- bytes begin such a line
abbrev pub BeginsLine : Owed → List ℕ → Type 0
BeginsLine AClaim bytes = BeginsClaim bytes
BeginsLine (Stated is_potential) bytes = BeginsOwed is_potential bytes

-- a file that ends with these bytes wants the end of the line, or all of it; no claim is wanting
-- where a file ends behind a line
abbrev pub IsWanting : Owed → List ℕ → Type 0
IsWanting AClaim rest = rest ≢ []
IsWanting (Stated is_potential) rest = ⊤

-- the line at the front of these bytes begins none that is owed
abbrev pub IsWrongLine : Owed → List ℕ → Type 0
IsWrongLine owed rest = BeginsLine owed (line_part rest) → ⊥

-- these bytes begin a line that is owed, if there are any, and don't end it
pub record IsUnendedLine (owed : Owed) (rest : List ℕ) : Type 0 where
  pub begins : BeginsLine owed rest
  pub unended : HasNoFeed rest

-- behind a front stands a line that isn't owed
pub record HasWrong (owed : Owed) (front bytes : List ℕ) : Type 0 where
  pub rest : List ℕ
  pub is : judged_bytes bytes ≡ front ++ rest
  pub wrong : IsWrongLine owed rest

-- the file ends within a line that is owed, which begins behind a front
pub record EndsWithin (owed : Owed) (front bytes : List ℕ) : Type 0 where
  pub short : length bytes ≤ longest_certificate
  pub rest : List ℕ
  pub is : bytes ≡ front ++ rest
  pub some : IsWanting owed rest
  pub begun : IsUnendedLine owed rest

-- the file goes on behind the last byte that is judged, and up to there no line behind a front is
-- ended or wrong
pub record GoesBeyond (owed : Owed) (front bytes : List ℕ) : Type 0 where
  pub long : longest_certificate < length bytes
  pub rest : List ℕ
  pub is : judged_bytes bytes ≡ front ++ rest
  pub begun : IsUnendedLine owed rest

-- what is wrong with the bytes behind a front, where such a line is owed, at a byte
abbrev pub FaultAtLine : Owed → List ℕ → CertFault → List ℕ → Type 0
FaultAtLine owed front (CertWord at) bytes = (at ≡ length front) × HasWrong owed front bytes
FaultAtLine owed front (CertEnd at) bytes =
    ((at ≡ length front) × EndsWithin owed front bytes) ⊎ ((at ≡ longest_certificate) × GoesBeyond owed front bytes)
FaultAtLine owed front (CertHead at) bytes = ⊥
FaultAtLine owed front Memory bytes = ⊥

-- the same where claims are read
abbrev pub IsWrong : List ℕ → Type 0
IsWrong rest = IsWrongLine AClaim rest

abbrev pub IsUnended : List ℕ → Type 0
IsUnended rest = IsUnendedLine AClaim rest

abbrev pub FaultAt : List ℕ → CertFault → List ℕ → Type 0
FaultAt front fault bytes = FaultAtLine AClaim front fault bytes

-- the bytes that were used of a file are this front of it, and those that were read and not used
-- stand behind it
pub record IsPlaced (files : Files) (name used : List ℕ) (piece : Piece) : Type 0 where
  pub begins : MayBe files name (Begins (used ++ piece.ahead))
  pub offset : piece.offset ≡ length used + length piece.ahead

-- as many bytes were used as are judged, and the file goes on
pub record IsPast (files : Files) (name used : List ℕ) : Type 0 where
  pub full : length used ≡ longest_certificate
  pub more : MayBe files name (λ bytes. Begins used bytes × (length used < length bytes))

-- what the next piece of a file is, of which this front was used: there is one, or the file ended,
-- or it is too long
abbrev pub Continues : Files → List ℕ → Type 0 → List ℕ → Piece → Result Bool ReadFault → Type 0
Continues files name rose used after (Ok true) = IsPlaced files name used after
Continues files name rose used after (Ok false) = IsPlaced files name used after × MayHave files name used
Continues files name rose used after (Err Unreadable) = rose
Continues files name rose used after (Err (Text fault)) =
    (fault ≡ CertEnd longest_certificate) × IsPast files name used

-- the same, whatever was used, where nothing is left of the last piece
abbrev pub ContinuesNext : Files → List ℕ → Type 0 → Piece → Piece → Result Bool ReadFault → Type 0
ContinuesNext files name rose before after result =
    (used : List ℕ) → IsPlaced files name used before → before.ahead ≡ [] → Continues files name rose used after result

-- what a reader behind a front gives next: the claim whose line stands there, the end, or what is
-- wrong
abbrev pub Gives : Files → List ℕ → Type 0 → List ℕ → Reading → Result (Option Claim) ReadFault → Type 0
Gives files name rose front after (Ok (Some claim)) =
    IsClaim claim × IsAt files name (front ++ claim_line claim) after × (after.claims.begun ≡ [])
Gives files name rose front after (Ok None) = MayHave files name front
Gives files name rose front after (Err Unreadable) = rose
Gives files name rose front after (Err (Text fault)) = MayBe files name (FaultAt front fault)

-- the same, wherever in the file the reader stands
abbrev pub GivesNext : Files → List ℕ → Type 0 → Reading → Reading → Result (Option Claim) ReadFault → Type 0
GivesNext files name rose before after result =
    (front : List ℕ) → IsAt files name front before → Gives files name rose front after result

-- what a reader gives of the piece alone
abbrev pub TakesLine : Files → List ℕ → List ℕ → Reading → Result (Option Claim) CertFault → Type 0
TakesLine files name front after (Ok (Some claim)) =
    IsClaim claim × IsAt files name (front ++ claim_line claim) after × (after.claims.begun ≡ [])
TakesLine files name front after (Ok None) = IsAt files name front after × (after.ahead ≡ [])
TakesLine files name front after (Err fault) = MayBe files name (FaultAt front fault)

-- what the next piece makes of a reader behind a front, where the last is used up
abbrev pub ReadsOn : Files → List ℕ → Type 0 → List ℕ → List ℕ → Reading → Result Bool ReadFault → Type 0
ReadsOn files name rose front begun after (Ok true) = IsAt files name front after
ReadsOn files name rose front begun after (Ok false) =
    IsAt files name front after × (after.claims.begun ≡ begun) × MayHave files name (front ++ begun)
ReadsOn files name rose front begun after (Err Unreadable) = rose
ReadsOn files name rose front begun after (Err (Text fault)) = MayBe files name (FaultAt front fault)

-- the same, wherever in the file a reader stands whose piece is used up
abbrev pub ReadsNext : Files → List ℕ → Type 0 → Reading → Reading → Result Bool ReadFault → Type 0
ReadsNext files name rose before after result =
    (front : List ℕ) → IsAt files name front before → before.ahead ≡ []
    → ReadsOn files name rose front before.claims.begun after result

-- what a reader gives at the end of the file
abbrev pub EndGives : Files → List ℕ → List ℕ → Result (Option Claim) ReadFault → Type 0
EndGives files name front (Ok (Some claim)) = ⊥
EndGives files name front (Ok None) = MayHave files name front
EndGives files name front (Err Unreadable) = ⊥
EndGives files name front (Err (Text fault)) = MayBe files name (FaultAt front fault)

-- the same of any file whose last line is the one that the reader has begun
abbrev pub GivesEnd : Reading → Result (Option Claim) ReadFault → Type 0
GivesEnd reader result =
    (files : Files) (name front : List ℕ) → IsAt files name front reader
    → MayHave files name (front ++ reader.claims.begun) → EndGives files name front result
