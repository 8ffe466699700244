-- What the commands make of their files.
use Rattle.std.specs.Prelude.{◌≡◌, ◌≢◌, ℕ, ◌≤◌, ◌⊎◌, List, [], ◌∷◌, All, Option, Some, None, Result, Ok, Err}
use Rattle.cert_text.specs.declared.answers.Form.{Form}
use Rattle.class_marker.specs.Lists.{listed_names}
use Rattle.class_marker.specs.Markings.{IsContent, IsTheText}
use Rattle.fux_grid.specs.declared.exercise.Exercise.{Exercise}
use Rattle.fux_pitch.specs.declared.memory.Memory.{Memory as MemoryFault}
use Rattle.fux_port.specs.Files.{file_of, HasFile, IsMissing}
use Rattle.works.specs.declared.complaint.Complaint.{Complaint}
use Rattle.works.specs.declared.complaint.Complaint.TheVariants as complaint
use Rattle.class_marker.specs.declared.one.Text.{Text as Content}
use Rattle.works.specs.declared.work.Output.{Output}
use Rattle.works.specs.declared.work.Unmade.{Unmade}
use Rattle.works.specs.declared.work.Verdict.TheVariants.{Spent}
use Rattle.works.specs.declared.work.Stop.{Stop}
use Rattle.works.specs.declared.work.Stop.TheVariants.{Refused, Memory}
use Rattle.command_words.specs.declared.command.FileKind.{FileKind}
use Rattle.command_words.specs.declared.command.Job.{Job}
use Rattle.command_words.specs.declared.command.MixedJob.TheVariants as mixed
use Rattle.command_words.specs.declared.command.Job.TheVariants.{Compose, Best, Mark, Weigh, Cantus, CantusCharges, Print, ToSmf, ToXml, MarkXml, Picture, MarkPicture, ComposeNth}
use Rattle.cantus_space.specs.declared.prices.PricedSheet.{PricedSheet}
use Rattle.penalty_sheet.specs.declared.sheet.Sheet.{Sheet}
use Rattle.works.specs.Answered.{MarksAnswer}
use Rattle.works.specs.CantusCertified.{MakesCantusCertificate}
use Rattle.works.specs.CantusChecked.{ChecksCantusBy}
use Rattle.works.specs.Certified.{Certifies}
use Rattle.works.specs.Charged.{Weighs}
use Rattle.works.specs.Checked.{AnswersWithin, Checks, IsUnreadable}
use Rattle.works.specs.Classes.{IsClass, IsList, RefusesList}
use Rattle.command_words.specs.Commands.{Task, on_exercise, on_mixed, certify, check, fromsmf, join_smf, drill, mark_answer, class_report, class_files, whole_class, whole_files, find_canon, find_cantus, certify_cantus, check_cantus, explain}
use Rattle.works.specs.TaskFiles.{as_list, names_in}
use Rattle.works.specs.Complaints.{name_text}
use Rattle.works.specs.Composed.{Composes, ComposesSharply}
use Rattle.works.specs.Drilled.{Drills}
use Rattle.works.specs.Explained.{Explains}
use Rattle.works.specs.Imitated.{MakesCanon}
use Rattle.works.specs.Joined.{JoinsSmf}
use Rattle.works.specs.Invented.{MakesCantus}
use Rattle.works.specs.Marked.{Marks, CantusMarks}
use Rattle.works.specs.MarkedCantus.{ChargesCantus}
use Rattle.works.specs.Mixed.{MakesMixed}
use Rattle.works.specs.Played.{ReadsMidi}
use Rattle.works.specs.Rendered.{MarksPicture, MarksXml, Pictures, Prints, WritesSmf, WritesXml}
use Rattle.works.specs.Searched.{IsNarrow}
use Rattle.works.specs.Sheets.{OnSheet, prices_in_use, sheet_said}
use Rattle.works.specs.Texts.{Work, OnText}
use Rattle.works.specs.WholeClasses.{ReportsNamed, ReportsWhole}
use Rattle.works.specs.Told.{ComposesNth}

-- a job makes this of an exercise, over the sheet in use, with its prices
abbrev pub MakesOf : Job → PricedSheet → Exercise → Work → Type 0
MakesOf (Compose budget) priced ex = Composes budget priced.sheet ex
MakesOf (Best budget) priced ex = ComposesSharply budget priced.sheet ex
MakesOf (ComposeNth before budget) priced ex = ComposesNth before budget priced.sheet ex
MakesOf Mark priced ex = Marks ex
MakesOf (Weigh against) priced ex = Weighs against priced.sheet ex ex
MakesOf Cantus priced ex = CantusMarks ex
MakesOf CantusCharges priced ex = ChargesCantus priced ex
MakesOf (Print wrap) priced ex = Prints wrap ex
MakesOf ToSmf priced ex = WritesSmf ex
MakesOf ToXml priced ex = WritesXml ex
MakesOf MarkXml priced ex = MarksXml ex ex
MakesOf (Picture wanted) priced ex = Pictures wanted priced.sheet ex
MakesOf MarkPicture priced ex = MarksPicture ex ex

-- the sheet in use, with the prices in use
abbrev pub with_prices : List (List ℕ) → Sheet → PricedSheet
with_prices sheets sheet = record { sheet = sheet; prices = prices_in_use sheets }

-- a job makes this of the text of an exercise, and of the file of a sheet where one is given
abbrev pub MakesOfText : Job → List (List ℕ) → List ℕ → Work → Type 0
MakesOfText job sheets text =
    OnText (λ ex. OnSheet (λ sheet. MakesOf job (with_prices sheets sheet) ex) sheets) text

-- work that doesn't tell that the budget was spent
abbrev pub IsUnspent : Work → Type 0
IsUnspent (Ok output) = output.verdict ≢ Spent
IsUnspent (Err refusal) = Unit {0}

-- what `compose` and `best` make of the same files, with any budgets, is the same where neither is
-- spent: verdict and bytes, or the refusal
abbrev pub BestIsComposed : Type 0
BestIsComposed =
    (budget other : ℕ) (sheets : List (List ℕ)) (text : List ℕ) (composed best : Work)
    → MakesOfText (Compose budget) sheets text composed → MakesOfText (Best other) sheets text best
    → IsUnspent composed → IsUnspent best → composed ≡ best

-- and where `compose` isn't spent, `best` with no lower budget makes just that
abbrev pub BestEndsAsComposed : Type 0
BestEndsAsComposed =
    (budget other : ℕ) (sheets : List (List ℕ)) (text : List ℕ) (composed best : Work) → budget ≤ other
    → MakesOfText (Compose budget) sheets text composed → MakesOfText (Best other) sheets text best
    → IsUnspent composed → composed ≡ best

-- what `mixed` makes of the same files with the same names, by sharper floors or without them, with
-- any budgets, is the same where neither is spent
abbrev pub MixedBestIsMixed : Type 0
MixedBestIsMixed =
    (named : List (Option ℕ)) (budget other : ℕ) (sheets : List (List ℕ)) (text : List ℕ) (composed best : Work)
    → MakesMixed named (mixed.Compose budget) sheets text composed → MakesMixed named (mixed.Best other) sheets text best
    → IsUnspent composed → IsUnspent best → composed ≡ best

-- and where it isn't spent without them, with no lower budget it makes just that by them
abbrev pub MixedBestEndsAsMixed : Type 0
MixedBestEndsAsMixed =
    (named : List (Option ℕ)) (budget other : ℕ) (sheets : List (List ℕ)) (text : List ℕ) (composed best : Work)
    → budget ≤ other → MakesMixed named (mixed.Compose budget) sheets text composed
    → MakesMixed named (mixed.Best other) sheets text best → IsUnspent composed → composed ≡ best

-- `certify` with a form makes this of the text of an exercise, and of the file of a sheet where one
-- is given
abbrev pub CertifiesText : ℕ → Form → List (List ℕ) → List ℕ → Work → Type 0
CertifiesText budget form sheets text = OnText (λ ex. OnSheet (λ sheet. Certifies budget form sheet ex) sheets) text

-- the files that a shelf tells, if it does
abbrev pub Files : Type 0
Files = Option (List ℕ → Option (List ℕ))

-- the file of a name has these bytes, where the shelf tells its files
abbrev pub MayHave : Files → List ℕ → List ℕ → Type 0
MayHave files name bytes = (file_of files name ≡ None) ⊎ HasFile files name bytes

-- so have the files of these names, one after the other
abbrev pub AllMayHave : Files → List (List ℕ) → List (List ℕ) → Type 0
AllMayHave files [] [] = Unit {0}
AllMayHave files (name ∷ names) (bytes ∷ more) = MayHave files name bytes × AllMayHave files names more
AllMayHave files _ _ = ⊥

-- the files of these names have these bytes, one after the other
abbrev pub AllHave : Files → List (List ℕ) → List (List ℕ) → Type 0
AllHave files [] [] = Unit {0}
AllHave files (name ∷ names) (bytes ∷ more) = HasFile files name bytes × AllHave files names more
AllHave files _ _ = ⊥

-- `check` makes this of the text of an exercise, and of the file of a sheet where one is given,
-- with the certificate in another file
abbrev pub ChecksText : Files → List ℕ → List (List ℕ) → List ℕ → Work → Type 0
ChecksText files certificate sheets text =
    OnText (λ ex. OnSheet (λ sheet. Checks files certificate sheet ex) sheets) text

-- an output is the report of the exercises in the files that a list names
pub record IsClassOf (files : Files) (list : List ℕ) (output : Output) : Type 0 where
  pub names : List (List ℕ)
  pub listed : listed_names list ≡ Ok names
  pub texts : List (List ℕ)
  pub had : AllMayHave files names texts
  pub reported : IsClass names texts output

-- `class` makes this of a list
abbrev pub ReportsClass : Files → List ℕ → Work → Type 0
ReportsClass files list (Ok output) = IsClassOf files list output
ReportsClass files list (Err refusal) = RefusesList list refusal

-- and this of files with these bytes whose names the words give
abbrev pub ReportsFilesOf : List (List ℕ) → List (List ℕ) → Work → Type 0
ReportsFilesOf names texts (Ok output) = IsClass names texts output
ReportsFilesOf names texts (Err refusal) = ⊥

-- a command makes this of files with these bytes, in the order of reading
abbrev pub Makes : Task → Files → List (List ℕ) → Work → Type 0
Makes (on_exercise name sheet job) files (text ∷ sheets) work = MakesOfText job sheets text work
Makes (on_mixed name sheet named job) files (text ∷ sheets) work = MakesMixed named job sheets text work
Makes (certify name sheet budget form) files (text ∷ sheets) work = CertifiesText budget form sheets text work
Makes (check name certificate sheet) files (text ∷ sheets) work = ChecksText files certificate sheets text work
Makes (explain name subject) files (text ∷ []) work = Explains subject name text work
Makes (fromsmf name head) files (file ∷ []) work = ReadsMidi head file work
Makes (join_smf lesson name manner) files (given ∷ file ∷ []) work = JoinsSmf manner given file work
Makes (drill number by_sharper) files [] work = Drills number by_sharper work
Makes (mark_answer name lesson) files (text ∷ given ∷ []) work = MarksAnswer given text work
Makes (class_report list) files (text ∷ []) work = ReportsClass files text work
Makes (class_files names) files texts work = ReportsFilesOf names texts work
Makes (whole_class list lesson kind) files (text ∷ lessons) work = ReportsWhole files (Unit {0}) kind text lessons work
Makes (whole_files names lesson kind) files lessons work = ReportsNamed files (Unit {0}) kind names lessons work
Makes (find_canon name sheet search) files (text ∷ sheets) work = MakesCanon search sheets text work
Makes (find_cantus wanted sheet search) files sheets work = MakesCantus wanted search sheets work
Makes (certify_cantus wanted sheet budget) files sheets work = MakesCantusCertificate wanted budget sheets work
Makes (check_cantus wanted certificate sheet) files sheets work = ChecksCantusBy wanted files certificate sheets work
Makes _ _ _ work = ⊥

-- the text is that of an exercise none of whose menus is too wide, and the file of the sheet is one
-- where it is given
pub record IsReadyText (sheets : List (List ℕ)) (text : List ℕ) : Type 0 where
  pub exercise : Exercise
  pub is : IsTheText text exercise
  pub sheet : Sheet
  pub said : sheet_said sheets ≡ Ok sheet
  pub narrow : IsNarrow exercise

-- the file of the sheet is one where it is given
pub record IsReadySheet (sheets : List (List ℕ)) : Type 0 where
  pub sheet : Sheet
  pub said : sheet_said sheets ≡ Ok sheet

-- nothing in the files with these bytes keeps a command from reading on within its work
abbrev pub IsReadyFor : Task → List (List ℕ) → Type 0
IsReadyFor (check name certificate sheet) (text ∷ sheets) = IsReadyText sheets text
IsReadyFor (class_report list) (text ∷ []) = IsList text
IsReadyFor (check_cantus wanted certificate sheet) sheets = IsReadySheet sheets
IsReadyFor _ _ = ⊥

-- an answer is of such work, or memory is wanting
abbrev pub Answers : (Work → Type 0) → Result Output Stop → Type 0
Answers Made (Ok output) = Made (Ok output)
Answers Made (Err (Refused refusal)) = Made (Err refusal)
Answers Made (Err Memory) = Unit {0}

-- an output that `class` makes of a list and of the lesson where one is named, and of which a fact
-- holds: it tells of a file that it can't be read only where a read failed, or the file is missing
pub record TellsCauses (list : List ℕ) (lesson : Option (List ℕ)) (kind : FileKind) (files : Files) (rose : Type 0)
    (Holds : Output → Type 0) : Type 0 where
  pub text : List ℕ
  pub lessons : List (List ℕ)
  pub had : AllMayHave files (list ∷ as_list lesson) (text ∷ lessons)
  pub output : Output
  pub made : ReportsWhole files rose kind text lessons (Ok output)
  pub holds : Holds output

-- so does an output that it makes of names that the words give
pub record TellsNamedCauses (names : List (List ℕ)) (lesson : Option (List ℕ)) (kind : FileKind) (files : Files)
    (rose : Type 0) (Holds : Output → Type 0) : Type 0 where
  pub lessons : List (List ℕ)
  pub had : AllMayHave files (as_list lesson) lessons
  pub output : Output
  pub made : ReportsNamed files rose kind names lessons (Ok output)
  pub holds : Holds output

-- an answer of a command is so, where it is one to such a `class`
abbrev pub IsOfCauses : {A E : Type 0} → Task → Files → Type 0 → (A → Output → Type 0) → Result A E → Type 0
IsOfCauses (whole_class list lesson kind) files rose Holds (Ok answer) =
    TellsCauses list lesson kind files rose (Holds answer)
IsOfCauses (whole_files names lesson kind) files rose Holds (Ok answer) =
    TellsNamedCauses names lesson kind files rose (Holds answer)
IsOfCauses _ _ _ _ _ = Unit {0}

-- the work of a command on its files, of which a fact holds
pub record Works (task : Task) (files : Files) (Holds : Work → Type 0) : Type 0 where
  pub bytes : List (List ℕ)
  pub had : AllMayHave files (names_in task) bytes
  pub work : Work
  pub made : Makes task files bytes work
  pub holds : Holds work

-- there is a file of each of these names
abbrev pub AreThere : Files → List (List ℕ) → Type 0
AreThere files names = All (λ name. (file : List ℕ) × HasFile files name file) names

-- a name is the first of these that is missing
abbrev pub IsFirstMissing : Files → List (List ℕ) → List ℕ → Type 0
IsFirstMissing files [] name = ⊥
IsFirstMissing files (first ∷ names) name =
    ((first ≡ name) × IsMissing files first) ⊎ ((IsMissing files first → ⊥) × IsFirstMissing files names name)

-- what was read of files with these bytes, one after the other
abbrev pub AreContents : ℕ → List Content → List (List ℕ) → Type 0
AreContents limit [] [] = Unit {0}
AreContents limit (content ∷ contents) (bytes ∷ more) = IsContent limit content bytes × AreContents limit contents more
AreContents limit _ _ = ⊥

-- the content of the file of a name
pub record IsRead (limit : ℕ) (files : Files) (name : List ℕ) (read : Content) : Type 0 where
  pub bytes : List ℕ
  pub had : MayHave files name bytes
  pub content : IsContent limit read bytes

-- the contents of the files of these names, one after the other
abbrev pub AreRead : ℕ → Files → List (List ℕ) → List Content → Type 0
AreRead limit files [] [] = Unit {0}
AreRead limit files (name ∷ names) (content ∷ contents) =
    IsRead limit files name content × AreRead limit files names contents
AreRead limit files _ _ = ⊥

-- the answers of a read, each with its cause
abbrev pub Reads : ℕ → Files → Type 0 → List ℕ → Result Content Complaint → Type 0
Reads limit files rose name (Ok content) = IsRead limit files name content
Reads limit files rose name (Err (complaint.Unreadable file)) =
    (name_text file ≡ name) × (rose ⊎ IsMissing files name)
Reads limit files rose name (Err complaint.OutOfMemory) = Unit {0}
Reads limit files rose name (Err _) = ⊥

-- the same where a file may be without being read: then too with its cause
abbrev pub ReadsOrNot : ℕ → Files → Type 0 → List ℕ → Result (Option Content) MemoryFault → Type 0
ReadsOrNot limit files failed name (Ok None) = failed ⊎ IsMissing files name
ReadsOrNot limit files failed name (Ok (Some text)) = IsRead limit files name text
ReadsOrNot limit files failed name (Err memory) = Unit {0}

-- the same of the file of a sheet, where one is named
abbrev pub ReadsSheetFile : Files → Type 0 → Option (List ℕ) → Result (Option Content) Complaint → Type 0
ReadsSheetFile files rose named (Ok content) = AreRead 65536 files (as_list named) (as_list content)
ReadsSheetFile files rose (Some name) (Err complaint) = Reads 65536 files rose name (Err complaint)
ReadsSheetFile files rose None (Err complaint) = ⊥

-- a fact of the bytes that were read of the text of an exercise, and of the file of a sheet where
-- one is given
abbrev pub OnTexts : Content → Option Content → (List ℕ → List (List ℕ) → Type 0) → Type 0
OnTexts text weights Told =
    (bytes : List ℕ) (sheets : List (List ℕ)) → IsContent 65536 text bytes → AreContents 65536 (as_list weights) sheets
    → Told bytes sheets

-- `check` answers so to these texts, and to the certificate in a file
abbrev pub ChecksTexts : {F : Type 0} → (F → Files) → (F → ℕ) → List ℕ → Content → Option Content → F → F
    → Result Output Unmade → Type 0
ChecksTexts files faults certificate text weights old new answer =
    OnTexts text weights (λ bytes sheets.
    AnswersWithin (ChecksText (files old) certificate sheets bytes)
    (IsReadyText sheets bytes × IsUnreadable files faults certificate old new) answer)
