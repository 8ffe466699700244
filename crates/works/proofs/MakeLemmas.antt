-- What a command makes, from what was read of its files and what it answers to that (`made_said`),
-- and where the first file (`first_unread`) or that of its sheet can't be read (`sheet_unread`).
use Rattle.std.proofs.Common.{◌≡◌, ◌⊎◌, ℕ, Bool, List, [], ◌∷◌, Option, Some, None, Result, Ok, Err, inl, inr, refl, sym, subst, arith}
use Rattle.fux_port.specs.Files.{IsMissing}
use Rattle.class_marker.specs.Markings.{IsContent}
use Rattle.fux_grid.specs.declared.exercise.Head.{Head}
use Rattle.works.specs.declared.complaint.Complaint.{Complaint}
use Rattle.works.specs.declared.complaint.FileName.{FileName}
use Rattle.works.specs.Complaints.{name_text}
use Rattle.works.specs.declared.complaint.Complaint.TheVariants.{Usage, Refused, Unreadable, Unwritable, OutOfMemory}
use Rattle.class_marker.specs.declared.one.Text.{Text as Content}
use Rattle.command_words.specs.declared.command.Job.{Job}
use Rattle.command_words.specs.declared.command.Subject.{Subject}
use Rattle.works.specs.declared.work.Output.{Output}
use Rattle.works.specs.declared.work.Stop.{Stop}
use Rattle.works.specs.declared.work.Stop.TheVariants as stop
use Rattle.command_words.specs.Commands.{Task, drill, explain, fromsmf, on_exercise}
use Rattle.works.specs.TaskFiles.{as_list, limit_in, name_in, names_in}
use Rattle.works.specs.Drilled.{Drills}
use Rattle.works.specs.Explained.{Explains}
use Rattle.works.specs.Played.{ReadsMidi}
use Rattle.works.specs.Endings.{IsMade, IsRefused, IsUnread, Says}
use Rattle.works.specs.Texts.{Work}
use Rattle.works.specs.Works.{AllMayHave, Answers, AreContents, AreRead, Files, IsRead, Makes, MakesOfText, Reads, ReadsSheetFile, Works}
use Rattle.works.proofs.WorkLemmas.{not_missing}

-- the bytes of files that were read
pub record HaveBytes (limit : ℕ) (files : Files) (names : List (List ℕ)) (contents : List Content) : Type 0 where
  pub bytes : List (List ℕ)
  pub had : AllMayHave files names bytes
  pub content : AreContents limit contents bytes

pub have_bytes : (limit : ℕ) (files : Files) (names : List (List ℕ)) (contents : List Content)
    → AreRead limit files names contents → HaveBytes limit files names contents
have_bytes limit files [] [] read = record { bytes = []; had = tt; content = tt }
have_bytes limit files [] (content ∷ contents) read = absurd read
have_bytes limit files (name ∷ names) [] read = absurd read
have_bytes limit files (name ∷ names) (content ∷ contents) read =
    let more = have_bytes limit files names contents read.1 in
    record { bytes = read.0.bytes ∷ more.bytes; had = (read.0.had, more.had); content = (read.0.content, more.content) }

-- the work that is answered, of which a fact holds
pub works_on : (task : Task) (files : Files) (contents : List Content) (work : Work) (Holds : Work → Type 0)
    → AreRead (limit_in task) files (names_in task) contents
    → ((bytes : List (List ℕ)) → AreContents (limit_in task) contents bytes → Makes task files bytes work) → Holds work
    → Works task files Holds
works_on task files contents work Holds read made holds =
    let known = have_bytes (limit_in task) files (names_in task) contents read in
    record { bytes = known.bytes; had = known.had; work = work; made = made known.bytes known.content; holds = holds }

pub made_said : (task : Task) (files : Files) (rose : Type 0) (contents : List Content) (answer : Result Output Stop)
    (told : Result Output Complaint) → AreRead (limit_in task) files (names_in task) contents
    → ((bytes : List (List ℕ)) → AreContents (limit_in task) contents bytes → Answers (Makes task files bytes) answer)
    → Says (name_in task) answer told → IsMade task files rose told
made_said task files rose contents (Ok output) told read made says =
    rw says (works_on task files contents (Ok output) (λ work. work ≡ Ok output) read made refl)
made_said task files rose contents (Err (stop.Refused refusal)) (Err (Refused text)) read made says =
    works_on task files contents (Err refusal) (IsRefused (name_in task) text) read made
    record { refusal = refusal; is = refl; told = says }
made_said task files rose contents (Err (stop.Refused refusal)) (Err OutOfMemory) read made says = tt
made_said task files rose contents (Err (stop.Refused refusal)) (Err Usage) read made says = absurd says
made_said task files rose contents (Err (stop.Refused refusal)) (Err (Unreadable name)) read made says = absurd says
made_said task files rose contents (Err (stop.Refused refusal)) (Err Unwritable) read made says = absurd says
made_said task files rose contents (Err (stop.Refused refusal)) (Ok output) read made says = absurd says
made_said task files rose contents (Err stop.Memory) told read made says = rw says tt

-- ---- what the answers say of the lists of bytes

pub of_two : (files : Files) (name : List ℕ) (sheet : Option (List ℕ)) (job : Job) (text : Content)
    (weights : Option Content) (answer : Result Output Stop)
    → ((bytes : List ℕ) (sheets : List (List ℕ)) → IsContent 65536 text bytes
    → AreContents 65536 (as_list weights) sheets
    → Answers (MakesOfText job sheets bytes) answer)
    → (all : List (List ℕ)) → AreContents 65536 (text ∷ as_list weights) all
    → Answers (Makes (on_exercise name sheet job) files all) answer
of_two files name sheet job text weights (Ok output) made (bytes ∷ sheets) content =
    made bytes sheets content.0 content.1
of_two files name sheet job text weights (Err (stop.Refused refusal)) made (bytes ∷ sheets) content =
    made bytes sheets content.0 content.1
of_two files name sheet job text weights (Err stop.Memory) made all content = tt
of_two files name sheet job text weights (Ok output) made [] content = absurd content
of_two files name sheet job text weights (Err (stop.Refused refusal)) made [] content = absurd content

pub of_one : (files : Files) (name : List ℕ) (head : Head) (file : Content) (answer : Result Output Stop)
    → ((bytes : List ℕ) → IsContent 1048576 file bytes → Answers (ReadsMidi head bytes) answer)
    → (all : List (List ℕ)) → AreContents 1048576 (file ∷ []) all → Answers (Makes (fromsmf name head) files all) answer
of_one files name head file (Ok output) made (bytes ∷ []) content = made bytes content.0
of_one files name head file (Err (stop.Refused refusal)) made (bytes ∷ []) content = made bytes content.0
of_one files name head file (Err stop.Memory) made all content = tt
of_one files name head file (Ok output) made [] content = absurd content
of_one files name head file (Err (stop.Refused refusal)) made [] content = absurd content
of_one files name head file (Ok output) made (bytes ∷ more ∷ all) content = absurd content.1
of_one files name head file (Err (stop.Refused refusal)) made (bytes ∷ more ∷ all) content = absurd content.1

pub of_text : (files : Files) (name : List ℕ) (subject : Subject) (file : Content) (answer : Result Output Stop)
    → ((bytes : List ℕ) → IsContent 65536 file bytes → Answers (Explains subject name bytes) answer)
    → (all : List (List ℕ)) → AreContents 65536 (file ∷ []) all → Answers (Makes (explain name subject) files all) answer
of_text files name subject file (Ok output) made (bytes ∷ []) content = made bytes content.0
of_text files name subject file (Err (stop.Refused refusal)) made (bytes ∷ []) content = made bytes content.0
of_text files name subject file (Err stop.Memory) made all content = tt
of_text files name subject file (Ok output) made [] content = absurd content
of_text files name subject file (Err (stop.Refused refusal)) made [] content = absurd content
of_text files name subject file (Ok output) made (bytes ∷ more ∷ all) content = absurd content.1
of_text files name subject file (Err (stop.Refused refusal)) made (bytes ∷ more ∷ all) content = absurd content.1

pub of_none : (files : Files) (number : ℕ) (by_sharper : Bool) (answer : Result Output Stop)
    → Answers (Drills number by_sharper) answer
    → (all : List (List ℕ)) → AreContents 65536 [] all → Answers (Makes (drill number by_sharper) files all) answer
of_none files number by_sharper (Ok output) made [] content = made
of_none files number by_sharper (Err (stop.Refused refusal)) made [] content = made
of_none files number by_sharper (Err stop.Memory) made all content = tt
of_none files number by_sharper (Ok output) made (bytes ∷ all) content = absurd content
of_none files number by_sharper (Err (stop.Refused refusal)) made (bytes ∷ all) content = absurd content

-- ---- files that can't be read

pub first_unread : (first : List ℕ) (names : List (List ℕ)) (files : Files) (rose : Type 0) (limit : ℕ)
    (complaint : Complaint) (Tells : Complaint → Type 0)
    → ((file : FileName) → IsUnread files rose (first ∷ names) (name_text file) → Tells (Unreadable file))
    → Tells OutOfMemory → Reads limit files rose first (Err complaint) → Tells complaint
first_unread first names files rose limit (Unreadable file) Tells unread memory known =
    unread file record {
      asked = (0, omega arith, sym known.0);
      cause = elim known.1 [ inl failed ↦ inl failed | inr missing ↦ inr (inl (sym known.0, missing)) ];
    }
first_unread first names files rose limit OutOfMemory Tells unread memory known = memory
first_unread first names files rose limit Usage Tells unread memory known = absurd known
first_unread first names files rose limit (Refused said) Tells unread memory known = absurd known
first_unread first names files rose limit Unwritable Tells unread memory known = absurd known

second_missing : (files : Files) (first second file : List ℕ) (rose : Type 0) → file ≡ second
    → (IsMissing files first → ⊥)
    → rose ⊎ IsMissing files second → IsUnread files rose (first ∷ second ∷ []) file
second_missing files first second file rose is here cause = record {
  asked = (1, omega arith, sym is);
  cause = elim cause [ inl failed ↦ inl failed | inr missing ↦ inr (inr (here, inl (sym is, missing))) ];
}

-- the shelf that tells the files of the second read tells the same ones
pub sheet_unread : (first : List ℕ) (sheet : Option (List ℕ)) (files later_files : Files) (rose later : Type 0)
    (limit : ℕ)
    (text : Content) (complaint : Complaint) (Tells : Complaint → Type 0)
    → ((file : FileName) → IsUnread files rose (first ∷ as_list sheet) (name_text file) → Tells (Unreadable file))
    → Tells OutOfMemory
    → IsRead limit files first text → later_files ≡ files → (later → rose)
    → ReadsSheetFile later_files later sheet (Err complaint) → Tells complaint
sheet_unread first None files later_files rose later limit text complaint Tells unread memory read same so known =
    absurd known
sheet_unread first (Some second) files later_files rose later limit text (Unreadable file) Tells unread memory read same
    so known =
    unread file (second_missing files first second (name_text file) rose known.0 (not_missing files first read.bytes read.had)
    (elim known.1 [ inl failed ↦ inl (so failed) | inr missing ↦ inr (rw same at missing) ]))
sheet_unread first (Some second) files later_files rose later limit text OutOfMemory Tells unread memory read same so
    known = memory
sheet_unread first (Some second) files later_files rose later limit text Usage Tells unread memory read same so known =
    absurd known
sheet_unread first (Some second) files later_files rose later limit text (Refused said) Tells unread memory read same so
    known = absurd known
sheet_unread first (Some second) files later_files rose later limit text Unwritable Tells unread memory read same so
    known = absurd known

pub read_same : (limit : ℕ) (files later_files : Files) (names : List (List ℕ)) (contents : List Content) → later_files
    ≡ files
    → AreRead limit later_files names contents → AreRead limit files names contents
read_same limit files later_files names contents same read = subst (λ told. AreRead limit told names contents) same read
