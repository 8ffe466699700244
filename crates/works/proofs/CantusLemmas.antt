-- What `newcantus` makes of the file of a sheet (`of_cantus`), where that can't be read
-- (`sheet_alone_unread`), and what is told of the cantus of a space (`tells_cantus`).
use Rattle.std.proofs.Common.{◌≡◌, ◌⊎◌, ℕ, List, [], ◌∷◌, Option, Some, None, Result, Ok, Err, inl, inr, refl, sym, subst, arith}
use Rattle.fux_port.specs.Files.{IsMissing}
use Rattle.cantus_space.specs.declared.plan.CantusPlan.{CantusPlan}
use Rattle.cantus_space.specs.Lawful.{quest_of}
use Rattle.cantus_space.specs.Paths.{pitches_at}
use Rattle.class_marker.specs.declared.one.Text.{Text as Content}
use Rattle.command_words.specs.declared.command.Search.{Search}
use Rattle.command_words.specs.declared.command.Wanted.{Wanted}
use Rattle.works.specs.declared.complaint.Complaint.{Complaint}
use Rattle.works.specs.declared.complaint.Complaint.TheVariants.{Usage, Refused, Unreadable, Unwritable, OutOfMemory}
use Rattle.works.specs.declared.work.Output.{Output}
use Rattle.works.specs.declared.work.Stop.{Stop}
use Rattle.works.specs.declared.work.Stop.TheVariants as stop
use Rattle.works.specs.declared.work.Verdict.{Verdict}
use Rattle.command_words.specs.Commands.{Task, find_cantus}
use Rattle.works.specs.TaskFiles.{as_list, names_in}
use Rattle.works.specs.Complaints.{name_text}
use Rattle.works.specs.Invented.{MakesCantus, TellsCantus, cantus_answer}
use Rattle.works.specs.Endings.{Ended, IsMade, IsUnread}
use Rattle.works.specs.Told.{TellsPath, TellsSought}
use Rattle.works.specs.Works.{Answers, AreContents, Files, Makes, ReadsSheetFile}
use Rattle.works.proofs.ToldLemmas.{of_found, told_as}

pub of_cantus : (files : Files) (wanted : Wanted) (sheet : Option (List ℕ)) (search : Search) (weights : Option Content)
    (answer : Result Output Stop)
    → ((sheets : List (List ℕ)) → AreContents 65536 (as_list weights) sheets
    → Answers (MakesCantus wanted search sheets) answer)
    → (all : List (List ℕ)) → AreContents 65536 (as_list weights) all
    → Answers (Makes (find_cantus wanted sheet search) files all) answer
of_cantus files wanted sheet search weights (Ok output) made all content = made all content
of_cantus files wanted sheet search weights (Err (stop.Refused refusal)) made all content = made all content
of_cantus files wanted sheet search weights (Err stop.Memory) made all content = tt

alone_unread : (files : Files) (name file : List ℕ) (rose : Type 0) → file ≡ name → rose ⊎ IsMissing files name
    → IsUnread files rose (name ∷ []) file
alone_unread files name file rose is cause = record {
  asked = (0, omega arith, sym is);
  cause = elim cause [ inl failed ↦ inl failed | inr missing ↦ inr (inl (sym is, missing)) ];
}

-- the same of each command that reads nothing else before its work
pub alone_unread_of : (task : Task) (sheet : Option (List ℕ)) (files : Files) (rose : Type 0) (complaint : Complaint)
    → names_in task ≡ as_list sheet → ReadsSheetFile files rose sheet (Err complaint) → IsMade task files rose (Err complaint)
alone_unread_of task None files rose complaint only read = absurd read
alone_unread_of task (Some name) files rose (Unreadable file) only read =
    inl (subst (λ names. IsUnread files rose names (name_text file)) (sym only)
    (alone_unread files name (name_text file) rose read.0 read.1))
alone_unread_of task (Some name) files rose OutOfMemory only read = tt
alone_unread_of task (Some name) files rose Usage only read = absurd read
alone_unread_of task (Some name) files rose (Refused said) only read = absurd read
alone_unread_of task (Some name) files rose Unwritable only read = absurd read

pub sheet_alone_unread : (wanted : Wanted) (sheet : Option (List ℕ)) (search : Search) (files : Files) (rose : Type 0)
    (complaint : Complaint)
    → ReadsSheetFile files rose sheet (Err complaint) → IsMade (find_cantus wanted sheet search) files rose (Err complaint)
sheet_alone_unread wanted sheet search files rose complaint =
    alone_unread_of (find_cantus wanted sheet search) sheet files rose complaint refl

-- a run whose sheet can't be read ends so
pub alone_ended : (task : Task) (sheet : Option (List ℕ)) (files : Files) (rose : Type 0) (cut : ℕ → Type 0) (old : Option (List ℕ))
    (complaint : Complaint) → names_in task ≡ as_list sheet → ReadsSheetFile files rose sheet (Err complaint)
    → Ended task files rose cut old old (Err complaint)
alone_ended task None files rose cut old complaint only read = absurd read
alone_ended task (Some name) files rose cut old (Unreadable file) only read =
    (refl, alone_unread_of task (Some name) files rose (Unreadable file) only read)
alone_ended task (Some name) files rose cut old OutOfMemory only read = refl
alone_ended task (Some name) files rose cut old Usage only read = absurd read
alone_ended task (Some name) files rose cut old (Refused said) only read = absurd read
alone_ended task (Some name) files rose cut old Unwritable only read = absurd read

-- what is told of the cantus of a space is told of those that are asked for
pub tells_cantus : (space plan : CantusPlan) (search : Search) (verdict : Verdict) (bytes : List ℕ) → space ≡ plan
    → TellsSought (quest_of space) search.before search.budget
    (TellsPath (pitches_at space) (λ path penalty written. written ≡ cantus_answer (pitches_at space path) penalty)) verdict
    bytes
    → TellsCantus plan search verdict bytes
tells_cantus space plan search verdict bytes is told =
    subst (λ (p : CantusPlan). TellsCantus p search verdict bytes) is
    (told_as (quest_of space) search.before search.budget _ _ (of_found (pitches_at space) cantus_answer) verdict bytes told)
