-- What a shelf promises a run, and answers that blame no file.
use Rattle.std.specs.Prelude.{ℕ, ◌⊎◌, List, [], ◌∷◌, Contains}
use Rattle.fux_port.specs.Promises.{Reads, ServesWhole}
use Rattle.works.specs.declared.complaint.Complaint.{Complaint}
use Rattle.works.specs.declared.complaint.Complaint.TheVariants as complaint
use Rattle.works.specs.declared.work.Unmade.{Unmade}
use Rattle.works.specs.declared.work.Unmade.TheVariants as unmade
use Rattle.works.specs.declared.classing.Unread.{Unread}
use Rattle.works.specs.declared.classing.Unread.TheVariants as unread
use Rattle.command_words.specs.Commands.{Task, class_report, whole_class, whole_files}
use Rattle.works.specs.Complaints.{name_text}
use Rattle.works.specs.Listed.{name_at}
use Rattle.works.specs.TaskFiles.{limit_in, names_in, names_within}
use Rattle.works.specs.WholeClasses.{limit_of}
use Rattle.works.specs.Works.{AllMayHave, Files, IsReadyFor}

-- each read of the files of these names, up to a limit, is promised
abbrev pub ServesNames : Reads → ℕ → List (List ℕ) → Type 0
ServesNames serves limit [] = Unit {0}
ServesNames serves limit (name ∷ names) = ServesWhole serves name limit × ServesNames serves limit names

-- how many bytes of each file within its work are read at most
abbrev pub limit_within : Task → ℕ
limit_within (class_report list) = 65536
limit_within (whole_class list lesson kind) = limit_of kind
limit_within (whole_files names lesson kind) = limit_of kind
limit_within _ = 1073741824

-- each read of a command's files, before its work and within it, is promised up to the limits of
-- their bytes
pub record ServesTask (serves : Reads) (files : Files) (task : Task) : Type 0 where
  pub before : ServesNames serves (limit_in task) (names_in task)
  pub within : (bytes : List (List ℕ)) → AllMayHave files (names_in task) bytes
      → ServesNames serves (limit_within task) (names_within task bytes)

-- a command reads on to the file of this name within its work: nothing in the files before it
-- keeps it from that
pub record ReadsOnTo (task : Task) (files : Files) (name : List ℕ) : Type 0 where
  pub bytes : List (List ℕ)
  pub had : AllMayHave files (names_in task) bytes
  pub ready : IsReadyFor task bytes
  pub named : Contains (names_within task bytes) name

-- one of these names, and not each read of its file is promised up to a limit
abbrev pub IsUnservedIn : Reads → ℕ → List (List ℕ) → List ℕ → Type 0
IsUnservedIn serves limit names name = Contains names name × (ServesWhole serves name limit → ⊥)

-- a command reads the file of this name, before its work or within it, and not each of these reads
-- is promised
abbrev pub IsUnserved : Reads → Files → Task → List ℕ → Type 0
IsUnserved serves files task name =
    IsUnservedIn serves (limit_in task) (names_in task) name
    ⊎ (ReadsOnTo task files name × (ServesWhole serves name (limit_within task) → ⊥))

-- a complaint says of such a file alone that it can't be read
abbrev pub Blames : (List ℕ → Type 0) → Complaint → Type 0
Blames Such (complaint.Unreadable name) = Such (name_text name)
Blames Such _ = Unit {0}

-- of the file under the name of a place, not each read is promised
abbrev pub BlamesPlace : Reads → List (List ℕ) → Unread → Type 0
BlamesPlace serves names (unread.At place) = ServesWhole serves (name_at names place) 65536 → ⊥
BlamesPlace serves names unread.Memory = Unit {0}

-- a complaint says of no file that it can't be read
abbrev pub BlamesNoFile : Complaint → Type 0
BlamesNoFile (complaint.Unreadable name) = ⊥
BlamesNoFile _ = Unit {0}

-- a command that reads within its work could read
abbrev pub IsReadWithin : Unmade → Type 0
IsReadWithin unmade.Unreadable = ⊥
IsReadWithin _ = Unit {0}

-- the files that a list names could be read
abbrev pub CouldRead : Unread → Type 0
CouldRead (unread.At place) = ⊥
CouldRead unread.Memory = Unit {0}
