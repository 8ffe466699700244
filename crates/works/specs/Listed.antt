-- What is answered where the files that a list names are read, one after the other.
use Rattle.std.specs.Prelude.{◌≡◌, ℕ, ◌<◌, ◌⊎◌, List, [], Result, Ok, Err, length, slice_index_or}
use Rattle.std.specs.declared.alloc.Global.{Global}
use Rattle.std.specs.declared.vec.Vec.{Vec}
use Rattle.class_marker.specs.declared.one.Text.{Text as Content}
use Rattle.works.specs.declared.classing.Unread.{Unread}
use Rattle.works.specs.declared.classing.Unread.TheVariants.{At, Memory}
use Rattle.works.specs.declared.complaint.Complaint.{Complaint}
use Rattle.works.specs.declared.complaint.Complaint.TheVariants as complaint
use Rattle.works.specs.declared.work.Output.{Output}
use Rattle.works.specs.Classes.{IsClass}
use Rattle.works.specs.Complaints.{name_text}
use Rattle.works.specs.Endings.{IsUnread}
use Rattle.works.specs.Works.{AllMayHave, AreRead, Files, IsFirstMissing}

-- the name at a place among names
abbrev pub name_at : List (List ℕ) → ℕ → List ℕ
name_at names place = slice_index_or names place []

-- what was read of the files of these names; or the place of the one that could not be read, with
-- the cause
abbrev pub ReadsTexts : Files → Type 0 → List (List ℕ) → Result (Vec Content Global) Unread → Type 0
ReadsTexts files rose names (Ok texts) = AreRead 65536 files names texts.items
ReadsTexts files rose names (Err (At place)) =
    (place < length names) × (rose ⊎ IsFirstMissing files names (name_at names place))
ReadsTexts files rose names (Err Memory) = Unit {0}

-- the complaint tells the name at a place
abbrev pub IsUnreadAt : List (List ℕ) → ℕ → Complaint → Type 0
IsUnreadAt names place (complaint.Unreadable name) = name_text name ≡ name_at names place
IsUnreadAt names place _ = ⊥

-- an output is the report of the exercises in the files of these names
pub record IsClassIn (files : Files) (names : List (List ℕ)) (output : Output) : Type 0 where
  pub texts : List (List ℕ)
  pub had : AllMayHave files names texts
  pub reported : IsClass names texts output

-- such an output, or what is said where there is none
abbrev pub ReportsFiles : Files → Type 0 → List (List ℕ) → Result Output Complaint → Type 0
ReportsFiles files rose names (Ok output) = IsClassIn files names output
ReportsFiles files rose names (Err (complaint.Unreadable name)) = IsUnread files rose names (name_text name)
ReportsFiles files rose names (Err complaint.OutOfMemory) = Unit {0}
ReportsFiles files rose names (Err _) = ⊥
