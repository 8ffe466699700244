-- What is promised of files is promised still after reads (`whole_kept`, `names_kept`), and of each
-- of some names (`name_served`); and what a complaint blames: no file (`blames_none`), one that
-- can't be read (`text_blames`, `sheet_blames`, `blames_within`), or one under the name of a place
-- (`place_blames`).
use Rattle.std.proofs.Common.{◌≡◌, ℕ, zero, suc, ◌<◌, List, [], ◌∷◌, length, map, get_or, Global, Option, None, Some, Result, Ok, Err, refl, sym, subst, ◌∙◌, arith}
use Rattle.std.specs.Prelude.{IfErr, String, string_bytes}
use Rattle.fux_port.specs.Promises.{Keeps, Reads as Promised, ServesWhole}
use Rattle.works.specs.declared.complaint.Complaint.{Complaint}
use Rattle.works.specs.declared.complaint.Complaint.TheVariants.{Usage, Refused, Unreadable, Unwritable, OutOfMemory}
use Rattle.works.specs.declared.work.Output.{Output}
use Rattle.works.specs.declared.work.Stop.TheVariants as stop
use Rattle.works.specs.declared.work.Unmade.{Unmade}
use Rattle.works.specs.declared.work.Unmade.TheVariants as unmade
use Rattle.works.specs.Blame.{Blames, BlamesNoFile, IsUnservedIn, ServesNames}
use Rattle.works.specs.Complaints.{name_text}
use Rattle.works.specs.Endings.{SaysWithin}
use Rattle.works.specs.Listed.{IsUnreadAt, name_at}
use Rattle.works.specs.TaskFiles.{as_list}
use Rattle.works.specs.Works.{Files, Reads, ReadsSheetFile}
use Rattle.works.proofs.ClassLemmas.{same_at}

pub whole_kept : (old new : Promised) (name : List ℕ) (limit : ℕ) → Keeps old new → ServesWhole old name limit
    → ServesWhole new name limit
whole_kept old new name limit keeps promised = λ offset within. keeps name offset (promised offset within)

pub names_kept : (old new : Promised) (limit : ℕ) (names : List (List ℕ)) → Keeps old new → ServesNames old limit names
    → ServesNames new limit names
names_kept old new limit [] keeps promised = tt
names_kept old new limit (name ∷ names) keeps promised =
    (whole_kept old new name limit keeps promised.0, names_kept old new limit names keeps promised.1)

pub name_served : (serves : Promised) (limit k : ℕ) (names : List (String Global)) (name : String Global)
    → k < length names → name ≡ get_or names k name → ServesNames serves limit (map string_bytes names)
    → ServesWhole serves (string_bytes name) limit
name_served serves limit k [] name within named promised = absurd (omega (arith, within))
name_served serves limit zero (first ∷ names) name within named promised =
    subst (λ n. ServesWhole serves (string_bytes n) limit) (sym named) promised.0
name_served serves limit (suc k) (first ∷ names) name within named promised =
    name_served serves limit k names name (omega (arith, within)) named promised.1

-- ---- what a complaint blames

module _ (Such : List ℕ → Type 0) where
  pub blames_none : (complaint : Complaint) → BlamesNoFile complaint → Blames Such complaint
  blames_none Usage none = tt
  blames_none (Refused text) none = tt
  blames_none (Unreadable name) none = absurd none
  blames_none Unwritable none = tt
  blames_none OutOfMemory none = tt

  pub result_blames_none : {X : Type 0} (result : Result X Complaint) → IfErr result BlamesNoFile
      → IfErr result (Blames Such)
  result_blames_none (Ok x) none = tt
  result_blames_none (Err complaint) none = blames_none complaint none

  -- a file that can't be read is one whose reads aren't promised
  pub text_blames : (limit : ℕ) (files : Files) (rose : Type 0) (serves : Promised) (name : List ℕ)
      (complaint : Complaint) → Reads limit files rose name (Err complaint)
      → (ServesWhole serves name limit → BlamesNoFile complaint) → ((ServesWhole serves name limit → ⊥) → Such name)
      → Blames Such complaint
  text_blames limit files rose serves name (Unreadable file) read served such =
      subst Such (sym read.0) (such served)
  text_blames limit files rose serves name Usage read served such = tt
  text_blames limit files rose serves name (Refused text) read served such = tt
  text_blames limit files rose serves name Unwritable read served such = tt
  text_blames limit files rose serves name OutOfMemory read served such = tt

  -- the same of the file of a sheet, of reads that were promised before others
  pub sheet_blames : (files : Files) (rose : Type 0) (old new : Promised) (sheet : Option (List ℕ))
      (complaint : Complaint) → ReadsSheetFile files rose sheet (Err complaint) → Keeps old new
      → (ServesNames new 65536 (as_list sheet) → BlamesNoFile complaint)
      → ((name : List ℕ) → IsUnservedIn old 65536 (as_list sheet) name → Such name) → Blames Such complaint
  sheet_blames files rose old new None complaint read keeps served such = absurd read
  sheet_blames files rose old new (Some name) complaint read keeps served such =
      text_blames 65536 files rose new name complaint read (λ promised. served (promised, tt))
      (λ denied. such name (
        (0, omega arith, refl),
        λ promised. denied (whole_kept old new name 65536 keeps promised),
      ))

  -- what is said of a command that reads a file within its work
  pub blames_within : (name within : List ℕ) (answer : Result Output Unmade) (told : Result Output Complaint)
      → SaysWithin name within answer told → (answer ≡ Err unmade.Unreadable → Such within) → IfErr told (Blames Such)
  blames_within name within (Ok output) told says such = rw says tt
  blames_within name within (Err (unmade.Stopped (stop.Refused refusal))) (Ok output) says such = absurd says
  blames_within name within (Err (unmade.Stopped (stop.Refused refusal))) (Err Usage) says such = absurd says
  blames_within name within (Err (unmade.Stopped (stop.Refused refusal))) (Err (Refused text)) says such = tt
  blames_within name within (Err (unmade.Stopped (stop.Refused refusal))) (Err (Unreadable file)) says such =
      absurd says
  blames_within name within (Err (unmade.Stopped (stop.Refused refusal))) (Err Unwritable) says such = absurd says
  blames_within name within (Err (unmade.Stopped (stop.Refused refusal))) (Err OutOfMemory) says such = tt
  blames_within name within (Err (unmade.Stopped stop.Memory)) told says such = rw says tt
  blames_within name within (Err unmade.Unreadable) (Ok output) says such = absurd says
  blames_within name within (Err unmade.Unreadable) (Err Usage) says such = absurd says
  blames_within name within (Err unmade.Unreadable) (Err (Refused text)) says such = absurd says
  blames_within name within (Err unmade.Unreadable) (Err (Unreadable file)) says such =
      subst Such (sym says) (such refl)
  blames_within name within (Err unmade.Unreadable) (Err Unwritable) says such = absurd says
  blames_within name within (Err unmade.Unreadable) (Err OutOfMemory) says such = absurd says

pub blames_so : {X : Type 0} (Such More : List ℕ → Type 0) (result : Result X Complaint)
    → ((name : List ℕ) → Such name → More name) → IfErr result (Blames Such) → IfErr result (Blames More)
blames_so Such More (Ok x) so blames = tt
blames_so Such More (Err Usage) so blames = tt
blames_so Such More (Err (Refused text)) so blames = tt
blames_so Such More (Err (Unreadable file)) so blames = so (name_text file) blames
blames_so Such More (Err Unwritable) so blames = tt
blames_so Such More (Err OutOfMemory) so blames = tt

-- one of some names is one of more of them
pub served_later : (serves : Promised) (limit : ℕ) (first : List ℕ) (names : List (List ℕ)) (name : List ℕ)
    → IsUnservedIn serves limit names name → IsUnservedIn serves limit (first ∷ names) name
served_later serves limit first names name one =
    let at = one.0 in ((suc at.0, omega (arith, at.1), at.2), one.1)

pub place_blames : (serves : Promised) (names : List (List ℕ)) (place : ℕ) (complaint : Complaint)
    → place < length names → IsUnreadAt names place complaint → (ServesWhole serves (name_at names place) 65536 → ⊥)
    → Blames (IsUnservedIn serves 65536 names) complaint
place_blames serves names place Usage within at denied = tt
place_blames serves names place (Refused text) within at denied = tt
place_blames serves names place (Unreadable file) within at denied = (
  (place, within, same_at place names (name_text file) [] within ∙ sym at),
  λ promised. denied (subst (λ name. ServesWhole serves name 65536) at promised),
)
place_blames serves names place Unwritable within at denied = tt
place_blames serves names place OutOfMemory within at denied = tt
