-- How a run ends that makes something and then writes it (`made_written`, `made_cut`, `not_made`), and
-- that nothing is to be told of causes where no such class is reported (`no_causes`).
use Rattle.std.proofs.Common.{◌≡◌, ℕ, List, Option, Result, Ok, Err, OnOk, length, refl, sym, subst}
use Rattle.fux_port.specs.Written.{StopsShort, appended}
use Rattle.command_words.specs.Commands.{Task, making_task}
use Rattle.command_words.specs.declared.command.Making.{Making}
use Rattle.command_words.specs.declared.command.Making.TheVariants.{Class}
use Rattle.works.specs.declared.complaint.Complaint.{Complaint}
use Rattle.works.specs.declared.complaint.Complaint.TheVariants.{Usage, Refused, Unreadable, Unwritable, OutOfMemory}
use Rattle.works.specs.declared.work.Output.{Output}
use Rattle.works.specs.Endings.{Ended, IsCut, IsMade, IsWritten}
use Rattle.works.specs.Works.{Files, IsOfCauses}
use Rattle.works.proofs.WorkLemmas.{works_so}

module _ (task : Task) (files : Files) (rose : Type 0) (cut : ℕ → Type 0) (old new : Option (List ℕ)) where
  pub made_written : (output : Output) → IsMade task files rose (Ok output) → new ≡ appended old output.bytes
      → Ended task files rose cut old new (Ok output.verdict)
  made_written output made all =
      works_so task files (λ work. work ≡ Ok output) (IsWritten old new output.verdict)
      (λ work is. record { output = output; is = is; verdict = refl; written = all }) made

  pub made_cut : (output : Output) → IsMade task files rose (Ok output) → cut (length output.bytes)
      → StopsShort old new output.bytes → Ended task files rose cut old new (Err Unwritable)
  made_cut output made why part =
      works_so task files (λ work. work ≡ Ok output) (IsCut cut old new)
      (λ work is. subst (IsCut cut old new) (sym is) (record { cause = why; front = part })) made

  pub not_made : (complaint : Complaint) → new ≡ old → IsMade task files rose (Err complaint)
      → Ended task files rose cut old new (Err complaint)
  not_made (Refused text) same made = (same, made)
  not_made (Unreadable name) same made = (same, made)
  not_made OutOfMemory same made = same
  not_made Usage same made = made
  not_made Unwritable same made = absurd made

-- what is to be told of nothing
pub each_end : {A E : Type 0} (result : Result A E) → OnOk result (Unit {0})
each_end (Ok answer) = tt
each_end (Err fault) = tt

pub no_causes : {A E : Type 0} (making : Making) (files : Files) (rose : Type 0) (Holds : A → Output → Type 0)
    (result : Result A E) → IsOfCauses (making_task making) files rose Holds result
no_causes (Class list) files rose Holds result = tt
no_causes _ files rose Holds result = tt
