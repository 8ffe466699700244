-- What follows for the status of a run from how its command ended: one lemma for each clause of
-- `run`.
use Rattle.std.proofs.Common.{◌≡◌, ◌≢◌, ℕ, ◌<◌, List, [], All, Contains, Option, None, Some, Result, Ok, Err, ◌⊎◌, inl, inr, refl, sym, ◌∙◌, ap, subst, codes, length, arith}
use Rattle.std.proofs.lemmas.List.Elements.{All-contains}
use Rattle.std.specs.Prelude.{IfErr, OnOk}
use Rattle.fux_port.specs.Files.{HasFile, IsMissing}
use Rattle.fux_port.specs.Promises.{Reads}
use Rattle.works.specs.declared.complaint.Complaint.{Complaint}
use Rattle.works.specs.declared.complaint.Complaint.TheVariants.{Usage, Refused, Unreadable, Unwritable, OutOfMemory}
use Rattle.works.specs.declared.work.Output.{Output}
use Rattle.works.specs.declared.work.Verdict.{Verdict}
use Rattle.works.specs.declared.work.Verdict.TheVariants.{Favorable, Unfavorable, Spent}
use Rattle.command_words.specs.Commands.{Task, whole_class, whole_files}
use Rattle.command_words.specs.declared.command.FileKind.{FileKind}
use Rattle.works.specs.TaskFiles.{name_in, names_in, names_within}
use Rattle.fux_run.specs.Tellings.{complaint_status, fux_line}
use Rattle.works.specs.Blame.{Blames, IsUnserved}
use Rattle.works.specs.Complaints.{name_text}
use Rattle.fux_run.specs.declared.status.Status.{Status}
use Rattle.fux_run.specs.declared.status.Status.TheVariants as status
use Rattle.works.specs.Endings.{Ended, IsCut, IsUnread, IsWritten, IsRefused, work_output}
use Rattle.fux_run.specs.Runs.{EndedAs, EndsAs, EndsUnread, IsDone, IsStopped, result_status, result_line}
use Rattle.fux_run.specs.Statuses.{code_of, verdict_status}
use Rattle.works.specs.Works.{AllHave, Files, IsOfCauses, IsReadyFor, TellsCauses, TellsNamedCauses, Works}
use Rattle.works.proofs.CheckLemmas.{part_is_there, refused_unready, written_is_there}
use Rattle.fux_run.proofs.SinkLemmas.{appended-none}
use Rattle.works.proofs.WorkLemmas.{all_are_there, first_is_missing, none_missing, only_bytes, works_so}

-- the status of an output is one of a run that wrote it
verdict_is_done : (verdict : Verdict) → IsDone (code_of (verdict_status verdict))
verdict_is_done Favorable = inl refl
verdict_is_done Unfavorable = inr (inl refl)
verdict_is_done Spent = inr (inr refl)

-- and no complaint's
done_is_none : (code : ℕ) (complaint : Complaint) → IsDone code → code ≡ code_of (complaint_status complaint) → ⊥
done_is_none code Usage done is = grind arith
done_is_none code (Refused text) done is = grind arith
done_is_none code (Unreadable name) done is = grind arith
done_is_none code Unwritable done is = grind arith
done_is_none code OutOfMemory done is = grind arith

done_not_stopped : (code : ℕ) → IsDone code → IsStopped code → ⊥
done_not_stopped code done stopped = grind arith

-- the report of a class that a run wrote
pub ran_causes : (list : List ℕ) (lesson : Option (List ℕ)) (kind : FileKind) (files : Files) (rose : Type 0)
    (Holds : Output → Type 0) (result : Result Verdict Complaint) (code : ℕ) → code ≡ code_of (result_status result) → IsDone code
    → IsOfCauses (whole_class list lesson kind) files rose (λ verdict. Holds) result
    → TellsCauses list lesson kind files rose Holds
ran_causes list lesson kind files rose Holds (Ok verdict) code status done told = told
ran_causes list lesson kind files rose Holds (Err complaint) code status done told =
    absurd (done_is_none code complaint done status)

pub ran_named_causes : (names : List (List ℕ)) (lesson : Option (List ℕ)) (kind : FileKind) (files : Files) (rose : Type 0)
    (Holds : Output → Type 0) (result : Result Verdict Complaint) (code : ℕ) → code ≡ code_of (result_status result)
    → IsDone code → IsOfCauses (whole_files names lesson kind) files rose (λ verdict. Holds) result
    → TellsNamedCauses names lesson kind files rose Holds
ran_named_causes names lesson kind files rose Holds (Ok verdict) code status done told = told
ran_named_causes names lesson kind files rose Holds (Err complaint) code status done told =
    absurd (done_is_none code complaint done status)

-- what holds of a run that wrote its output
pub ran_near : {Such : Type 0} (result : Result Verdict Complaint) (code : ℕ)
    → code ≡ code_of (result_status result) → IsDone code → OnOk result Such → Such
ran_near (Ok verdict) code status done such = such
ran_near (Err complaint) code status done such = absurd (done_is_none code complaint done status)

-- so many bytes could not be written
abbrev HasCut : (ℕ → Type 0) → Type 0
HasCut cut = (count : ℕ) × cut count

-- a run whose command ended so, with its status and its line
pub record Ran (task : Task) (files : Files) (rose : Type 0) (cut : ℕ → Type 0) (old new : Option (List ℕ))
    (result : Result Verdict Complaint)
    (code : ℕ) (Complains : List ℕ → Type 0) : Type 0 where
  pub ended : Ended task files rose cut old new result
  pub status : code ≡ code_of (result_status result)
  pub told : Complains (result_line result)

module _ (task : Task) (files : Files) (rose : Type 0) (cut : ℕ → Type 0) (old new : Option (List ℕ)) (code : ℕ)
    (Complains : List ℕ → Type 0) where
  done : (verdict : Verdict) → Ran task files rose cut old new (Ok verdict) code Complains → IsDone code
  done verdict ran = subst IsDone (sym ran.status) (verdict_is_done verdict)

  pub ran_works : (result : Result Verdict Complaint) → Ran task files rose cut old new result code Complains → code ≢ 4
      → code ≢ 7
      → Works task files (EndsAs (name_in task) code cut old new Complains)
  ran_works (Ok verdict) ran read room =
      works_so task files (IsWritten old new verdict) (EndsAs (name_in task) code cut old new Complains)
      (λ work on. rw on.is (inl (
        ran.status
            ∙ ap (λ v. code_of (verdict_status v)) (sym on.verdict),
        on.written,
        ran.told,
      ))) ran.ended
  ran_works (Err (Refused text)) ran read room =
      works_so task files (IsRefused (name_in task) text) (EndsAs (name_in task) code cut old new Complains)
      (λ work on. rw on.is (inl (ran.status, ran.ended.0 ∙ sym (appended-none old), rw (← on.told) ran.told)))
      ran.ended.1
  ran_works (Err Unwritable) ran read room =
      works_so task files (IsCut cut old new) (EndsAs (name_in task) code cut old new Complains)
      (λ work part. inr (ran.status, part, ran.told)) ran.ended
  ran_works (Err (Unreadable name)) ran read room = absurd (read ran.status)
  ran_works (Err OutOfMemory) ran read room = absurd (room ran.status)
  ran_works (Err Usage) ran read room = absurd ran.ended

  pub ran_unreadable : (serves : Reads) (result : Result Verdict Complaint)
      → Ran task files rose cut old new result code Complains
      → IfErr result (Blames (IsUnserved serves files task)) → code ≡ 4
      → EndsUnread task files serves rose Complains
  ran_unreadable serves (Ok verdict) ran blames four =
      absurd (done_not_stopped 4 (rw four at (done verdict ran)) (inr (inr (inl refl))))
  ran_unreadable serves (Err (Unreadable name)) ran blames four =
      record { name = name_text name; unread = ran.ended.1; unserved = blames; told = ran.told }
  ran_unreadable serves (Err (Refused text)) ran blames four = cc (ran.status, four)
  ran_unreadable serves (Err Unwritable) ran blames four = cc (ran.status, four)
  ran_unreadable serves (Err OutOfMemory) ran blames four = cc (ran.status, four)
  ran_unreadable serves (Err Usage) ran blames four = absurd ran.ended

  pub ran_missing : (result : Result Verdict Complaint) → Ran task files rose cut old new result code Complains
      → (name : List ℕ) → Contains (names_in task) name → IsMissing files name → code ≢ 7 → code ≡ 4
  ran_missing (Ok verdict) ran name one missing room =
      absurd (none_missing task files (IsWritten old new verdict) name ran.ended one missing)
  ran_missing (Err (Refused text)) ran name one missing room =
      absurd (none_missing task files (IsRefused (name_in task) text) name ran.ended.1 one missing)
  ran_missing (Err Unwritable) ran name one missing room =
      absurd (none_missing task files (IsCut cut old new) name ran.ended one missing)
  ran_missing (Err (Unreadable file)) ran name one missing room = ran.status
  ran_missing (Err OutOfMemory) ran name one missing room = absurd (room ran.status)
  ran_missing (Err Usage) ran name one missing room = absurd ran.ended

  pub ran_missing_within : (result : Result Verdict Complaint) → Ran task files rose cut old new result code Complains
      → (bytes : List (List ℕ)) → AllHave files (names_in task) bytes
      → (name : List ℕ) → Contains (names_within task bytes) name → IsMissing files name → code ≢ 7
      → (code ≡ 4) ⊎ ((code ≡ 3) × (IsReadyFor task bytes → ⊥))
  ran_missing_within (Ok verdict) ran bytes have name one missing room =
      absurd (written_is_there task files name bytes old new verdict have ran.ended one missing)
  ran_missing_within (Err (Refused text)) ran bytes have name one missing room =
      inr (ran.status, λ ready. refused_unready task files bytes text name have ran.ended.1 one missing ready)
  ran_missing_within (Err Unwritable) ran bytes have name one missing room =
      absurd (part_is_there task files name bytes cut old new have ran.ended one missing)
  ran_missing_within (Err (Unreadable file)) ran bytes have name one missing room = inl ran.status
  ran_missing_within (Err OutOfMemory) ran bytes have name one missing room = absurd (room ran.status)
  ran_missing_within (Err Usage) ran bytes have name one missing room = absurd ran.ended

  pub ran_of_form : (result : Result Verdict Complaint) → Ran task files rose cut old new result code Complains
      → code ≢ 2
  ran_of_form (Ok verdict) ran two = done_is_none 2 Usage (rw two at (done verdict ran)) refl
  ran_of_form (Err (Refused text)) ran two = cc (ran.status, two)
  ran_of_form (Err (Unreadable name)) ran two = cc (ran.status, two)
  ran_of_form (Err Unwritable) ran two = cc (ran.status, two)
  ran_of_form (Err OutOfMemory) ran two = cc (ran.status, two)
  ran_of_form (Err Usage) ran two = ran.ended

  pub ran_unwritable : (result : Result Verdict Complaint) → Ran task files rose cut old new result code Complains
      → code ≡ 5
      → HasCut cut × Complains (fux_line (codes "cannot write"))
  ran_unwritable (Ok verdict) ran five = absurd (done_is_none 5 Unwritable (rw five at (done verdict ran)) refl)
  ran_unwritable (Err Unwritable) ran five =
      ((length (work_output ran.ended.work), ran.ended.holds.cause), ran.told)
  ran_unwritable (Err (Refused text)) ran five = cc (ran.status, five)
  ran_unwritable (Err (Unreadable name)) ran five = cc (ran.status, five)
  ran_unwritable (Err OutOfMemory) ran five = cc (ran.status, five)
  ran_unwritable (Err Usage) ran five = absurd ran.ended

  pub ran_memory : (result : Result Verdict Complaint) → Ran task files rose cut old new result code Complains → code
      ≡ 7
      → Complains (fux_line (codes "out of memory"))
  ran_memory (Ok verdict) ran seven = absurd (done_is_none 7 OutOfMemory (rw seven at (done verdict ran)) refl)
  ran_memory (Err OutOfMemory) ran seven = ran.told
  ran_memory (Err Unwritable) ran seven = cc (ran.status, seven)
  ran_memory (Err (Refused text)) ran seven = cc (ran.status, seven)
  ran_memory (Err (Unreadable name)) ran seven = cc (ran.status, seven)
  ran_memory (Err Usage) ran seven = absurd ran.ended

  -- files that are there can be read where no read fails
  unread_rose : (names : List (List ℕ)) (name : List ℕ) → All (λ n. (file : List ℕ) × HasFile files n file) names
      → (rose → ⊥)
      → IsUnread files rose names name → ⊥
  unread_rose names name there reads unread =
      elim unread.cause [
        | inl rose ↦ reads rose
        | inr first ↦
            let file = All-contains (λ n. (file : List ℕ) × HasFile files n file) names name there unread.asked in
            let missing = first_is_missing files names name first in
            cc (file.1, missing)
      ]

  pub ran_complete : (result : Result Verdict Complaint) → Ran task files rose cut old new result code Complains
      → (bytes : List (List ℕ)) → AllHave files (names_in task) bytes
      → All (λ name. (file : List ℕ) × HasFile files name file) (names_within task bytes) → (rose → ⊥)
      → ((count : ℕ) → cut count → ⊥)
      → IsDone code ⊎ ((code ≡ 3) ⊎ (code ≡ 7))
  ran_complete (Ok verdict) ran bytes have within reads writes = inl (done verdict ran)
  ran_complete (Err (Refused text)) ran bytes have within reads writes = inr (inl ran.status)
  ran_complete (Err Unwritable) ran bytes have within reads writes = absurd (writes (length (work_output ran.ended.work)) ran.ended.holds.cause)
  ran_complete (Err OutOfMemory) ran bytes have within reads writes = inr (inr ran.status)
  ran_complete (Err Usage) ran bytes have within reads writes = absurd ran.ended
  ran_complete (Err (Unreadable name)) ran bytes have within reads writes =
      elim ran.ended.1 [
        | inl before ↦
            absurd (unread_rose (names_in task) (name_text name) (all_are_there files (names_in task) bytes have) reads before)
        | inr later ↦
            let same = only_bytes files (names_in task) bytes later.bytes have later.had in
            absurd (unread_rose (names_within task bytes) (name_text name) within reads (rw same at later.unread))
      ]

  pub ran_unwritten : (result : Result Verdict Complaint) → Ran task files rose cut old new result code Complains
      → IsStopped code → new ≡ old
  ran_unwritten (Ok verdict) ran stopped = absurd (done_not_stopped code (done verdict ran) stopped)
  ran_unwritten (Err (Refused text)) ran stopped = ran.ended.0
  ran_unwritten (Err (Unreadable name)) ran stopped = ran.ended.0
  ran_unwritten (Err OutOfMemory) ran stopped = ran.ended
  ran_unwritten (Err Unwritable) ran stopped = absurd (not_cut ran.status stopped)
    where
      not_cut : code ≡ 5 → IsStopped code → ⊥
      not_cut five stopped = grind arith
  ran_unwritten (Err Usage) ran stopped = absurd ran.ended

  pub ran_silent : (result : Result Verdict Complaint) → Ran task files rose cut old new result code Complains
      → IsDone code → Complains []
  ran_silent (Ok verdict) ran is = ran.told
  ran_silent (Err complaint) ran is = absurd (done_is_none code complaint is ran.status)

-- ---- the same of a run on any words

-- a run on words that ask for this, or for nothing, with its status and its line
pub record RanAs (found : Option Task) (files : Files) (rose : Type 0) (cut : ℕ → Type 0) (old new : Option (List ℕ))
    (result : Result Verdict Complaint)
    (code : ℕ) (Complains : List ℕ → Type 0) : Type 0 where
  pub ended : EndedAs found files rose cut old new result
  pub status : code ≡ code_of (result_status result)
  pub told : Complains (result_line result)

code_is_small : (status : Status) → code_of status < 8
code_is_small status.Favorable = omega arith
code_is_small status.Unfavorable = omega arith
code_is_small status.Usage = omega arith
code_is_small status.Refused = omega arith
code_is_small status.Unreadable = omega arith
code_is_small status.Unwritable = omega arith
code_is_small status.Spent = omega arith
code_is_small status.OutOfMemory = omega arith

module _ (files : Files) (rose : Type 0) (cut : ℕ → Type 0) (old new : Option (List ℕ)) (code : ℕ) (Complains : List ℕ → Type 0) where
  pub of_task : (found : Option Task) (task : Task) (result : Result Verdict Complaint) → found ≡ Some task
      → RanAs found files rose cut old new result code Complains → Ran task files rose cut old new result code Complains
  of_task found task result is ran = record { ended = rw is at ran.ended; status = ran.status; told = ran.told }

  some : (task : Task) (result : Result Verdict Complaint)
      → RanAs (Some task) files rose cut old new result code Complains
      → Ran task files rose cut old new result code Complains
  some task result ran = record { ended = ran.ended; status = ran.status; told = ran.told }

  pub run_known : (found : Option Task) (result : Result Verdict Complaint)
      → RanAs found files rose cut old new result code Complains → code < 8
  run_known found result ran = rw ran.status (code_is_small (result_status result))

  pub run_usage : (found : Option Task) (result : Result Verdict Complaint)
      → RanAs found files rose cut old new result code Complains
      → code ≡ 2 → found ≡ None
  run_usage None result ran two = refl
  run_usage (Some task) result ran two =
      absurd (ran_of_form task files rose cut old new code Complains result (some task result ran) two)

  pub run_form : (found : Option Task) (result : Result Verdict Complaint)
      → RanAs found files rose cut old new result code Complains
      → found ≡ None → code ≢ 7 → code ≡ 2
  run_form (Some task) result ran is room = cc
  run_form None (Err Usage) ran is room = ran.status
  run_form None (Err OutOfMemory) ran is room = absurd (room ran.status)
  run_form None (Ok verdict) ran is room = absurd ran.ended.1
  run_form None (Err (Refused text)) ran is room = absurd ran.ended.1
  run_form None (Err (Unreadable name)) ran is room = absurd ran.ended.1
  run_form None (Err Unwritable) ran is room = absurd ran.ended.1

  pub run_usage_line : (found : Option Task) (result : Result Verdict Complaint)
      → RanAs found files rose cut old new result code Complains
      → code ≡ 2 → Complains (fux_line (codes "usage"))
  run_usage_line (Some task) result ran two =
      absurd (ran_of_form task files rose cut old new code Complains result (some task result ran) two)
  run_usage_line None (Err Usage) ran two = ran.told
  run_usage_line None (Err OutOfMemory) ran two = cc (ran.status, two)
  run_usage_line None (Ok verdict) ran two = absurd ran.ended.1
  run_usage_line None (Err (Refused text)) ran two = absurd ran.ended.1
  run_usage_line None (Err (Unreadable name)) ran two = absurd ran.ended.1
  run_usage_line None (Err Unwritable) ran two = absurd ran.ended.1

  pub run_memory_line : (found : Option Task) (result : Result Verdict Complaint)
      → RanAs found files rose cut old new result code Complains
      → code ≡ 7 → Complains (fux_line (codes "out of memory"))
  run_memory_line (Some task) result ran seven =
      ran_memory task files rose cut old new code Complains result (some task result ran) seven
  run_memory_line None (Err OutOfMemory) ran seven = ran.told
  run_memory_line None (Err Usage) ran seven = cc (ran.status, seven)
  run_memory_line None (Ok verdict) ran seven = absurd ran.ended.1
  run_memory_line None (Err (Refused text)) ran seven = absurd ran.ended.1
  run_memory_line None (Err (Unreadable name)) ran seven = absurd ran.ended.1
  run_memory_line None (Err Unwritable) ran seven = absurd ran.ended.1

  pub run_unwritable : (found : Option Task) (result : Result Verdict Complaint)
      → RanAs found files rose cut old new result code Complains
      → code ≡ 5 → HasCut cut × Complains (fux_line (codes "cannot write"))
  run_unwritable (Some task) result ran five =
      ran_unwritable task files rose cut old new code Complains result (some task result ran) five
  run_unwritable None (Err OutOfMemory) ran five = cc (ran.status, five)
  run_unwritable None (Err Usage) ran five = cc (ran.status, five)
  run_unwritable None (Ok verdict) ran five = absurd ran.ended.1
  run_unwritable None (Err (Refused text)) ran five = absurd ran.ended.1
  run_unwritable None (Err (Unreadable name)) ran five = absurd ran.ended.1
  run_unwritable None (Err Unwritable) ran five = absurd ran.ended.1

  pub run_unwritten : (found : Option Task) (result : Result Verdict Complaint)
      → RanAs found files rose cut old new result code Complains
      → IsStopped code → new ≡ old
  run_unwritten (Some task) result ran stopped =
      ran_unwritten task files rose cut old new code Complains result (some task result ran) stopped
  run_unwritten None result ran stopped = ran.ended.0

  pub run_silent : (found : Option Task) (result : Result Verdict Complaint)
      → RanAs found files rose cut old new result code Complains
      → IsDone code → Complains []
  run_silent (Some task) result ran is =
      ran_silent task files rose cut old new code Complains result (some task result ran) is
  run_silent None (Ok verdict) ran is = ran.told
  run_silent None (Err complaint) ran is = absurd (done_is_none code complaint is ran.status)
