-- What is answered where no head stands at the front (`starts_answer`), where the head isn't sound
-- (`opening_answer`), and where claims are judged (`judged_answer`).
use Rattle.std.proofs.Common.{◌≡◌, ◌⊎◌, inl, inr, ℕ, List, Result, Ok, Err, ap}
use Rattle.std.specs.Prelude.{IfOk}
use Rattle.cert_file.specs.Readings.{Files, Reading}
use Rattle.cert_file.specs.declared.fault.ReadFault.{ReadFault}
use Rattle.cert_file.specs.declared.fault.ReadFault.TheVariants.{Text, Unreadable}
use Rattle.cert_file.specs.declared.verdict.Verdict.{Verdict}
use Rattle.cert_file.specs.declared.verdict.Verdict.TheVariants as verdict
use Rattle.cert_text.specs.declared.answers.CertFault.TheVariants.{CertHead as WrongHead, CertWord, CertEnd, Memory}
use Rattle.cert_text.specs.declared.answers.Refused.{Refused}
use Rattle.cantus_space.specs.declared.plan.CantusPlan.{CantusPlan}
use Rattle.cantus_check.specs.declared.head.CantusHead.{CantusHead}
use Rattle.cantus_check.specs.Heads.{IsHeadText, Said}
use Rattle.cantus_check.proofs.HeadRows.{heads-alone}
use Rattle.cantus_check.specs.declared.checker.CantusOpen.{CantusOpen}
use Rattle.cantus_check.specs.declared.checker.CantusOpen.TheVariants as opening
use Rattle.cantus_check.specs.declared.checking.CantusFault.{CantusFault}
use Rattle.cantus_check.specs.declared.checking.CantusFault.TheVariants as check
use Rattle.cantus_check.specs.Answers.{Answers, unopened, unstarted}
use Rattle.cantus_check.specs.Starts.{Starts}
use Rattle.cantus_check.specs.Topics.{TellsWhy, cantus_subject}
use Rattle.cantus_check.proofs.RefusedLemmas.{cantus_once}
use Rattle.cert_file.specs.Judgments.{AcceptsValid, Finds, Shows}
use Rattle.cert_file.specs.Subjects.{IsOpened}
use Rattle.cert_file.proofs.JudgingLemmas.{begins_front}
use Rattle.cert_file.proofs.OneVerdict.{accepted_answer}

module _ (plan : CantusPlan) (files : Files) (name : List ℕ) (rose : Type 0) where
  pub starts_answer : (fault : ReadFault) → Starts files name rose (Err fault) → Answers plan files name rose (unstarted fault)
  starts_answer Unreadable starts = starts
  starts_answer (Text (WrongHead at)) starts =
      record { bytes = starts.bytes; had = starts.had; such = inl starts.such }
  starts_answer (Text (CertWord at)) starts = absurd starts
  starts_answer (Text (CertEnd at)) starts = absurd starts
  starts_answer (Text Memory) starts = tt

  pub opening_answer : (said : Said) (reader : Reading) (fault : CantusOpen) → IsOpened IsHeadText files name said reader
      → TellsWhy plan said fault → Answers plan files name rose (unopened fault)
  opening_answer said reader (opening.Refused refused) started why = record {
    bytes = started.at.begins.bytes;
    had = started.at.begins.had;
    such = inl (
      ap (λ (r : Refused). r.why) why.1,
      record {
        numbered = ap (λ (r : Refused). r.number) why.1;
        said = said;
        front = started.front;
        begins = begins_front started.at.begins.bytes started.front _ started.at.begins.such;
        heads = started.heads;
        unsound = why.0;
      },
    );
  }
  opening_answer said reader opening.Memory started why = tt

  -- what judging found is the answer
  pub judged_answer : (said : Said) (it : Verdict) → Finds (cantus_subject plan) said files name it
      → Shows (cantus_subject plan) said it → Answers plan files name rose (Ok it)
  judged_answer said it finds shown = record {
    bytes = finds.bytes;
    had = finds.had;
    such = inr (record { head = said; finds = finds.such; shown = shown });
  }

  -- by the answer each valid certificate is accepted
  pub accepts_valid : (result : Result Verdict CantusFault) → Answers plan files name rose result
      → IfOk result (λ it. (said : Said) → AcceptsValid (cantus_subject plan) said files name it)
  accepts_valid (Ok it) answers = accepted_answer (cantus_subject plan) heads-alone (cantus_once plan) files name {E = CantusFault} (Ok it) answers
  accepts_valid (Err fault) answers = tt

pub unstarted_missing : (read : Result (CantusHead × Reading) ReadFault) (fault : ReadFault) → read ≡ Err fault
    → (read ≡ Err Unreadable) ⊎ (read ≡ Err (Text Memory))
    → (unstarted fault ≡ Err check.Unreadable) ⊎ (unstarted fault ≡ Err check.Memory)
unstarted_missing read fault is (inl e) = let same : fault ≡ Unreadable = cc in inl (ap unstarted same)
unstarted_missing read fault is (inr e) = let same : fault ≡ Text Memory = cc in inr (ap unstarted same)
