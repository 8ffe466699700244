-- What is answered where no head stands at the front (`starts_answer`), where the head isn't sound
-- (`opening_answer`), and where claims are judged (`judged_answer`).
use Rattle.std.proofs.Common.{◌≡◌, ◌≢◌, ◌⊎◌, ◌-◌, inl, inr, arith, append-nil, length, ℕ, List, None, Result, Ok, Err, refl, ap, subst, sym}
use Rattle.std.specs.Prelude.{IfErr, IfOk, OnOk}
use Rattle.cert_check.specs.declared.checker.OpenFault.{OpenFault}
use Rattle.cert_check.specs.declared.checker.OpenFault.TheVariants as opening
use Rattle.cert_check.specs.Opening.{TellsWhy}
use Rattle.cert_file.specs.declared.fault.ReadFault.TheVariants.{Text, Unreadable}
use Rattle.cert_file.specs.declared.fault.ReadFault.{ReadFault}
use Rattle.cert_file.specs.Readings.{Files, MayBe, Piece, reading_from}
use Rattle.cert_file.proofs.PieceLemmas.{nothing_begins}
use Rattle.cert_check.specs.Entering.{unclosed}
use Rattle.cert_check.specs.Listed.{unwoven}
use Rattle.cert_check.specs.Settings.{Asked, HasLargeLists, IsListed, IsOpeningText, IsVerdictOn, Numbers, Opening, RefusesFront, setting_subject}
use Rattle.cert_check.specs.Starts.{IsStarted, IsUnread, Starts}
use Rattle.cert_file.specs.Subjects.{IsOpened}
use Rattle.cert_text.specs.declared.answers.CertFault.TheVariants.{CertHead as WrongHead, CertWord, CertEnd, Memory}
use Rattle.cert_text.specs.declared.answers.CertHead.{CertHead}
use Rattle.cert_text.specs.declared.answers.Form.{Form}
use Rattle.cert_text.specs.declared.answers.Form.TheVariants.{First, Second, Third}
use Rattle.cert_text.specs.declared.answers.Refused.{Refused}
use Rattle.cert_text.specs.HeadRows.{IsUpTo}
use Rattle.cert_check.specs.Answers.{Answers, IsHeadless, TellsNoWidth, unfilled, unopened, unstarted}
use Rattle.cert_check.specs.declared.checking.CheckFault.{CheckFault}
use Rattle.cert_check.specs.declared.stated.CloseFault.{CloseFault}
use Rattle.cert_check.specs.declared.stated.CloseFault.TheVariants as closing
use Rattle.fux_port.specs.Files.{IsMissing}
use Rattle.cert_file.specs.Judgments.{Finds, Shows}
use Rattle.cert_check.specs.declared.checking.CheckFault.TheVariants as check
use Rattle.cert_file.specs.declared.verdict.Verdict.{Verdict}
use Rattle.cert_file.specs.declared.verdict.Verdict.TheVariants as verdict
use Rattle.cert_file.proofs.JudgingLemmas.{begins_front}
use Rattle.chain_sums.specs.declared.tables.TableFault.{TableFault}
use Rattle.chain_sums.specs.declared.tables.TableFault.TheVariants as filling
use Rattle.floor_tables.specs.Tables.{AreNarrow, IsTooWide, TellsWidth}
use Rattle.fux_grid.specs.declared.exercise.Exercise.{Exercise}
use Rattle.fux_grid.specs.declared.exercise.Place.{Place}
use Rattle.penalty_sheet.specs.declared.sheet.Sheet.{Sheet}
use Rattle.priced_paths.specs.declared.states.WebFault.{WebFault}
use Rattle.priced_paths.specs.declared.states.WebFault.TheVariants as woven

not_too_wide : (ex : Exercise) (place : Place) (count : ℕ) → AreNarrow ex → IsTooWide ex place count → ⊥
not_too_wide ex place count narrow wide = omega (arith, narrow wide.column wide.within, wide.width, wide.wide)

module _ (ex : Exercise) (sheet : Sheet) (files : Files) (name : List ℕ) (rose : Type 0) where
  pub starts_answer : (fault : ReadFault) → Starts ex files name rose (Err fault)
      → Answers ex sheet files name rose (unstarted fault)
  starts_answer Unreadable starts = starts
  starts_answer (Text (WrongHead at)) starts =
      record { bytes = starts.bytes; had = starts.had; such = inl (inl starts.such) }
  starts_answer (Text (CertWord at)) starts = absurd starts
  starts_answer (Text (CertEnd at)) starts = absurd starts
  starts_answer (Text Memory) starts = tt

  -- behind a head of the first or the second form no lists are owed
  none_listed : (form : Form) (head : CertHead) (bytes : List ℕ) → IsUpTo Second form → IsListed ex form head bytes
  none_listed First head bytes early = tt
  none_listed Second head bytes early = tt
  none_listed Third head bytes early = absurd early

  unsound_answer : (form : Form) (head : CertHead) (piece : Piece) (refused : Refused) → IsUpTo Second form
      → IsStarted ex files name form head piece
      → TellsWhy ex sheet head (opening.Refused refused) → Answers ex sheet files name rose (Ok (verdict.Claim refused))
  unsound_answer form head piece refused early started why = record {
    bytes = started.at.begins.bytes;
    had = started.at.begins.had;
    such = inl (
      head,
      subst (λ (r : Refused). RefusesFront ex sheet head r.number r.why started.at.begins.bytes) (sym why.2) record {
        numbered = refl;
        form = form;
        front = started.front;
        begins = begins_front started.at.begins.bytes started.front _ started.at.begins.such;
        heads = started.heads;
        listed = none_listed form head started.at.begins.bytes early;
        unsound = why.1;
      },
    );
  }

  pub opening_answer : (form : Form) (head : CertHead) (piece : Piece) (fault : OpenFault) → IsUpTo Second form
      → IsStarted ex files name form head piece
      → TellsWhy ex sheet head fault → Answers ex sheet files name rose (unopened fault)
  opening_answer form head piece (opening.TooWide place count) early started why = why
  opening_answer form head piece (opening.Refused refused) early started why =
      unsound_answer form head piece refused early started why
  opening_answer form head piece opening.Memory early started why = tt

  pub unfilled_answer : (fault : TableFault) → TellsWidth ex fault → Answers ex sheet files name rose (unfilled fault)
  unfilled_answer (filling.TooWide place count) told = told
  unfilled_answer filling.Memory told = tt

  -- the same, where the files are those of before, and a count of faults that rose since rose from
  -- before
  pub answers_moved : (earlier : Files) (first : Type 0) (result : Result Verdict CheckFault) → files ≡ earlier
      → (rose → first)
      → Answers ex sheet files name rose result → Answers ex sheet earlier name first result
  answers_moved earlier first (Ok it) same so made =
      subst (λ fs. MayBe fs name (IsVerdictOn ex sheet it)) same made
  answers_moved earlier first (Err check.Unreadable) same so (inl failed) = inl (so failed)
  answers_moved earlier first (Err check.Unreadable) same so (inr missing) =
      inr (subst (λ fs. IsMissing fs name) same missing)
  answers_moved earlier first (Err (check.TooWide place count)) same so made = made
  answers_moved earlier first (Err check.TooLarge) same so made =
      subst (λ fs. MayBe fs name (HasLargeLists ex sheet)) same made
  answers_moved earlier first (Err check.Memory) same so made = tt

  -- no menu is told to be too wide where none is
  pub narrow_answer : (result : Result Verdict CheckFault) → Answers ex sheet files name rose result → AreNarrow ex
      → IfErr result TellsNoWidth
  narrow_answer (Ok it) made narrow = tt
  narrow_answer (Err check.Unreadable) made narrow = tt
  narrow_answer (Err (check.TooWide place count)) made narrow = not_too_wide ex place count narrow made
  narrow_answer (Err check.TooLarge) made narrow = tt
  narrow_answer (Err check.Memory) made narrow = tt

-- ---- which answers come where no menu is too wide, and where one is

-- where no head was read, nothing else is told than that none stands there
pub unstarted_headless : (ex : Exercise) (files : Files) (name : List ℕ) (rose : Type 0) (fault : ReadFault)
    → Starts ex files name rose (Err fault) → IfOk (unstarted fault) IsHeadless
unstarted_headless ex files name rose Unreadable starts = tt
unstarted_headless ex files name rose (Text (WrongHead at)) starts = (at, refl)
unstarted_headless ex files name rose (Text (CertWord at)) starts = absurd starts
unstarted_headless ex files name rose (Text (CertEnd at)) starts = absurd starts
unstarted_headless ex files name rose (Text Memory) starts = tt

-- where there are verdicts only where no menu is too wide, there is none where one is
pub narrow_headless : (ex : Exercise) (result : Result Verdict CheckFault) → OnOk result (AreNarrow ex)
    → (AreNarrow ex → ⊥) → IfOk result IsHeadless
narrow_headless ex (Ok it) narrow wide = absurd (wide narrow)
narrow_headless ex (Err fault) narrow wide = tt

-- a head that was read is read
pub started_read : (found : Form × CertHead × Piece) → IsUnread (Ok found) → ⊥
started_read found (inl e) = cc
started_read found (inr e) = cc

pub unstarted_missing : (read : Result (Form × CertHead × Piece) ReadFault) (fault : ReadFault) → read ≡ Err fault
    → (read ≡ Err Unreadable) ⊎ (read ≡ Err (Text Memory))
    → (unstarted fault ≡ Err check.Unreadable) ⊎ (unstarted fault ≡ Err check.Memory)
unstarted_missing read fault is (inl e) = let same : fault ≡ Unreadable = cc in inl (ap unstarted same)
unstarted_missing read fault is (inr e) = let same : fault ≡ Text Memory = cc in inr (ap unstarted same)

-- where a head isn't taken, a verdict is that it isn't sound, and no menu is too wide
pub unopened_narrow : (ex : Exercise) (sheet : Sheet) (head : CertHead) (fault : OpenFault) → TellsWhy ex sheet head fault
    → OnOk (unopened fault) (AreNarrow ex)
unopened_narrow ex sheet head (opening.TooWide place count) why = tt
unopened_narrow ex sheet head (opening.Refused refused) why = why.0
unopened_narrow ex sheet head opening.Memory why = tt

-- where no tables are filled, there is no verdict
pub unfilled_narrow : (ex : Exercise) (fault : TableFault) → OnOk (unfilled fault) (AreNarrow ex)
unfilled_narrow ex (filling.TooWide place count) = tt
unfilled_narrow ex filling.Memory = tt

-- ---- where no shelf is blamed

pub unstarted_served : (fault : ReadFault) → fault ≢ Unreadable → IfErr (unstarted fault) (λ it. it ≢ check.Unreadable)
unstarted_served Unreadable served = absurd (served refl)
unstarted_served (Text (WrongHead at)) served = tt
unstarted_served (Text (CertWord at)) served = tt
unstarted_served (Text (CertEnd at)) served = tt
unstarted_served (Text Memory) served = λ e. cc

pub unfilled_served : (fault : TableFault) → IfErr (unfilled fault) (λ it. it ≢ check.Unreadable)
unfilled_served (filling.TooWide place count) = λ e. cc
unfilled_served filling.Memory = λ e. cc

pub unopened_served : (fault : OpenFault) → IfErr (unopened fault) (λ it. it ≢ check.Unreadable)
unopened_served (opening.TooWide place count) = λ e. cc
unopened_served (opening.Refused refused) = tt
unopened_served opening.Memory = λ e. cc

pub unclosed_served : (fault : CloseFault) → IfErr (unclosed fault) (λ it. it ≢ check.Unreadable)
unclosed_served (closing.Refused refused) = tt
unclosed_served closing.Memory = λ e. cc

pub unwoven_served : (fault : WebFault) → unwoven fault ≢ check.Unreadable
unwoven_served woven.TooLarge = λ e. cc
unwoven_served woven.Memory = λ e. cc

-- ---- behind a head

-- behind a head of the first form a reader of claims stands
pub first_opened : (ex : Exercise) (files : Files) (name : List ℕ) (head : CertHead) (piece : Piece)
    → IsStarted ex files name First head piece
    → IsOpened (IsOpeningText ex) files name (record { head = head; stated = Numbers None })
    (reading_from (piece.offset - length piece.ahead) piece.ahead piece.offset)
first_opened ex files name head piece started = record {
  front = started.front;
  heads = record {
    front = started.front;
    heads = started.heads;
    fits = tt;
    is = sym (append-nil started.front);
    short = tt;
  };
  at = record {
    begins = started.at.begins;
    next = omega (arith, started.at.offset);
    clear = refl;
    line = nothing_begins;
    unended = tt;
    offset = omega (arith, started.at.offset);
  };
}

-- what judging found is the answer
pub judged_answer : (asked : Asked) (opening : Opening) (files : Files) (name : List ℕ) (rose : Type 0) (it : Verdict)
    → Finds (setting_subject asked) opening files name it → Shows (setting_subject asked) opening it
    → Answers asked.exercise asked.sheet files name rose (Ok it)
judged_answer asked opening files name rose it finds shown = record {
  bytes = finds.bytes;
  had = finds.had;
  such = inr (record { head = opening; finds = finds.such; shown = shown });
}
