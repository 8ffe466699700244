-- Behind a head of the second form a reader of entries stands (`first_entered`); each entry is
-- taken (`entered_more`), then the line `claims` (`entered_whole`), behind which a reader of claims
-- stands (`claims_opened`), or the text has a fault (`entered_fault`).
use Rattle.std.proofs.Common.{◌≡◌, ℕ, ◌-◌, ◌<◌, ◌≤◌, inl, true, false, nat_lt, List, [], ◌∷◌, ◌++◌, Option, Some, Result, Ok, Err, length, refl, sym, ap, subst, ◌∙◌, arith, append_assoc, append-nil, length-append}
use Rattle.std.proofs.lemmas.Bool.Decides.{nat_tests}
use Rattle.std.proofs.lemmas.List.{flat_map_more}
use Rattle.std.specs.List.{AllByRecursion, flat_map}
use Rattle.cert_check.specs.Answers.{Answers, unstarted}
use Rattle.cert_check.specs.Entering.{Enters, HasStated, unclosed}
use Rattle.cert_check.specs.Settings.{HasStatedFault, IsOpeningText, Numbers, RefusesFront}
use Rattle.cert_check.specs.Starts.{IsEntered, IsStarted, IsStatedWhole}
use Rattle.cert_file.specs.Subjects.{IsOpened}
use Rattle.cert_check.specs.Stating.{Stating, TellsFalse, stating_for}
use Rattle.cert_check.specs.declared.stated.CloseFault.{CloseFault}
use Rattle.cert_check.specs.declared.stated.CloseFault.TheVariants as closing
use Rattle.cert_file.proofs.JudgingLemmas.{begins_front}
use Rattle.cert_file.specs.declared.fault.ReadFault.{ReadFault}
use Rattle.cert_file.specs.declared.fault.ReadFault.TheVariants.{Text, Unreadable}
use Rattle.cert_file.specs.declared.verdict.Verdict.TheVariants as verdict
use Rattle.cert_file.specs.Readings.{Begins, FaultAtLine, Files, MayBe, Piece, Stated, longest_certificate, reading_from}
use Rattle.cert_file.specs.StatedReadings.{GivesNextStated, GivesStated, HasGiven, IsAtClaims, IsAtStated, StatedReading, owed_line, stated_from}
use Rattle.cert_file.proofs.LineLemmas.{begins_judged}
use Rattle.cert_file.proofs.PieceLemmas.{nothing_begins}
use Rattle.cert_file.proofs.StatedLemmas.{nothing_begins_owed}
use Rattle.cert_law.specs.Certificates.{IsHeadSound}
use Rattle.cert_law.specs.Entries.{entry_count}
use Rattle.cert_text.specs.declared.answers.CertFault.{CertFault}
use Rattle.cert_text.specs.declared.answers.CertFault.TheVariants.{CertHead as WrongHead, CertWord, CertEnd, Memory}
use Rattle.cert_text.specs.declared.answers.CertHead.{CertHead}
use Rattle.cert_text.specs.declared.answers.Form.TheVariants.{Second}
use Rattle.cert_text.specs.declared.answers.Refused.{Refused}
use Rattle.cert_text.specs.declared.potential.Potential.{Potential}
use Rattle.cert_text.specs.PotentialReading.{owes_potential}
use Rattle.cert_text.specs.Potentials.{IsPotential, last_line, potential_line}
use Rattle.fux_grid.specs.declared.exercise.Exercise.{Exercise}
use Rattle.penalty_sheet.specs.declared.sheet.Sheet.{Sheet}

module _ (ex : Exercise) (files : Files) (name : List ℕ) (head : CertHead) where
  pub first_entered : (piece : Piece) (count : ℕ) → IsStarted ex files name Second head piece → count ≡ entry_count ex
      → IsEntered ex files name head [] (stated_from (piece.offset - length piece.ahead) count piece.ahead piece.offset)
  first_entered piece count started all = record {
    front = started.front;
    heads = started.heads;
    fits = tt;
    at = record {
      begins = subst (λ xs. MayBe files name (Begins (xs ++ piece.ahead))) (sym (append-nil started.front))
          started.at.begins;
      next = omega (arith, started.at.offset, ap length (append-nil started.front));
      clear = refl;
      more = refl;
      line = nothing_begins_owed (nat_lt 0 count);
      unended = tt;
      offset = omega (arith, started.at.offset, ap length (append-nil started.front));
    };
    given = refl;
    count = all;
    few = omega arith;
  }

  module _ (entries : List Potential) (reader : StatedReading) (on : IsEntered ex files name head entries reader) where
    abbrev lines : List ℕ
    lines = flat_map potential_line entries

    -- what the reader gives, over the files that stood at the start
    pub given_there : (files_now : Files) (rose : Type 0) (after : StatedReading)
        (result : Result (Option Potential) ReadFault)
        → files_now ≡ files → GivesNextStated files_now name rose reader after result
        → GivesStated files name rose (on.front ++ flat_map potential_line entries) reader after result
    given_there files_now rose after result same gives =
        subst (λ fs. GivesStated fs name rose (on.front ++ lines) reader after result) same
        (gives (on.front ++ lines) (subst (λ fs. IsAtStated fs name (on.front ++ lines) reader) (sym same) on.at))

    -- which line is owed is known by how many entries were stated
    owes-counted : owes_potential reader.entries ≡ nat_lt (length entries) (entry_count ex)
    owes-counted = ap (λ n. nat_lt n reader.entries.count) on.given ∙ ap (λ n. nat_lt (length entries) n) on.count

    pub room : owes_potential reader.entries ≡ true → length entries < entry_count ex
    room owes =
        let less : nat_lt (length entries) (entry_count ex) ≡ true = sym owes-counted ∙ owes in
        grind (arith, nat_tests, less)

    full : owes_potential reader.entries ≡ false → length entries ≡ entry_count ex
    full owes =
        let not_less : nat_lt (length entries) (entry_count ex) ≡ false = sym owes-counted ∙ owes in
        let most : entry_count ex ≤ length entries = grind (arith, nat_tests, not_less) in
        omega (arith, most, on.few)

    pub entered_more : (p : Potential) (after : StatedReading) → IsPotential p → owes_potential reader.entries ≡ true
        → IsAtStated files name ((on.front ++ flat_map potential_line entries) ++ potential_line p) after
        → HasGiven reader after 1
        → IsEntered ex files name head (entries ++ p ∷ []) after
    entered_more p after fits owes at given = record {
      front = on.front;
      heads = on.heads;
      fits = all_more entries on.fits;
      at = subst (λ xs. IsAtStated files name xs after) (flat_map_more potential_line on.front entries p) at;
      given = omega (arith, given.given, on.given, length-append entries (p ∷ []));
      count = given.count ∙ on.count;
      few = omega (arith, room owes, length-append entries (p ∷ []));
    }
      where
        all_more : (es : List Potential) → AllByRecursion IsPotential es → AllByRecursion IsPotential (es ++ p ∷ [])
        all_more [] all = (fits, tt)
        all_more (e ∷ es) all = (all.0, all_more es all.1)

    pub entered_whole : (after : StatedReading) → owes_potential reader.entries ≡ false
        → IsAtClaims files name ((on.front ++ flat_map potential_line entries) ++ last_line) after
        → IsStatedWhole ex files name head entries after
    entered_whole after owes at = record {
      opening = (on.front ++ lines) ++ last_line;
      opens = record {
        front = on.front;
        heads = on.heads;
        fits = (full owes, on.fits);
        is = append_assoc on.front lines last_line;
        short = tt;
      };
      at = at;
    }

    pub entered_fault : (sheet : Sheet) (fault : CertFault) → IsHeadSound ex sheet head
        → MayBe files name (FaultAtLine (owed_line reader) (on.front ++ flat_map potential_line entries) fault)
        → MayBe files name (HasStatedFault ex sheet head fault)
    entered_fault sheet fault sound known = record {
      bytes = known.bytes;
      had = known.had;
      such = record {
        sound = sound;
        front = on.front;
        heads = on.heads;
        entries = entries;
        few = on.few;
        fits = on.fits;
        fault_at = subst (λ b. FaultAtLine (Stated b) (on.front ++ lines) fault known.bytes) owes-counted known.such;
      };
    }

  pub claims_opened : (entries : List Potential) (reader : StatedReading)
      → IsStatedWhole ex files name head entries reader
      → IsOpened (IsOpeningText ex) files name (record { head = head; stated = Numbers (Some entries) })
      (reading_from (reader.offset - length reader.ahead) reader.ahead reader.offset)
  claims_opened entries reader is = record {
    front = is.opening;
    heads = is.opens;
    at = record {
      begins = is.at.begins;
      next = omega (arith, is.at.offset);
      clear = refl;
      line = nothing_begins;
      unended = tt;
      offset = omega (arith, is.at.offset);
    };
  }

-- a read failed, or the text has a fault where a line is owed
pub enters_fault : (files : Files) (name : List ℕ) (rose later : Type 0) (old s new : Stating)
    (reader after next : StatedReading) (fault : ReadFault) (on : IsEntered s.exercise files name s.head s.entries reader)
    → HasStated old s → IsHeadSound old.exercise old.sheet old.head → (later → rose)
    → GivesStated files name later (on.front ++ flat_map potential_line s.entries) reader after (Err fault)
    → Enters files name rose old new next (Err fault)
enters_fault files name rose later old s new reader after next Unreadable on same sound so it = so it
enters_fault files name rose later old s new reader after next (Text fault) on same sound so it =
    subst (λ (t : Stating). MayBe files name (HasStatedFault t.exercise t.sheet t.head fault)) same
    (entered_fault s.exercise files name s.head s.entries reader on s.sheet fault
    (subst (λ (t : Stating). IsHeadSound t.exercise t.sheet t.head) (sym same) sound) it)

-- ---- what is answered

-- where not all that is stated was taken
pub entered_answer : (files : Files) (name : List ℕ) (rose : Type 0) (old new : Stating) (after : StatedReading)
    (fault : ReadFault) → Enters files name rose old new after (Err fault)
    → Answers old.exercise old.sheet files name rose (unstarted fault)
entered_answer files name rose old new after Unreadable failed = inl failed
entered_answer files name rose old new after (Text (WrongHead at)) known = absurd known.such.fault_at
entered_answer files name rose old new after (Text (CertWord at)) known = record {
  bytes = known.bytes;
  had = known.had;
  such = inl (old.head, known.such);
}
entered_answer files name rose old new after (Text (CertEnd at)) known = record {
  bytes = known.bytes;
  had = known.had;
  such = inl (old.head, known.such);
}
entered_answer files name rose old new after (Text Memory) known = tt

-- where an entry isn't true
module _ (ex : Exercise) (files : Files) (name : List ℕ) (head : CertHead) (sheet : Sheet) (rose : Type 0) where
  untrue_answer : (entries : List Potential) (reader : StatedReading) (refused : Refused) → IsHeadSound ex sheet head
      → IsStatedWhole ex files name head entries reader → reader.offset ≤ longest_certificate
      → TellsFalse (stating_for ex sheet head entries) (closing.Refused refused)
      → Answers ex sheet files name rose (Ok (verdict.Claim refused))
  untrue_answer entries reader refused sound is limit why = record {
    bytes = is.at.begins.bytes;
    had = is.at.begins.had;
    such = inl (
      head,
      subst (λ (r : Refused). RefusesFront ex sheet head r.number r.why is.at.begins.bytes) (sym why.2) record {
        sound = sound;
        entries = entries;
        opening = is.opening;
        opens = is.opens;
        begins = begins_judged is.at.begins.bytes is.opening (omega (arith, is.at.offset, limit))
            (begins_front is.at.begins.bytes is.opening _ is.at.begins.such);
        before = why.0;
        numbered = refl;
        first = why.1;
      },
    );
  }

  pub closed_answer : (entries : List Potential) (reader : StatedReading) (fault : CloseFault)
      → IsHeadSound ex sheet head
      → IsStatedWhole ex files name head entries reader → reader.offset ≤ longest_certificate
      → TellsFalse (stating_for ex sheet head entries) fault
      → Answers ex sheet files name rose (unclosed fault)
  closed_answer entries reader (closing.Refused refused) sound is limit why =
      untrue_answer entries reader refused sound is limit why
  closed_answer entries reader closing.Memory sound is limit why = tt
