-- What `certify` writes: the certificate of a head that holds (`all_written`, `part_written`,
-- `too_long` by numbers; `priced_whole`, `priced_cut`, `priced_long` by prices), and what it is of the
-- exercise's best setting (`of_best`, `of_none`, `of_bound`).
use Rattle.std.proofs.Common.{◌≡◌, ℕ, ◌<◌, ◌≤◌, ◌^◌, List, [], ◌∷◌, Option, None, Result, Ok, Err, length, inl, inr, refl, subst, sym}
use Rattle.std.specs.Prelude.{IfSome}
use Rattle.std.specs.List.{AllByRecursion}
use Rattle.std.proofs.lemmas.Bool.Decides.{leb_tells}
use Rattle.cert_law.specs.Certificates.{Holds}
use Rattle.cert_law.specs.Writer.{written_certificate}
use Rattle.cert_law.proofs.FloorFacts.{floors_hold}
use Rattle.cert_law.proofs.WrittenClaims.{written_is_valid}
use Rattle.cert_law.proofs.WrittenEntries.{stated_are_rests}
use Rattle.cert_law.specs.Rests.{entries_of, stated_in}
use Rattle.cert_text.specs.declared.answers.CertHead.{CertHead}
use Rattle.cert_text.specs.declared.answers.CertHead.TheVariants.{Best, Nothing}
use Rattle.cert_text.specs.declared.answers.Form.{Form}
use Rattle.cert_text.specs.declared.answers.Form.TheVariants.{First, Second, Third}
use Rattle.cert_text.specs.HeadRows.{IsUpTo}
use Rattle.cert_text.specs.Potentials.{IsPotential}
use Rattle.fux_grid.specs.declared.exercise.Exercise.{Exercise}
use Rattle.fux_grid.specs.Exercises.{IsValid}
use Rattle.fux_grid.specs.Grid.{Grid}
use Rattle.floor_tables.specs.Tables.{Task as Searched}
use Rattle.fux_port.specs.Written.{StopsShort, appended}
use Rattle.penalty_sheet.specs.declared.sheet.Sheet.{Sheet}
use Rattle.fux_grid.specs.declared.cell.Cell.{Cell}
use Rattle.cert_writer.specs.Certificates.{IsCut as IsPricedCut, IsOverlong as IsPricedLong, IsWhole, OfPriced}
use Rattle.works.specs.declared.complaint.Complaint.{Complaint}
use Rattle.works.specs.declared.complaint.Complaint.TheVariants.{Usage, Refused, Unreadable, Unwritable, OutOfMemory}
use Rattle.class_marker.specs.declared.one.Text.{Text as Content}
use Rattle.command_words.specs.Commands.{Task, certify}
use Rattle.works.specs.TaskFiles.{as_list, limit_in, name_in, names_in}
use Rattle.works.specs.Works.{AllMayHave, AreContents, AreRead, CertifiesText, Files, Makes, Works}
use Rattle.works.proofs.CertificateTexts.{none_acceptable, setting_acceptable}
use Rattle.works.proofs.MakeLemmas.{have_bytes}
use Rattle.works.specs.declared.refusal.Refusal.TheVariants as refusal
use Rattle.works.specs.declared.work.Halt.{Halt}
use Rattle.works.specs.declared.work.Halt.TheVariants as halt
use Rattle.works.specs.declared.work.Stop.{Stop}
use Rattle.works.specs.declared.work.Stop.TheVariants as stop
use Rattle.works.specs.declared.work.Verdict.{Verdict}
use Rattle.works.specs.declared.work.Verdict.TheVariants.{Favorable, Unfavorable, Spent}
use Rattle.works.specs.Certified.{Certifies, CertifiesHead, IsAcceptable, IsCertificateByNumbers, IsCertificateOf}
use Rattle.works.specs.Composed.{IsBoundText, bound_line}
use Rattle.works.specs.Endings.{Does, Ended, IsCut, IsWritten, SaysWritten, Writes}
use Rattle.works.specs.declared.searching.Found.TheVariants as found
use Rattle.works.specs.Searched.{IsBestFor, IsBestFound, IsBestOf, IsBoundFor, IsFoundFor, IsNarrow, IsNothingFor, IsSpaceOf}
use Rattle.works.specs.Sheets.{ReadsSheet, sheet_said}
use Rattle.class_marker.specs.Markings.{IsContent, IsTheText}
use Rattle.works.specs.Texts.{Work}

within : (bytes : List ℕ) → (1073741824 < length bytes → ⊥) → length bytes ≤ 1073741824
within bytes short = elim (leb_tells (length bytes) 1073741824) [ inl few ↦ few.1 | inr many ↦ absurd (short many.1) ]

-- a certificate of a head is the output, of so many bytes at most, or a front of it was written; or it
-- is too long
module _ (ex : Exercise) (sheet : Sheet) (form : Form) (head : CertHead) (verdict : Verdict) (cut : ℕ → Type 0)
    (old new : Option (List ℕ)) (bytes : List ℕ) (certificate : IsCertificateOf ex sheet form head bytes) where
  pub whole_written : length bytes ≤ 1073741824 → new ≡ appended old bytes
      → Writes (CertifiesHead ex sheet form head verdict) cut old new (Ok verdict)
  whole_written short all = record {
    work = Ok record { verdict = verdict; bytes = bytes };
    made = (refl, certificate, short);
    holds = record {
      output = record { verdict = verdict; bytes = bytes };
      is = refl;
      verdict = refl;
      written = all;
    };
  }

  pub front_written : length bytes ≤ 1073741824 → cut (length bytes) → StopsShort old new bytes
      → Writes (CertifiesHead ex sheet form head verdict) cut old new (Err halt.Unwritable)
  front_written short why part = record {
    work = Ok record { verdict = verdict; bytes = bytes };
    made = (refl, certificate, short);
    holds = record { cause = why; front = part };
  }

  pub none_written : 1073741824 < length bytes → new ≡ old
      → Writes (CertifiesHead ex sheet form head verdict) cut old new
      (Err (halt.Stopped (stop.Refused refusal.LongCertificate)))
  none_written long none = (none, (bytes, certificate, long))

-- the certificate by numbers of a head that holds
module _ (ex : Exercise) (sheet : Sheet) (head : CertHead) (verdict : Verdict) (valid : IsValid ex)
    (small : AllByRecursion IsPotential (entries_of ex sheet)) (holds : Holds ex sheet head)
    (cut : ℕ → Type 0) (old new : Option (List ℕ)) where
  stated_small : (form : Form) → IfSome (stated_in form ex sheet) (AllByRecursion IsPotential)
  stated_small First = tt
  stated_small Second = small
  stated_small Third = tt

  by_numbers : (form : Form) → IsCertificateByNumbers ex sheet form head (written_certificate ex sheet form head)
  by_numbers form = record {
    valid =
        written_is_valid ex sheet valid (floors_hold ex valid sheet) head (stated_in form ex sheet)
        (stated_are_rests ex sheet form) holds;
    small = stated_small form;
    written = refl;
  }

  its_certificate : (form : Form) → IsUpTo Second form
      → IsCertificateOf ex sheet form head (written_certificate ex sheet form head)
  its_certificate First numbers = by_numbers First
  its_certificate Second numbers = by_numbers Second
  its_certificate Third numbers = absurd numbers

  module _ (form : Form) (numbers : IsUpTo Second form) where
    pub all_written : (1073741824 < length (written_certificate ex sheet form head) → ⊥) → new
        ≡ appended old (written_certificate ex sheet form head)
        → Writes (CertifiesHead ex sheet form head verdict) cut old new (Ok verdict)
    all_written short all =
        whole_written ex sheet form head verdict cut old new (written_certificate ex sheet form head) (its_certificate form numbers)
        (within (written_certificate ex sheet form head) short) all

    pub part_written : (1073741824 < length (written_certificate ex sheet form head) → ⊥)
        → cut (length (written_certificate ex sheet form head))
        → StopsShort old new (written_certificate ex sheet form head)
        → Writes (CertifiesHead ex sheet form head verdict) cut old new (Err halt.Unwritable)
    part_written short why part =
        front_written ex sheet form head verdict cut old new (written_certificate ex sheet form head) (its_certificate form numbers)
        (within (written_certificate ex sheet form head) short) why part

    pub too_long : 1073741824 < length (written_certificate ex sheet form head) → new ≡ old
        → Writes (CertifiesHead ex sheet form head verdict) cut old new
        (Err (halt.Stopped (stop.Refused refusal.LongCertificate)))
    too_long long none =
        none_written ex sheet form head verdict cut old new (written_certificate ex sheet form head) (its_certificate form numbers) long none

-- the certificate by prices
module _ (ex : Exercise) (sheet : Sheet) (head : CertHead) (verdict : Verdict) (cut : ℕ → Type 0)
    (old new : Option (List ℕ)) where
  pub priced_whole : OfPriced ex sheet head (IsWhole old new)
      → Writes (CertifiesHead ex sheet Third head verdict) cut old new (Ok verdict)
  priced_whole it =
      whole_written ex sheet Third head verdict cut old new it.bytes it.certificate it.ends.0 it.ends.1

  pub priced_cut : OfPriced ex sheet head (IsPricedCut cut old new)
      → Writes (CertifiesHead ex sheet Third head verdict) cut old new (Err halt.Unwritable)
  priced_cut it =
      front_written ex sheet Third head verdict cut old new it.bytes it.certificate it.ends.0 it.ends.1 it.ends.2

  pub priced_long : OfPriced ex sheet head IsPricedLong → new ≡ old
      → Writes (CertifiesHead ex sheet Third head verdict) cut old new
      (Err (halt.Stopped (stop.Refused refusal.LongCertificate)))
  priced_long it none =
      none_written ex sheet Third head verdict cut old new it.bytes it.certificate it.ends none

-- what is written so is written of other work too, where all of the one is of the other
pub writes_so : (Made Made' : Work → Type 0) (cut : ℕ → Type 0) (old new : Option (List ℕ)) (result : Result Verdict Halt)
    → ((work : Work) → Made work → Made' work) → Writes Made cut old new result → Writes Made' cut old new result
writes_so Made Made' cut old new (Ok verdict) so wrote =
    record { work = wrote.work; made = so wrote.work wrote.made; holds = wrote.holds }
writes_so Made Made' cut old new (Err (halt.Stopped (stop.Refused said))) so wrote = (wrote.0, so (Err said) wrote.1)
writes_so Made Made' cut old new (Err (halt.Stopped stop.Memory)) so wrote = wrote
writes_so Made Made' cut old new (Err halt.Unwritable) so wrote =
    record { work = wrote.work; made = so wrote.work wrote.made; holds = wrote.holds }

-- what is found for a form is the best setting
module _ (budget : ℕ) (sheet : Sheet) (ex : Exercise) where
  is_best : (form : Form) (s : List (List Cell)) (penalty : ℕ) → IsBestFor form ex sheet budget s penalty
      → IsBestOf ex sheet s penalty
  is_best First s penalty best = record { best = best.best; charged = best.charged }
  is_best Second s penalty best = record { best = best.best; charged = best.charged }
  is_best Third s penalty best = best

  pub setting_holds : (form : Form) (score : Grid) (penalty : ℕ)
      → IsFoundFor form ex sheet budget (found.Best score penalty) → Holds ex sheet (Best penalty score)
  setting_holds form score penalty is =
      let best = is_best form score.columns penalty is.best in (
        record { lawful = best.best.lawful; least = best.best.least; first = best.best.first },
        sym best.charged,
      )

module _ (budget : ℕ) (form : Form) (sheet : Sheet) (ex : Exercise) (valid : IsValid ex) (unmixed : ex.mixed ≡ None)
    (narrow : IsNarrow ex) where
  its_text : (score : Grid) (penalty : ℕ) → IsBestFound ex (IsBestFor form ex sheet budget) score penalty
      → penalty < 2 ^ 64 → (bytes : List ℕ) → IsCertificateOf ex sheet form (Best penalty score) bytes
      → IsAcceptable ex sheet form (Best penalty score) bytes
  its_text score penalty best below bytes =
      setting_acceptable ex sheet valid unmixed form score penalty bytes below
      (is_best budget sheet ex form score.columns penalty best.best).best.lawful best.cantus best.complete

  pub of_best : (score : Grid) (penalty : ℕ) → IsBestFound ex (IsBestFor form ex sheet budget) score penalty
      → penalty < 2 ^ 64 → (work : Work)
      → CertifiesHead ex sheet form (Best penalty score) Favorable work → Certifies budget form sheet ex work
  of_best score penalty best below (Ok output) made = record {
    narrow = narrow;
    shows = rw made.0 record {
      score = score;
      penalty = penalty;
      best = best;
      certificate = made.1;
      acceptable = its_text score penalty best below output.bytes made.1;
    };
    fits = λ other. made.2;
  }
  of_best score penalty best below (Err refusal.LongCertificate) made = record {
    narrow = narrow;
    verdict = Favorable;
    found = λ is. cc is;
    bytes = made.0;
    shows = record {
      score = score;
      penalty = penalty;
      best = best;
      certificate = made.1;
      acceptable = its_text score penalty best below made.0 made.1;
    };
    long = made.2;
  }
  of_best score penalty best below (Err (refusal.TooWide place count)) made = absurd made
  of_best score penalty best below (Err (refusal.Text kind line column)) made = absurd made
  of_best score penalty best below (Err refusal.NoSetting) made = absurd made
  of_best score penalty best below (Err refusal.LargeGraph) made = record {
    narrow = narrow;
    third = made.0;
    found = inl (record { score = score; penalty = penalty; best = best });
    large = made.1;
  }
  of_best score penalty best below (Err (refusal.Lesson kind line column)) made = absurd made
  of_best score penalty best below (Err (refusal.List line)) made = absurd made
  of_best score penalty best below (Err (refusal.Canon line)) made = absurd made
  of_best score penalty best below (Err (refusal.With voice)) made = absurd made
  of_best score penalty best below (Err (refusal.Sheet fault)) made = absurd made
  of_best score penalty best below (Err (refusal.Midi fault)) made = absurd made
  of_best score penalty best below (Err (refusal.Join fault)) made = absurd made

  pub of_none : IsNothingFor form ex sheet budget → (work : Work)
      → CertifiesHead ex sheet form Nothing Unfavorable work → Certifies budget form sheet ex work
  of_none none (Ok output) made = record {
    narrow = narrow;
    shows = rw made.0 record {
      none = none;
      certificate = made.1;
      acceptable = none_acceptable ex sheet valid unmixed form output.bytes made.1;
    };
    fits = λ other. made.2;
  }
  of_none none (Err refusal.LongCertificate) made = record {
    narrow = narrow;
    verdict = Unfavorable;
    found = λ is. cc is;
    bytes = made.0;
    shows = record {
      none = none;
      certificate = made.1;
      acceptable = none_acceptable ex sheet valid unmixed form made.0 made.1;
    };
    long = made.2;
  }
  of_none none (Err (refusal.TooWide place count)) made = absurd made
  of_none none (Err (refusal.Text kind line column)) made = absurd made
  of_none none (Err refusal.NoSetting) made = absurd made
  of_none none (Err refusal.LargeGraph) made =
      record { narrow = narrow; third = made.0; found = inr none; large = made.1 }
  of_none none (Err (refusal.Lesson kind line column)) made = absurd made
  of_none none (Err (refusal.List line)) made = absurd made
  of_none none (Err (refusal.Canon line)) made = absurd made
  of_none none (Err (refusal.With voice)) made = absurd made
  of_none none (Err (refusal.Sheet fault)) made = absurd made
  of_none none (Err (refusal.Midi fault)) made = absurd made
  of_none none (Err (refusal.Join fault)) made = absurd made

  pub of_bound : (bound : ℕ) → IsBoundFor form ex sheet budget bound → (work : Work) → IsBoundText bound work
      → Certifies budget form sheet ex work
  of_bound bound is (Ok output) made = record {
    narrow = narrow;
    shows = rw made.0 record { bound = bound; is_bound = is; spelled = made.1 };
    fits = λ other. absurd (other made.0);
  }
  of_bound bound is (Err refusal) made = absurd made

-- what is written of a space that was searched is written of its exercise
module _ (budget : ℕ) (form : Form) (sheet : Sheet) (ex : Exercise) (space : Searched) (valid : IsValid ex)
    (unmixed : ex.mixed ≡ None) where
  pub none_certified : (cut : ℕ → Type 0) (old new : Option (List ℕ)) (result : Result Verdict Halt)
      → IsSpaceOf ex sheet space
      → IsFoundFor form space.exercise space.sheet budget found.Nothing
      → Writes (CertifiesHead space.exercise space.sheet form Nothing Unfavorable) cut old new result
      → Writes (Certifies budget form sheet ex) cut old new result
  none_certified cut old new result is =
      subst
      (λ s. IsFoundFor form s.exercise s.sheet budget found.Nothing
      → Writes (CertifiesHead s.exercise s.sheet form Nothing Unfavorable) cut old new result
      → Writes (Certifies budget form sheet ex) cut old new result)
      (sym is.0)
      (λ none. writes_so (CertifiesHead ex sheet form Nothing Unfavorable) (Certifies budget form sheet ex) cut old new result
      (of_none budget form sheet ex valid unmixed is.1 none))

  pub best_certified : (score : Grid) (penalty : ℕ) (cut : ℕ → Type 0) (old new : Option (List ℕ)) (result : Result Verdict Halt)
      → IsSpaceOf ex sheet space
      → IsFoundFor form space.exercise space.sheet budget (found.Best score penalty) → penalty < 2 ^ 64
      → Writes (CertifiesHead space.exercise space.sheet form (Best penalty score) Favorable) cut old new result
      → Writes (Certifies budget form sheet ex) cut old new result
  best_certified score penalty cut old new result is found_so below =
      subst
      (λ s. IsFoundFor form s.exercise s.sheet budget (found.Best score penalty)
      → Writes (CertifiesHead s.exercise s.sheet form (Best penalty score) Favorable) cut old new result
      → Writes (Certifies budget form sheet ex) cut old new result)
      (sym is.0)
      (λ best. writes_so (CertifiesHead ex sheet form (Best penalty score) Favorable) (Certifies budget form sheet ex) cut old new
      result (of_best budget form sheet ex valid unmixed is.1 score penalty best below)) found_so

  pub bound_told : (bound : ℕ) (cut : ℕ → Type 0) (old new : Option (List ℕ)) (result : Result Verdict Halt)
      → IsSpaceOf ex sheet space
      → IsFoundFor form space.exercise space.sheet budget (found.Spent bound)
      → Writes (IsBoundText bound) cut old new result → Writes (Certifies budget form sheet ex) cut old new result
  bound_told bound cut old new result is =
      subst
      (λ s. IsFoundFor form s.exercise s.sheet budget (found.Spent bound) → Writes (IsBoundText bound) cut old new result
      → Writes (Certifies budget form sheet ex) cut old new result)
      (sym is.0)
      (λ told. writes_so (IsBoundText bound) (Certifies budget form sheet ex) cut old new result
      (of_bound budget form sheet ex valid unmixed is.1 bound told))

pub bound_written : (bound : ℕ) (cut : ℕ → Type 0) (old new : Option (List ℕ)) → new ≡ appended old (bound_line bound)
    → Writes (IsBoundText bound) cut old new (Ok Spent)
bound_written bound cut old new all = record {
  work = Ok record { verdict = Spent; bytes = bound_line bound };
  made = (refl, refl);
  holds = record {
    output = record { verdict = Spent; bytes = bound_line bound };
    is = refl;
    verdict = refl;
    written = all;
  };
}

pub bound_part : (bound : ℕ) (cut : ℕ → Type 0) (old new : Option (List ℕ)) → cut (length (bound_line bound))
    → StopsShort old new (bound_line bound) → Writes (IsBoundText bound) cut old new (Err halt.Unwritable)
bound_part bound cut old new why part = record {
  work = Ok record { verdict = Spent; bytes = bound_line bound };
  made = (refl, refl);
  holds = record { cause = why; front = part };
}

-- ---- how the run of it ends

does_works : (task : Task) (files : Files) (bytes : List (List ℕ)) (Holds : Work → Type 0)
    → AllMayHave files (names_in task) bytes
    → Does (Makes task files bytes) Holds → Works task files Holds
does_works task files bytes Holds had does =
    record { bytes = bytes; had = had; work = does.work; made = does.made; holds = does.holds }

pub ended_said : (task : Task) (files : Files) (rose : Type 0) (cut : ℕ → Type 0) (contents : List Content) (old new : Option (List ℕ))
    (answer : Result Verdict Halt) (told : Result Verdict Complaint)
    → AreRead (limit_in task) files (names_in task) contents
    → ((bytes : List (List ℕ)) → AreContents (limit_in task) contents bytes
    → Writes (Makes task files bytes) cut old new answer)
    → SaysWritten (name_in task) answer told → Ended task files rose cut old new told
ended_said task files rose cut contents old new (Ok verdict) told read wrote says =
    let known = have_bytes (limit_in task) files (names_in task) contents read in
    rw says (does_works task files known.bytes (IsWritten old new verdict) known.had (wrote known.bytes known.content))
ended_said task files rose cut contents old new (Err (halt.Stopped (stop.Refused refusal))) (Err (Refused text)) read
    wrote says =
    let known = have_bytes (limit_in task) files (names_in task) contents read in
    let none = wrote known.bytes known.content in (
      none.0,
      record {
        bytes = known.bytes;
        had = known.had;
        work = Err refusal;
        made = none.1;
        holds = record { refusal = refusal; is = refl; told = says };
      },
    )
ended_said task files rose cut contents old new (Err (halt.Stopped (stop.Refused refusal))) (Err OutOfMemory) read wrote
    says =
    let known = have_bytes (limit_in task) files (names_in task) contents read in
    (wrote known.bytes known.content).0
ended_said task files rose cut contents old new (Err (halt.Stopped (stop.Refused refusal))) (Err Usage) read wrote
    says = absurd says
ended_said task files rose cut contents old new (Err (halt.Stopped (stop.Refused refusal))) (Err (Unreadable name)) read
    wrote says = absurd says
ended_said task files rose cut contents old new (Err (halt.Stopped (stop.Refused refusal))) (Err Unwritable) read wrote
    says = absurd says
ended_said task files rose cut contents old new (Err (halt.Stopped (stop.Refused refusal))) (Ok verdict) read wrote
    says = absurd says
ended_said task files rose cut contents old new (Err (halt.Stopped stop.Memory)) told read wrote says =
    let known = have_bytes (limit_in task) files (names_in task) contents read in
    rw says (wrote known.bytes known.content)
ended_said task files rose cut contents old new (Err halt.Unwritable) told read wrote says =
    let known = have_bytes (limit_in task) files (names_in task) contents read in
    rw says (does_works task files known.bytes (IsCut cut old new) known.had (wrote known.bytes known.content))

pub of_texts : (files : Files) (name : List ℕ) (sheet : Option (List ℕ)) (budget : ℕ) (form : Form) (text : Content)
    (weights : Option Content) (cut : ℕ → Type 0)
    (old new : Option (List ℕ)) (answer : Result Verdict Halt)
    → ((bytes : List ℕ) (sheets : List (List ℕ)) → IsContent 65536 text bytes
    → AreContents 65536 (as_list weights) sheets
    → Writes (CertifiesText budget form sheets bytes) cut old new answer)
    → (all : List (List ℕ)) → AreContents 65536 (text ∷ as_list weights) all
    → Writes (Makes (certify name sheet budget form) files all) cut old new answer
of_texts files name sheet budget form text weights cut old new answer wrote (bytes ∷ sheets) content =
    wrote bytes sheets content.0 content.1
of_texts files name sheet budget form text weights cut old new answer wrote [] content = absurd content

-- ---- the texts of an exercise and of a sheet

pub of_sheet : (budget : ℕ) (form : Form) (sheets : List (List ℕ)) (bytes : List ℕ) (ex : Exercise) (sheet : Sheet) (cut : ℕ → Type 0)
    (old new : Option (List ℕ)) (answer : Result Verdict Halt) → IsTheText bytes ex → sheet_said sheets ≡ Ok sheet
    → Writes (Certifies budget form sheet ex) cut old new answer
    → Writes (CertifiesText budget form sheets bytes) cut old new answer
of_sheet budget form sheets bytes ex sheet cut old new answer text said =
    writes_so (Certifies budget form sheet ex) (CertifiesText budget form sheets bytes) cut old new answer
    (λ work made. inl record {
      exercise = ex;
      text = text;
      made = inl record { sheet = sheet; said = said; made = made };
    })

-- and where the sheet is refused, so is the whole
pub no_sheet : (budget : ℕ) (form : Form) (sheets : List (List ℕ)) (bytes : List ℕ) (ex : Exercise) (why : Stop) (cut : ℕ → Type 0)
    (old : Option (List ℕ)) (answer : Result Verdict Halt) → IsTheText bytes ex → ReadsSheet sheets (Err why)
    → answer ≡ Err (halt.Stopped why) → Writes (CertifiesText budget form sheets bytes) cut old old answer
no_sheet budget form sheets bytes ex (stop.Refused refusal) cut old answer text cause e = rw e (
  refl,
  inl record {
    exercise = ex;
    text = text;
    made = inr record { refusal = refusal; is = refl; cause = cause };
  },
)
no_sheet budget form sheets bytes ex stop.Memory cut old answer text cause e = rw e refl
