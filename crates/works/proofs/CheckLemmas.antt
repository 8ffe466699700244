-- What `check` makes of its files (`checked_said`), and that no certificate whose verdict is told
-- is missing (`written_is_there`, `part_is_there`).
use Rattle.std.proofs.Common.{◌≡◌, ◌≢◌, ◌⊎◌, ℕ, zero, suc, ◌<◌, List, [], ◌∷◌, Contains, Option, Result, Ok, Err, get_or, inl, inr, refl, ap, sym, subst, ◌∙◌, arith}
use Rattle.cert_file.specs.Readings.{MayBe}
use Rattle.cert_text.specs.declared.answers.CertHead.{CertHead}
use Rattle.cert_check.specs.Answers.{Answers}
use Rattle.cert_check.specs.Settings.{HasLargeLists, IsVerdictOn}
use Rattle.cert_check.specs.declared.checking.CheckFault.{CheckFault}
use Rattle.cert_check.specs.declared.checking.CheckFault.TheVariants as fault
use Rattle.cert_check.proofs.RefusedLemmas.{one_verdict}
use Rattle.cert_file.proofs.TextLemmas.{such_of}
use Rattle.cert_check.specs.Settings as cert
use Rattle.cert_file.specs.declared.verdict.Verdict.{Verdict as CertVerdict}
use Rattle.cert_file.specs.declared.verdict.Verdict.TheVariants.{Accepted, Claim, Text}
use Rattle.fux_grid.specs.declared.exercise.Exercise.{Exercise}
use Rattle.fux_grid.specs.Exercises.{IsValid}
use Rattle.fux_port.specs.Files.{IsMissing}
use Rattle.fux_port.specs.Written.{StopsShort}
use Rattle.penalty_sheet.specs.declared.sheet.Sheet.{Sheet}
use Rattle.works.specs.declared.complaint.Complaint.{Complaint}
use Rattle.works.specs.declared.complaint.Complaint.TheVariants.{Usage, Refused, Unreadable, Unwritable, OutOfMemory}
use Rattle.class_marker.specs.declared.one.Text.{Text as Content}
use Rattle.works.specs.declared.work.Output.{Output}
use Rattle.works.specs.declared.work.Stop.TheVariants as stop
use Rattle.works.specs.declared.work.Unmade.{Unmade}
use Rattle.works.specs.declared.work.Unmade.TheVariants as unmade
use Rattle.works.specs.declared.work.Verdict.{Verdict}
use Rattle.works.specs.declared.work.Verdict.TheVariants.{Favorable, Unfavorable}
use Rattle.cantus_check.specs.Answers.{IsVerdictOn as IsCantusVerdict}
use Rattle.command_words.specs.declared.command.Wanted.{Wanted}
use Rattle.works.specs.CantusChecked.{ChecksCantusBy}
use Rattle.works.specs.Invented.{plan_of}
use Rattle.works.specs.Blame.{IsReadWithin}
use Rattle.works.specs.Checked.{AnswersWithin, Checks, IsAccepted, IsChecked, IsOnlyVerdict, Judges, RefusesChecking, told, unmade_by}
use Rattle.class_marker.specs.Lists.{listed_names}
use Rattle.class_marker.specs.Markings.{IsContent}
use Rattle.fux_text.proofs.ReadTexts.{texts-faultless}
use Rattle.fux_text.specs.Texts.{IsTextOf}
use Rattle.works.specs.Classes.{RefusesList}
use Rattle.command_words.specs.Commands.{Task, certify, certify_cantus, check, check_cantus, class_files, class_report, drill, explain, find_canon, find_cantus, fromsmf, join_smf, mark_answer, on_exercise, on_mixed, whole_class, whole_files}
use Rattle.works.specs.TaskFiles.{as_list, limit_in, name_in, names_in, names_listed, names_within}
use Rattle.works.specs.Complaints.{name_text}
use Rattle.works.specs.Endings.{IsCut, IsMade, IsRefused, IsUnread, IsWritten, SaysWithin, work_output}
use Rattle.works.specs.declared.refusal.Refusal.{Refusal}
use Rattle.works.specs.declared.refusal.Refusal.TheVariants as refusal
use Rattle.works.specs.Searched.{IsNarrow}
use Rattle.works.specs.Sheets.{RefusesSheet, prices_in_use, sheet_said}
use Rattle.works.specs.Texts.{RefusesText, Work}
use Rattle.works.specs.Works.{AllHave, AreContents, AreRead, ChecksText, Files, IsClassOf, IsReadyFor, IsReadyText, Makes, Works}
use Rattle.works.proofs.MakeLemmas.{have_bytes, works_on}
use Rattle.works.proofs.WorkLemmas.{all_there, not_missing, only_bytes}

-- ---- what is told of a verdict

module _ (ex : Exercise) (sheet : Sheet) (files : Files) (name : List ℕ) (output : Output) where
  -- what is favorable accepts a valid certificate
  only_valid : (it : CertVerdict) → Judges ex sheet files name it → output ≡ told it → output.verdict ≡ Favorable
      → IsAccepted ex sheet files name output
  only_valid (Accepted answer) found e good = elim found.such [
    | inl never ↦ absurd never
    | inr behind ↦ record {
      head = behind.head.head;
      valid = record {
        bytes = found.bytes;
        had = found.had;
        such = record { stated = behind.head.stated; is = behind.finds.1 };
      };
      told = e ∙ ap (λ a. told (Accepted a)) behind.finds.0;
      holds = behind.shown answer refl;
    }
  ]
  only_valid (Claim refused) found e good =
      let no : Unfavorable ≡ Favorable = sym (ap (λ (o : Output). o.verdict) e) ∙ good in cc
  only_valid (Text fault) found e good =
      let no : Unfavorable ≡ Favorable = sym (ap (λ (o : Output). o.verdict) e) ∙ good in cc

  -- it is the only one
  only_verdict : (it : CertVerdict) → IsValid ex → Judges ex sheet files name it → IsOnlyVerdict ex sheet files name it
  only_verdict it valid judges bytes other has found =
      one_verdict ex sheet bytes other it valid found (such_of files name bytes has (IsVerdictOn ex sheet it) judges)

  pub checked : (it : CertVerdict) → IsValid ex → IsNarrow ex → Judges ex sheet files name it
      → ((head : CertHead) → cert.AcceptsValid ex sheet head files name it) → output ≡ told it
      → IsChecked files name sheet ex output
  checked it valid narrow judges accepts e = record {
    narrow = narrow;
    said = it;
    judges = judges;
    only = only_verdict it valid judges;
    told = e;
    exact = record {
      only = only_valid it judges e;
      each = λ bytes head has is. e ∙ ap told (accepts head bytes has is);
    };
  }

-- ---- why no verdict is told

-- where no menu is too wide, what a file that gets none stops with is as it should be
pub unchecked : (ex : Exercise) (sheet : Sheet) (files : Files) (name : List ℕ) (rose : Type 0) (why : CheckFault)
    → IsNarrow ex → Answers ex sheet files name rose (Err why)
    → AnswersWithin (Checks files name sheet ex) (IsNarrow ex × (rose ⊎ IsMissing files name)) (Err (unmade_by why))
unchecked ex sheet files name rose fault.Unreadable narrow told = (narrow, told)
unchecked ex sheet files name rose (fault.TooWide place count) narrow told = told
unchecked ex sheet files name rose fault.TooLarge narrow told = (narrow, told)
unchecked ex sheet files name rose fault.Memory narrow told = tt

-- and no shelf is blamed by it that serves the file
pub unmade_served : (why : CheckFault) → why ≢ fault.Unreadable → IsReadWithin (unmade_by why)
unmade_served fault.Unreadable served = served refl
unmade_served (fault.TooWide place count) served = tt
unmade_served fault.TooLarge served = tt
unmade_served fault.Memory served = tt

-- ---- the file of a verdict isn't missing

may_be_there : (files : Files) (name : List ℕ) (Such : List ℕ → Type 0) → MayBe files name Such → IsMissing files name
    → ⊥
may_be_there files name Such found missing = not_missing files name found.bytes found.had missing

judged_is_there : (ex : Exercise) (sheet : Sheet) (files : Files) (name : List ℕ) (it : CertVerdict)
    → Judges ex sheet files name it
    → IsMissing files name → ⊥
judged_is_there ex sheet files name it found missing =
    may_be_there files name (IsVerdictOn ex sheet it) found missing

the_one : (one name : List ℕ) (k : ℕ) → k < 1 → get_or (one ∷ []) k name ≡ name → one ≡ name
the_one one name zero within is = is
the_one one name (suc k) within is = let none : ⊥ = omega (arith, within) in absurd none

checked_is_there : (files : Files) (certificate : List ℕ) (sheets : List (List ℕ)) (text : List ℕ) (output : Output)
    → ChecksText files certificate sheets text (Ok output) → IsMissing files certificate → ⊥
checked_is_there files certificate sheets text output (inl on) missing =
    elim on.made [
      | inl over ↦ judged_is_there on.exercise over.sheet files certificate over.made.said over.made.judges missing
      | inr none ↦ cc none.is
    ]
checked_is_there files certificate sheets text output (inr none) missing = cc none.is

cantus_is_there : (wanted : Wanted) (files : Files) (certificate : List ℕ) (sheets : List (List ℕ)) (output : Output)
    → ChecksCantusBy wanted files certificate sheets (Ok output) → IsMissing files certificate → ⊥
cantus_is_there wanted files certificate sheets output (inl over) missing =
    may_be_there files certificate (IsCantusVerdict (plan_of wanted over.sheet (prices_in_use sheets)) over.made.said)
    over.made.judges missing
cantus_is_there wanted files certificate sheets output (inr none) missing = cc none.is

class_is_there : (files : Files) (text name : List ℕ) (names : List (List ℕ)) (output : Output) → IsClassOf files text output
    → names_listed (listed_names text) ≡ names → Contains names name → IsMissing files name → ⊥
class_is_there files text name names output made listed one missing =
    let same : made.names ≡ names = sym (ap names_listed made.listed) ∙ listed in
    all_there files names made.texts name (rw same at made.had) one missing

output_is_there : (task : Task) (files : Files) (name : List ℕ) (bytes : List (List ℕ)) (output : Output)
    → Makes task files bytes (Ok output) → Contains (names_within task bytes) name → IsMissing files name → ⊥
output_is_there (check ex certificate sheet) files name (text ∷ sheets) output made one missing =
    checked_is_there files certificate sheets text output made (rw (the_one certificate name one.0 one.1 one.2) missing)
output_is_there (check ex certificate sheet) files name [] output made one missing = absurd made
output_is_there (on_exercise ex sheet job) files name bytes output made one missing = omega (arith, one.1)
output_is_there (on_mixed ex sheet named job) files name bytes output made one missing = omega (arith, one.1)
output_is_there (certify ex sheet budget form) files name bytes output made one missing = omega (arith, one.1)
output_is_there (explain file subject) files name bytes output made one missing = omega (arith, one.1)
output_is_there (fromsmf file head) files name bytes output made one missing = omega (arith, one.1)
output_is_there (join_smf lesson file manner) files name bytes output made one missing = omega (arith, one.1)
output_is_there (drill number by_sharper) files name bytes output made one missing = omega (arith, one.1)
output_is_there (mark_answer file lesson) files name bytes output made one missing = omega (arith, one.1)
output_is_there (class_files names) files name bytes output made one missing = omega (arith, one.1)
output_is_there (whole_class list lesson kind) files name bytes output made one missing = omega (arith, one.1)
output_is_there (whole_files names lesson kind) files name bytes output made one missing = omega (arith, one.1)
output_is_there (find_canon file sheet search) files name bytes output made one missing = omega (arith, one.1)
output_is_there (find_cantus wanted sheet search) files name bytes output made one missing = omega (arith, one.1)
output_is_there (certify_cantus wanted sheet budget) files name bytes output made one missing = omega (arith, one.1)
output_is_there (check_cantus wanted certificate sheet) files name sheets output made one missing =
    cantus_is_there wanted files certificate sheets output made (rw (the_one certificate name one.0 one.1 one.2) missing)
output_is_there (class_report list) files name (text ∷ []) output made one missing =
    class_is_there files text name (names_listed (listed_names text)) output made refl one missing
output_is_there (class_report list) files name [] output made one missing = absurd made
output_is_there (class_report list) files name (text ∷ more ∷ bytes) output made one missing = absurd made

pub written_is_there : (task : Task) (files : Files) (name : List ℕ) (bytes : List (List ℕ)) (old new : Option (List ℕ))
    (verdict : Verdict)
    → AllHave files (names_in task) bytes → Works task files (IsWritten old new verdict)
    → Contains (names_within task bytes) name → IsMissing files name → ⊥
written_is_there task files name bytes old new verdict have on one missing =
    let same = only_bytes files (names_in task) bytes on.bytes have on.had in
    output_is_there task files name bytes on.holds.output
    (rw same at (subst (Makes task files on.bytes) on.holds.is on.made)) one missing

short_is_there : (task : Task) (files : Files) (name : List ℕ) (old new : Option (List ℕ)) (bytes : List (List ℕ))
    (work : Work)
    → Makes task files bytes work → StopsShort old new (work_output work) → Contains (names_within task bytes) name
    → IsMissing files name → ⊥
short_is_there task files name old new bytes (Ok output) made short one missing =
    output_is_there task files name bytes output made one missing
short_is_there task files name old new bytes (Err refusal) made short one missing = omega (arith, short.short)

pub part_is_there : (task : Task) (files : Files) (name : List ℕ) (bytes : List (List ℕ)) (cut : ℕ → Type 0)
    (old new : Option (List ℕ)) → AllHave files (names_in task) bytes → Works task files (IsCut cut old new)
    → Contains (names_within task bytes) name → IsMissing files name → ⊥
part_is_there task files name bytes cut old new have on one missing =
    let same = only_bytes files (names_in task) bytes on.bytes have on.had in
    short_is_there task files name old new bytes on.work (rw same at on.made) on.holds.front one missing

-- ---- files that are refused keep a command from reading on

-- a refused certificate is there, or a menu is too wide
not_refused_check : (files : Files) (certificate : List ℕ) (sheet : Sheet) (ex : Exercise) (refusal : Refusal)
    → RefusesChecking files certificate sheet ex refusal → IsNarrow ex → IsMissing files certificate → ⊥
not_refused_check files certificate sheet ex refusal.LargeGraph large narrow missing =
    may_be_there files certificate (HasLargeLists ex sheet) large.1 missing
not_refused_check files certificate sheet ex (refusal.TooWide place count) wide narrow missing =
    omega (arith, narrow wide.column wide.within, wide.width, wide.wide)
not_refused_check files certificate sheet ex (refusal.Text kind line column) wide narrow missing = wide
not_refused_check files certificate sheet ex refusal.NoSetting wide narrow missing = wide
not_refused_check files certificate sheet ex (refusal.Lesson kind line column) wide narrow missing = wide
not_refused_check files certificate sheet ex (refusal.List line) wide narrow missing = wide
not_refused_check files certificate sheet ex (refusal.Canon line) wide narrow missing = wide
not_refused_check files certificate sheet ex (refusal.With voice) wide narrow missing = wide
not_refused_check files certificate sheet ex refusal.LongCertificate wide narrow missing = wide
not_refused_check files certificate sheet ex (refusal.Sheet fault) wide narrow missing = wide
not_refused_check files certificate sheet ex (refusal.Midi fault) wide narrow missing = wide
not_refused_check files certificate sheet ex (refusal.Join fault) wide narrow missing = wide

not_refused_text : (bytes : List ℕ) (ex : Exercise) (refusal : Refusal) → IsTextOf bytes ex → RefusesText bytes refusal → ⊥
not_refused_text bytes ex (refusal.Text kind line column) is refused = texts-faultless bytes ex kind line column is refused
not_refused_text bytes ex (refusal.TooWide place count) is refused = refused
not_refused_text bytes ex refusal.NoSetting is refused = refused
not_refused_text bytes ex (refusal.Lesson kind line column) is refused = refused
not_refused_text bytes ex (refusal.List line) is refused = refused
not_refused_text bytes ex (refusal.Canon line) is refused = refused
not_refused_text bytes ex (refusal.With voice) is refused = refused
not_refused_text bytes ex refusal.LongCertificate is refused = refused
not_refused_text bytes ex refusal.LargeGraph is refused = refused
not_refused_text bytes ex (refusal.Sheet fault) is refused = refused
not_refused_text bytes ex (refusal.Midi fault) is refused = refused
not_refused_text bytes ex (refusal.Join fault) is refused = refused

not_refused_sheet : (sheets : List (List ℕ)) (sheet : Sheet) (refusal : Refusal) → sheet_said sheets ≡ Ok sheet
    → RefusesSheet sheets refusal → ⊥
not_refused_sheet sheets sheet (refusal.Sheet fault) said refused = cc (said, refused)
not_refused_sheet sheets sheet (refusal.Text kind line column) said refused = refused
not_refused_sheet sheets sheet (refusal.TooWide place count) said refused = refused
not_refused_sheet sheets sheet refusal.NoSetting said refused = refused
not_refused_sheet sheets sheet (refusal.Lesson kind line column) said refused = refused
not_refused_sheet sheets sheet (refusal.List line) said refused = refused
not_refused_sheet sheets sheet (refusal.Canon line) said refused = refused
not_refused_sheet sheets sheet (refusal.With voice) said refused = refused
not_refused_sheet sheets sheet refusal.LongCertificate said refused = refused
not_refused_sheet sheets sheet refusal.LargeGraph said refused = refused
not_refused_sheet sheets sheet (refusal.Midi fault) said refused = refused
not_refused_sheet sheets sheet (refusal.Join fault) said refused = refused

not_refused_list : (text : List ℕ) (names : List (List ℕ)) (refusal : Refusal) → listed_names text ≡ Ok names
    → RefusesList text refusal → ⊥
not_refused_list text names (refusal.List line) listed refused = cc (listed, refused)
not_refused_list text names (refusal.Text kind line column) listed refused = refused
not_refused_list text names (refusal.TooWide place count) listed refused = refused
not_refused_list text names refusal.NoSetting listed refused = refused
not_refused_list text names (refusal.Lesson kind line column) listed refused = refused
not_refused_list text names (refusal.Canon line) listed refused = refused
not_refused_list text names (refusal.With voice) listed refused = refused
not_refused_list text names refusal.LongCertificate listed refused = refused
not_refused_list text names refusal.LargeGraph listed refused = refused
not_refused_list text names (refusal.Sheet fault) listed refused = refused
not_refused_list text names (refusal.Midi fault) listed refused = refused
not_refused_list text names (refusal.Join fault) listed refused = refused

check_not_refused : (files : Files) (certificate : List ℕ) (sheets : List (List ℕ)) (text : List ℕ) (refusal : Refusal)
    → ChecksText files certificate sheets text (Err refusal) → IsReadyText sheets text → IsMissing files certificate → ⊥
check_not_refused files certificate sheets text refusal (inl on) ready missing =
    elim on.made [
      | inl over ↦
          let same = ready.is.only on.exercise on.text.text in
          not_refused_check files certificate over.sheet on.exercise refusal over.made (rw same at ready.narrow) missing
      | inr none ↦ not_refused_sheet sheets ready.sheet none.refusal ready.said none.cause
    ]
check_not_refused files certificate sheets text refusal (inr none) ready missing =
    not_refused_text text ready.exercise none.refusal ready.is.text none.cause

not_refused : (task : Task) (files : Files) (bytes : List (List ℕ)) (refusal : Refusal) (name : List ℕ)
    → Makes task files bytes (Err refusal) → Contains (names_within task bytes) name → IsMissing files name
    → IsReadyFor task bytes → ⊥
not_refused (check ex certificate sheet) files (text ∷ sheets) refusal name made one missing ready =
    check_not_refused files certificate sheets text refusal made ready
    (rw (the_one certificate name one.0 one.1 one.2) missing)
not_refused (check ex certificate sheet) files [] refusal name made one missing ready = ready
not_refused (class_report list) files (text ∷ []) refusal name made one missing ready =
    not_refused_list text ready.names refusal ready.listed made
not_refused (class_report list) files [] refusal name made one missing ready = ready
not_refused (class_report list) files (text ∷ more ∷ bytes) refusal name made one missing ready = ready
not_refused (on_exercise ex sheet job) files bytes refusal name made one missing ready = ready
not_refused (on_mixed ex sheet named job) files bytes refusal name made one missing ready = ready
not_refused (certify ex sheet budget form) files bytes refusal name made one missing ready = ready
not_refused (explain file subject) files bytes refusal name made one missing ready = ready
not_refused (fromsmf file head) files bytes refusal name made one missing ready = ready
not_refused (join_smf lesson file manner) files bytes refusal name made one missing ready = ready
not_refused (drill number by_sharper) files bytes refusal name made one missing ready = ready
not_refused (mark_answer file lesson) files bytes refusal name made one missing ready = ready
not_refused (class_files names) files bytes refusal name made one missing ready = ready
not_refused (whole_class list lesson kind) files bytes refusal name made one missing ready = ready
not_refused (whole_files names lesson kind) files bytes refusal name made one missing ready = ready
not_refused (find_canon file sheet search) files bytes refusal name made one missing ready = ready
not_refused (find_cantus wanted sheet search) files bytes refusal name made one missing ready = ready
not_refused (certify_cantus wanted sheet budget) files bytes refusal name made one missing ready = ready
not_refused (check_cantus wanted certificate sheet) files sheets refusal name made one missing ready =
    elim made [
      | inl over ↦ absurd over.made
      | inr none ↦ not_refused_sheet sheets ready.sheet none.refusal ready.said none.cause
    ]

-- where a file that a command reads within its work is missing, it refuses only files that keep it
-- from reading on
pub refused_unready : (task : Task) (files : Files) (bytes : List (List ℕ)) (text name : List ℕ)
    → AllHave files (names_in task) bytes → Works task files (IsRefused (name_in task) text)
    → Contains (names_within task bytes) name → IsMissing files name → IsReadyFor task bytes → ⊥
refused_unready task files bytes text name have on one missing ready =
    let same = only_bytes files (names_in task) bytes on.bytes have on.had in
    not_refused task files bytes on.holds.refusal name
    (rw same at (subst (Makes task files on.bytes) on.holds.is on.made)) one missing ready

-- ---- what is made of the files

pub more_rose : (Made : Work → Type 0) (Ready Missing later rose : Type 0) (answer : Result Output Unmade) → (later → rose)
    → AnswersWithin Made (Ready × (later ⊎ Missing)) answer → AnswersWithin Made (Ready × (rose ⊎ Missing)) answer
more_rose Made Ready Missing later rose (Ok output) so made = made
more_rose Made Ready Missing later rose (Err (unmade.Stopped (stop.Refused refusal))) so made = made
more_rose Made Ready Missing later rose (Err (unmade.Stopped stop.Memory)) so made = made
more_rose Made Ready Missing later rose (Err unmade.Unreadable) so made =
    (made.0, elim made.1 [ inl failed ↦ inl (so failed) | inr missing ↦ inr missing ])

-- what a shelf answers that tells the same files is what the first one does
pub within_same : (Made : Files → Work → Type 0) (Ready later rose : Type 0) (files later_files : Files) (name : List ℕ)
    (answer : Result Output Unmade) → later_files ≡ files → (later → rose)
    → AnswersWithin (Made later_files) (Ready × (later ⊎ IsMissing later_files name)) answer
    → AnswersWithin (Made files) (Ready × (rose ⊎ IsMissing files name)) answer
within_same Made Ready later rose files later_files name answer same so made =
    more_rose (Made files) Ready (IsMissing files name) later rose answer so
    (subst (λ told. AnswersWithin (Made told) (Ready × (later ⊎ IsMissing told name)) answer) same made)

-- the same of any command that reads one file within its work
module _ (task : Task) (within : List ℕ) (files : Files) (rose : Type 0)
    (only : (bytes : List (List ℕ)) → names_within task bytes ≡ within ∷ []) where
  pub within_said : (contents : List Content) (answer : Result Output Unmade) (told : Result Output Complaint)
      → AreRead (limit_in task) files (names_in task) contents
      → ((bytes : List (List ℕ)) → AreContents (limit_in task) contents bytes
      → AnswersWithin (Makes task files bytes) (IsReadyFor task bytes × (rose ⊎ IsMissing files within)) answer)
      → SaysWithin (name_in task) within answer told → IsMade task files rose told
  within_said contents (Ok output) told read made says =
      rw says (works_on task files contents (Ok output) (λ work. work ≡ Ok output) read made refl)
  within_said contents (Err (unmade.Stopped (stop.Refused refusal))) (Err (Refused text)) read made says =
      works_on task files contents (Err refusal) (IsRefused (name_in task) text) read made record
      { refusal = refusal; is = refl; told = says }
  within_said contents (Err (unmade.Stopped (stop.Refused refusal))) (Err OutOfMemory) read made says = tt
  within_said contents (Err (unmade.Stopped (stop.Refused refusal))) (Err Usage) read made says = absurd says
  within_said contents (Err (unmade.Stopped (stop.Refused refusal))) (Err (Unreadable file)) read made says =
      absurd says
  within_said contents (Err (unmade.Stopped (stop.Refused refusal))) (Err Unwritable) read made says = absurd says
  within_said contents (Err (unmade.Stopped (stop.Refused refusal))) (Ok output) read made says = absurd says
  within_said contents (Err (unmade.Stopped stop.Memory)) told read made says = rw says tt
  within_said contents (Err unmade.Unreadable) (Err (Unreadable file)) read made says =
      let known = have_bytes (limit_in task) files (names_in task) contents read in
      let unread = made known.bytes known.content in
      inr record {
        bytes = known.bytes;
        had = known.had;
        ready = unread.0;
        unread = subst (λ names. IsUnread files rose names (name_text file)) (sym (only known.bytes)) record {
          asked = (0, omega arith, sym says);
          cause = elim unread.1 [ inl failed ↦ inl failed | inr missing ↦ inr (inl (sym says, missing)) ];
        };
      }
  within_said contents (Err unmade.Unreadable) (Err Usage) read made says = absurd says
  within_said contents (Err unmade.Unreadable) (Err (Refused text)) read made says = absurd says
  within_said contents (Err unmade.Unreadable) (Err Unwritable) read made says = absurd says
  within_said contents (Err unmade.Unreadable) (Err OutOfMemory) read made says = absurd says
  within_said contents (Err unmade.Unreadable) (Ok output) read made says = absurd says

module _ (name certificate : List ℕ) (sheet : Option (List ℕ)) (files : Files) (rose : Type 0) where
  abbrev task : Task
  task = check name certificate sheet

  -- the shelf that tells the files of the certificate tells the same ones
  pub of_check : (later_files : Files) (later : Type 0) (text : Content) (weights : Option Content)
      (answer : Result Output Unmade)
      → later_files ≡ files → (later → rose)
      → ((bytes : List ℕ) (sheets : List (List ℕ)) → IsContent 65536 text bytes
      → AreContents 65536 (as_list weights) sheets
      → AnswersWithin (ChecksText later_files certificate sheets bytes)
      (IsReadyText sheets bytes × (later ⊎ IsMissing later_files certificate)) answer)
      → (all : List (List ℕ)) → AreContents 65536 (text ∷ as_list weights) all
      → AnswersWithin (Makes task files all) (IsReadyFor task all × (rose ⊎ IsMissing files certificate)) answer
  of_check later_files later text weights answer same so made [] content = absurd content
  of_check later_files later text weights answer same so made (bytes ∷ sheets) content =
      more_rose (Makes task files (bytes ∷ sheets)) (IsReadyText sheets bytes) (IsMissing files certificate) later rose
      answer so
      (subst (λ told. AnswersWithin (ChecksText told certificate sheets bytes)
      (IsReadyText sheets bytes × (later ⊎ IsMissing told certificate)) answer)
      same (made bytes sheets content.0 content.1))

  pub checked_said : (contents : List Content) (answer : Result Output Unmade) (told : Result Output Complaint)
      → AreRead 65536 files (names_in task) contents
      → ((bytes : List (List ℕ)) → AreContents 65536 contents bytes
      → AnswersWithin (Makes task files bytes) (IsReadyFor task bytes × (rose ⊎ IsMissing files certificate)) answer)
      → SaysWithin name certificate answer told → IsMade task files rose told
  checked_said = within_said task certificate files rose (λ bytes. refl)
