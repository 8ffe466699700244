-- What is said of a class in which each name has its place, while counts of faults rise
-- (`rose_sooner`): of one file more (`next_said`), of all files with the last line (`whole_is`),
-- of the bytes of the list and the lesson (`of_whole`), and with its causes (`causes_told`); the same
-- of names that the words give (`of_named`, `named_told`).
use Rattle.std.proofs.Common.{◌≡◌, ℕ, ◌+◌, ◌<◌, ◌≤◌, Bor, List, [], ◌∷◌, ◌++◌, length, map, take, get_or, Global, Option, Some, None, Result, Ok, Err, inl, inr, refl, ap, sym, subst, ◌∙◌, arith}
use Rattle.std.specs.Prelude.{IfOk, String, string_bytes, is_some}
use Rattle.std.specs.List.{AllZip}
use Rattle.std.specs.Option.{option_copied}
use Rattle.std.proofs.lemmas.List.{length-map, take_more}
use Rattle.std.proofs.lemmas.List.Sums.{count_by-le-length}
use Rattle.std.proofs.lemmas.Slice.Zip.{AllZip-long}
use Rattle.class_marker.specs.declared.whole_report.WholeReport.{WholeReport}
use Rattle.class_marker.specs.declared.said.Said.{Said}
use Rattle.class_marker.specs.declared.said.Said.TheVariants.{Told, Refused, Unjoined, Unread}
use Rattle.class_marker.specs.Sayings.{IsSaid, IsSaidOrUnread}
use Rattle.class_marker.specs.WholeReports.{IsReportOf, IsWholeOf, Saying, has_mark, is_other, is_refused}
use Rattle.class_marker.specs.declared.one.Text.{Text as Content}
use Rattle.class_marker.specs.Markings.{IsContent}
use Rattle.fux_grid.specs.declared.exercise.Exercise.{Exercise}
use Rattle.fux_port.specs.Counts.{Rose}
use Rattle.command_words.specs.Commands.{whole_class, whole_files}
use Rattle.command_words.specs.declared.command.FileKind.{FileKind}
use Rattle.command_words.specs.declared.command.FileKind.TheVariants as read_as
use Rattle.works.specs.declared.complaint.Complaint.{Complaint}
use Rattle.works.specs.declared.work.Output.{Output}
use Rattle.works.specs.declared.work.Stop.{Stop}
use Rattle.works.specs.declared.work.Stop.TheVariants as stop
use Rattle.works.specs.TaskFiles.{as_list}
use Rattle.works.specs.WholeClasses.{AreSaid, IsMadeOf, IsSaidIn, IsSayingIn, IsWholeReport, ReportsBy, ReportsList, ReportsNamed, ReportsNames, ReportsWhole, SaysOf, Sought, alone, answers, is_by_lesson, limit_of, played, sought_in, whole_output}
use Rattle.works.specs.Texts.{Work}
use Rattle.works.specs.Endings.{Says}
use Rattle.works.specs.Works.{AllMayHave, Answers, AreContents, AreRead, Files, IsOfCauses, Makes, ReadsOrNot, TellsCauses, TellsNamedCauses}
use Rattle.works.proofs.ClassLemmas.{map_at}
use Rattle.works.proofs.JoinedLemmas.{shorter}
use Rattle.works.proofs.MakeLemmas.{have_bytes}
use Rattle.works.proofs.PageLemmas.{one_longer, page_so}

-- a count that rose in the first of several calls
pub rose_sooner : (old mid new : ℕ) → old ≤ mid → mid ≤ new → Rose old mid → Rose old new
rose_sooner old mid new before after rose = grind arith

-- ---- one file more

-- what is said of a file, where another cause follows from one
said_so : (files : Files) (old new : Type 0) (sought : Sought) (name : List ℕ) (said : Said) → (old → new)
    → IsSaidIn files old sought name said → IsSaidIn files new sought name said
said_so files old new sought name (Told lines) so is = is
said_so files old new sought name (Refused why) so is = is
said_so files old new sought name (Unjoined fault) so is = is
said_so files old new sought name Unread so (inl failed) = inl (so failed)
said_so files old new sought name Unread so (inr missing) = inr missing

all_so : (files : Files) (old new : Type 0) (sought : Sought) (names : List (List ℕ)) (sayings : List Saying)
    → (old → new) → AllZip (IsSayingIn files old sought) names sayings → AllZip (IsSayingIn files new sought) names sayings
all_so files old new sought [] [] so each = tt
all_so files old new sought [] (saying ∷ sayings) so each = absurd each
all_so files old new sought (name ∷ names) [] so each = absurd each
all_so files old new sought (name ∷ names) (saying ∷ sayings) so each = (
  (each.0.0, said_so files old new sought name saying.1 so each.0.1),
  all_so files old new sought names sayings so each.1,
)

-- nothing is said of a text that was read as of one that could not be
never_unread : (sought : Sought) (bytes : List ℕ) → SaysOf sought bytes Unread → ⊥
never_unread alone bytes is = is
never_unread (answers lesson) bytes is = is
never_unread (played lesson manner) bytes is = is

-- what is said of a file by what was read of it
said_in : (limit : ℕ) (files now_files : Files) (failed : Type 0) (sought : Sought) (name : List ℕ)
    (found : Option Content) (said : Said) → now_files ≡ files → ReadsOrNot limit now_files failed name (Ok found)
    → IsSaidOrUnread (SaysOf sought) limit found said
    → IsSaidIn files failed sought name said
said_in limit files now_files failed sought name None said same read is =
    let read' = subst (λ fs. ReadsOrNot limit fs failed name (Ok None)) same read in
    subst (IsSaidIn files failed sought name) (sym is) read'
said_in limit files now_files failed sought name (Some text) (Told lines) same read is =
    let read' = subst (λ fs. ReadsOrNot limit fs failed name (Ok (Some text))) same read in
    record { bytes = read'.bytes; had = read'.had; is = is read'.bytes read'.content }
said_in limit files now_files failed sought name (Some text) (Refused why) same read is =
    let read' = subst (λ fs. ReadsOrNot limit fs failed name (Ok (Some text))) same read in
    record { bytes = read'.bytes; had = read'.had; is = is read'.bytes read'.content }
said_in limit files now_files failed sought name (Some text) (Unjoined fault) same read is =
    let read' = subst (λ fs. ReadsOrNot limit fs failed name (Ok (Some text))) same read in
    record { bytes = read'.bytes; had = read'.had; is = is read'.bytes read'.content }
said_in limit files now_files failed sought name (Some text) Unread same read is =
    absurd (never_unread sought read.bytes (is read.bytes read.content))

-- no more have a mark, are refused or differ than there are names
pub few_said : (files : Files) (failed : Type 0) (sought : Sought) (names : List (List ℕ)) (report : WholeReport)
    → AreSaid files failed sought names report
    → (report.marked ≤ length names) × (report.refused ≤ length names) × (report.others ≤ length names)
few_said files failed sought names report are =
    let long = AllZip-long (IsSayingIn files failed sought) names are.sayings are.each in (
      omega (arith, long, are.counted.marked, count_by-le-length (λ (s : Saying). has_mark s.1) are.sayings),
      omega (arith, long, are.counted.refused, count_by-le-length (λ (s : Saying). is_refused s.1) are.sayings),
      omega (arith, long, are.counted.others, count_by-le-length (λ (s : Saying). is_other s.1) are.sayings),
    )

-- nothing is said of no file
pub none_said : (files : Files) (failed : Type 0) (sought : Sought) (report : WholeReport) → IsReportOf [] report
    → AreSaid files failed sought [] report
none_said files failed sought report is = record { sayings = []; each = tt; counted = is }

module _ (limit : ℕ) (files now_files : Files) (sought : Sought) (names : List (String Global)) (place : ℕ)
    (name : String Global) (within : place < length names) (named : name ≡ get_or names place name)
    (same : now_files ≡ files) where
  pub next_said : (before now after : Type 0) → (before → after) → (now → after) → (found : Option Content) (said : Said)
      → (old new : WholeReport)
      → AreSaid files before sought (take place (map string_bytes names)) old
      → ReadsOrNot limit now_files now (string_bytes name) (Ok found) → IsSaidOrUnread (SaysOf sought) limit found said
      → ((sayings : List Saying) → IsReportOf sayings old → IsReportOf (sayings ++ (string_bytes name, said) ∷ []) new)
      → AreSaid files after sought (take (place + 1) (map string_bytes names)) new
  next_said before now after so from_now found said old new are read is put =
      let all = map string_bytes names in
      let many : place < length all = rw length-map within in
      let here : get_or all place (string_bytes name) ≡ string_bytes name =
      map_at place names name within ∙ sym (ap string_bytes named) in
      let list : take (place + 1) all ≡ take place all ++ string_bytes name ∷ [] =
      take_more all place (string_bytes name) many ∙ ap (λ n. take place all ++ n ∷ []) here in
      let one : IsSaidIn files after sought (string_bytes name) said =
      said_so files now after sought (string_bytes name) said from_now
      (said_in limit files now_files now sought (string_bytes name) found said same read is) in
      subst (λ ns. AreSaid files after sought ns new) (sym list) record {
        sayings = are.sayings ++ (string_bytes name, said) ∷ [];
        each = one_longer (IsSayingIn files after sought) (take place all) are.sayings (string_bytes name)
            (string_bytes name, said) (all_so files before after sought (take place all) are.sayings so are.each) (refl, one);
        counted = put are.sayings are.counted;
      }

-- what is said of a text of which no more than 65,536 bytes are read is so where more are
pub alone_said : {E : Type 0} (kind : FileKind) (found : Option Content) (result : Result Said E)
    → IfOk result (IsSaidOrUnread (IsSaid None) 65536 found)
    → IfOk result (IsSaidOrUnread (IsSaid None) (limit_of kind) found)
alone_said read_as.Text found result is = is
alone_said read_as.Page found result is = is
alone_said (read_as.Midi manner) None result is = is
alone_said (read_as.Midi manner) (Some read) (Ok said) is = λ bytes content. is bytes (shorter read bytes content)
alone_said (read_as.Midi manner) (Some read) (Err fault) is = tt

-- ---- all files

-- there is a lesson where one is asked by
pub by_copied : (kind : FileKind) (o : Option (Bor Exercise)) → is_by_lesson (sought_in kind (option_copied o)) ≡ is_some o
by_copied kind None = refl
by_copied read_as.Text (Some x) = refl
by_copied read_as.Page (Some x) = refl
by_copied (read_as.Midi manner) (Some x) = refl

pub whole_is : (files : Files) (failed : Type 0) (sought : Sought) (names : List (List ℕ)) (old new : WholeReport)
    (count : ℕ) (output : Output) → length names ≡ count → AreSaid files failed sought names old
    → ((sayings : List Saying) → IsReportOf sayings old → length sayings ≡ count → IsWholeOf (is_by_lesson sought) sayings new)
    → output ≡ whole_output new → IsWholeReport files failed sought names output
whole_is files failed sought names old new count output many are whole written =
    let long = AllZip-long (IsSayingIn files failed sought) names are.sayings are.each in
    record {
      sayings = are.sayings;
      each = are.each;
      report = new;
      whole = whole are.sayings are.counted (omega (arith, long, many));
      written = written;
    }

-- ---- the bytes of the list and the lesson

-- a report that tells the causes of what can't be read tells what follows from these
report_so : (files : Files) (old new : Type 0) (sought : Sought) (names : List (List ℕ)) (output : Output)
    → (old → new) → IsWholeReport files old sought names output → IsWholeReport files new sought names output
report_so files old new sought names output so is = record {
  sayings = is.sayings;
  each = all_so files old new sought names is.sayings so is.each;
  report = is.report;
  whole = is.whole;
  written = is.written;
}

made_so : (files : Files) (old new : Type 0) (kind : FileKind) (lesson : Option Exercise) (names : List (List ℕ))
    (output : Output) → (old → new) → IsMadeOf files old kind lesson names output → IsMadeOf files new kind lesson names output
made_so files old new read_as.Text lesson names output so is =
    report_so files old new (sought_in read_as.Text lesson) names output so is
made_so files old new read_as.Page lesson names output so is = page_so files old new lesson names output so is
made_so files old new (read_as.Midi manner) lesson names output so is =
    report_so files old new (sought_in (read_as.Midi manner) lesson) names output so is

list_so : (files : Files) (old new : Type 0) (kind : FileKind) (lesson : Option Exercise) (list : List ℕ) (output : Output)
    → (old → new) → ReportsList files old kind lesson list output → ReportsList files new kind lesson list output
list_so files old new kind lesson list output so is = record {
  names = is.names;
  listed = is.listed;
  reported = made_so files old new kind lesson is.names output so is.reported;
}

by_so : (files : Files) (old new : Type 0) (kind : FileKind) (list : List ℕ) (lesson : Option Exercise) (work : Work)
    → (old → new) → ReportsBy files old kind list lesson work → ReportsBy files new kind list lesson work
by_so files old new kind list lesson (Ok output) so made = list_so files old new kind lesson list output so made
by_so files old new kind list lesson (Err refusal) so made = made

whole_so : (files : Files) (old new : Type 0) (kind : FileKind) (list : List ℕ) (lessons : List (List ℕ)) (work : Work)
    → (old → new) → ReportsWhole files old kind list lessons work → ReportsWhole files new kind list lessons work
whole_so files old new kind list [] work so made = by_so files old new kind list None work so made
whole_so files old new kind list (given ∷ []) work so (inl by) = inl record {
  lesson = by.lesson;
  text = by.text;
  made = by_so files old new kind list (Some by.lesson) work so by.made;
}
whole_so files old new kind list (given ∷ []) work so (inr refused) = inr refused
whole_so files old new kind list (given ∷ other ∷ more) work so made = absurd made

-- what is answered to the texts that were read, a shelf telling these files and failing so
abbrev pub AnswersTexts : Files → Type 0 → FileKind → Content → Option Content → Result Output Stop → Type 0
AnswersTexts files failed kind text given answer =
    (bytes : List ℕ) (lessons : List (List ℕ)) → IsContent 65536 text bytes → AreContents 65536 (as_list given) lessons
    → Answers (ReportsWhole files failed kind bytes lessons) answer

module _ (files : Files) (failed : Type 0) (list : List ℕ) (lesson : Option (List ℕ)) (kind : FileKind) (text : Content)
    (given : Option Content) where
  pub of_whole : (answer : Result Output Stop) → AnswersTexts files failed kind text given answer
      → (all : List (List ℕ)) → AreContents 65536 (text ∷ as_list given) all
      → Answers (Makes (whole_class list lesson kind) files all) answer
  of_whole (Ok output) made (bytes ∷ lessons) content =
      whole_so files failed (Unit {0}) kind bytes lessons (Ok output) (λ cause. tt) (made bytes lessons content.0 content.1)
  of_whole (Err (stop.Refused refusal)) made (bytes ∷ lessons) content =
      whole_so files failed (Unit {0}) kind bytes lessons (Err refusal) (λ cause. tt)
      (made bytes lessons content.0 content.1)
  of_whole (Err stop.Memory) made all content = tt
  of_whole (Ok output) made [] content = absurd content
  of_whole (Err (stop.Refused refusal)) made [] content = absurd content

  causes_of : (rose : Type 0) (output : Output) → (failed → rose) → AnswersTexts files failed kind text given (Ok output)
      → (all : List (List ℕ)) → AllMayHave files (list ∷ as_list lesson) all
      → AreContents 65536 (text ∷ as_list given) all
      → TellsCauses list lesson kind files rose (λ told. told ≡ output)
  causes_of rose output so made [] had content = absurd had
  causes_of rose output so made (bytes ∷ lessons) had content = record {
    text = bytes;
    lessons = lessons;
    had = had;
    output = output;
    made = whole_so files failed rose kind bytes lessons (Ok output) so (made bytes lessons content.0 content.1);
    holds = refl;
  }

  pub causes_told : (rose : Type 0) (answer : Result Output Stop) (told : Result Output Complaint) → (failed → rose)
      → AreRead 65536 files (list ∷ as_list lesson) (text ∷ as_list given) → AnswersTexts files failed kind text given answer
      → Says list answer told → IsOfCauses (whole_class list lesson kind) files rose (λ output told. told ≡ output) told
  causes_told rose (Ok output) told so read made says =
      let known = have_bytes 65536 files (list ∷ as_list lesson) (text ∷ as_list given) read in
      rw says (causes_of rose output so made known.bytes known.had known.content)
  causes_told rose (Err (stop.Refused refusal)) (Ok output) so read made says = absurd says
  causes_told rose (Err (stop.Refused refusal)) (Err complaint) so read made says = tt
  causes_told rose (Err stop.Memory) told so read made says = rw says tt

-- ---- names that the words give

names_so : (files : Files) (old new : Type 0) (kind : FileKind) (names : List (List ℕ)) (lesson : Option Exercise)
    (work : Work) → (old → new) → ReportsNames files old kind names lesson work → ReportsNames files new kind names lesson work
names_so files old new kind names lesson (Ok output) so made = made_so files old new kind lesson names output so made
names_so files old new kind names lesson (Err refusal) so made = made

named_so : (files : Files) (old new : Type 0) (kind : FileKind) (names lessons : List (List ℕ)) (work : Work)
    → (old → new) → ReportsNamed files old kind names lessons work → ReportsNamed files new kind names lessons work
named_so files old new kind names [] work so made = names_so files old new kind names None work so made
named_so files old new kind names (given ∷ []) work so (inl by) = inl record {
  lesson = by.lesson;
  text = by.text;
  made = names_so files old new kind names (Some by.lesson) work so by.made;
}
named_so files old new kind names (given ∷ []) work so (inr refused) = inr refused
named_so files old new kind names (given ∷ other ∷ more) work so made = absurd made

-- what is answered to the text of a lesson, where one was read
abbrev pub AnswersLesson : Files → Type 0 → FileKind → List (List ℕ) → Option Content → Result Output Stop → Type 0
AnswersLesson files failed kind names given answer =
    (lessons : List (List ℕ)) → AreContents 65536 (as_list given) lessons
    → Answers (ReportsNamed files failed kind names lessons) answer

module _ (files : Files) (failed : Type 0) (names : List (List ℕ)) (lesson : Option (List ℕ))
    (kind : FileKind) (given : Option Content) where
  pub of_named : (answer : Result Output Stop) → AnswersLesson files failed kind names given answer
      → (all : List (List ℕ)) → AreContents 65536 (as_list given) all
      → Answers (Makes (whole_files names lesson kind) files all) answer
  of_named (Ok output) made all content =
      named_so files failed (Unit {0}) kind names all (Ok output) (λ cause. tt) (made all content)
  of_named (Err (stop.Refused refusal)) made all content =
      named_so files failed (Unit {0}) kind names all (Err refusal) (λ cause. tt) (made all content)
  of_named (Err stop.Memory) made all content = tt

  named_causes : (rose : Type 0) (output : Output) → (failed → rose) → AnswersLesson files failed kind names given (Ok output)
      → (all : List (List ℕ)) → AllMayHave files (as_list lesson) all → AreContents 65536 (as_list given) all
      → TellsNamedCauses names lesson kind files rose (λ told. told ≡ output)
  named_causes rose output so made all had content = record {
    lessons = all;
    had = had;
    output = output;
    made = named_so files failed rose kind names all (Ok output) so (made all content);
    holds = refl;
  }

  pub named_told : (rose : Type 0) (answer : Result Output Stop) (told : Result Output Complaint) → (failed → rose)
      → AreRead 65536 files (as_list lesson) (as_list given) → AnswersLesson files failed kind names given answer
      → Says [] answer told → IsOfCauses (whole_files names lesson kind) files rose (λ output told. told ≡ output) told
  named_told rose (Ok output) told so read made says =
      let known = have_bytes 65536 files (as_list lesson) (as_list given) read in
      rw says (named_causes rose output so made known.bytes known.had known.content)
  named_told rose (Err (stop.Refused refusal)) (Ok output) so read made says = absurd says
  named_told rose (Err (stop.Refused refusal)) (Err complaint) so read made says = tt
  named_told rose (Err stop.Memory) told so read made says = rw says tt
