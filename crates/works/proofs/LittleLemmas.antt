-- A command that reads files within its work: how much (`check_little`, `cantus_little`,
-- `class_little`, `whole_little`, `named_little`), and that it reads on to one that it can't read (`reads_on`, `reads_on_alone`,
-- `list_reads_on`).
use Rattle.std.proofs.Common.{◌≡◌, ℕ, ◌+◌, ◌*◌, ◌≤◌, List, [], ◌∷◌, Contains, length, map, Global, Option, Result, Ok, Err, ap, refl, sym, subst, ◌∙◌, inr, arith}
use Rattle.std.specs.Prelude.{String, string_bytes}
use Rattle.std.proofs.lemmas.List.{length-map}
use Rattle.class_marker.specs.LooseLists.{loose_names}
use Rattle.class_marker.specs.Lists.{listed_names}
use Rattle.class_marker.specs.Markings.{IsContent}
use Rattle.class_marker.specs.declared.one.Text.{Text as Content}
use Rattle.command_words.specs.declared.command.FileKind.{FileKind}
use Rattle.command_words.specs.declared.command.FileKind.TheVariants as read_as
use Rattle.command_words.specs.declared.command.Wanted.{Wanted}
use Rattle.command_words.specs.Commands.{check, check_cantus, class_report, whole_class, whole_files}
use Rattle.works.specs.declared.work.Output.{Output}
use Rattle.works.specs.declared.work.Unmade.{Unmade}
use Rattle.works.specs.declared.work.Unmade.TheVariants as unmade
use Rattle.works.specs.Blame.{ReadsOnTo}
use Rattle.works.specs.Checked.{AnswersWithin}
use Rattle.works.specs.Little.{ReadsLittle}
use Rattle.works.specs.TaskFiles.{as_list, names_listed}
use Rattle.works.specs.Texts.{Work}
use Rattle.works.specs.WholeClasses.{limit_of}
use Rattle.works.specs.Works.{AllMayHave, AreContents, AreRead, Files, IsRead, IsReadySheet, IsReadyText, OnTexts}
use Rattle.works.proofs.MakeLemmas.{have_bytes}

pub check_little : (files : Files) (name certificate : List ℕ) (sheet : Option (List ℕ)) (bytes : List (List ℕ))
    (old first second new : ℕ) → AllMayHave files (name ∷ as_list sheet) bytes → first ≤ old + 65537
    → second ≤ first + 65537 * length (as_list sheet) → new ≤ second + 1073741825
    → ReadsLittle (check name certificate sheet) files old new
check_little files name certificate sheet bytes old first second new had one two three =
    inr record { bytes = bytes; had = had; most = omega (arith, one, two, three) }

pub cantus_little : (files : Files) (wanted : Wanted) (certificate : List ℕ) (sheet : Option (List ℕ))
    (bytes : List (List ℕ)) (old first new : ℕ) → AllMayHave files (as_list sheet) bytes
    → first ≤ old + 65537 * length (as_list sheet) → new ≤ first + 1073741825
    → ReadsLittle (check_cantus wanted certificate sheet) files old new
cantus_little files wanted certificate sheet bytes old first new had one two =
    inr record { bytes = bytes; had = had; most = omega (arith, one, two) }

pub class_little : (files : Files) (list : List ℕ) (content : Content) (names : List (String Global)) (old first new : ℕ)
    → IsRead 65536 files list content
    → ((bytes : List ℕ) → IsContent 65536 content bytes → listed_names bytes ≡ Ok (map string_bytes names))
    → first ≤ old + 65537 → new ≤ first + 65537 * length names → ReadsLittle (class_report list) files old new
class_little files list content names old first new read listed one two =
    let count : length (names_listed (listed_names read.bytes)) ≡ length names =
    ap (λ found. length (names_listed found)) (listed read.bytes read.content) ∙ length-map names string_bytes in
    inr record { bytes = read.bytes ∷ []; had = (read.had, tt); most = omega (arith, one, two, count) }

pub loose_little : (kind : FileKind) (content : Content) (names : List (String Global)) (old new : ℕ)
    → ((bytes : List ℕ) → IsContent 65536 content bytes → loose_names bytes ≡ Ok (map string_bytes names))
    → new ≤ old + (limit_of kind + 1) * length names → (bytes : List ℕ) → IsContent 65536 content bytes
    → new ≤ old + (limit_of kind + 1) * length (names_listed (loose_names bytes))
loose_little kind content names old new listed most bytes is =
    let count : length (names_listed (loose_names bytes)) ≡ length names =
    ap (λ found. length (names_listed found)) (listed bytes is) ∙ length-map names string_bytes in
    subst (λ n. new ≤ old + (limit_of kind + 1) * n) (sym count) most

-- of one file more at most a byte beyond the limit
pub one_little : (kind : FileKind) (old now next place : ℕ) → now ≤ old + (limit_of kind + 1) * place
    → next ≤ now + (limit_of kind + 1) → next ≤ old + (limit_of kind + 1) * (place + 1)
one_little read_as.Text old now next place before one = omega (arith, before, one)
one_little read_as.Page old now next place before one = omega (arith, before, one)
one_little (read_as.Midi manner) old now next place before one = omega (arith, before, one)

pub whole_little : (files : Files) (list : List ℕ) (lesson : Option (List ℕ)) (kind : FileKind) (text : Content) (given : Option Content)
    (old first second new : ℕ) → AreRead 65536 files (list ∷ as_list lesson) (text ∷ as_list given)
    → first ≤ old + 65537 → second ≤ first + 65537 * length (as_list lesson)
    → ((bytes : List ℕ) → IsContent 65536 text bytes
    → new ≤ second + (limit_of kind + 1) * length (names_listed (loose_names bytes)))
    → ReadsLittle (whole_class list lesson kind) files old new
whole_little files list lesson kind text given old first second new read one two three =
    let more = have_bytes 65536 files (as_list lesson) (as_list given) read.1 in
    inr record {
      bytes = read.0.bytes ∷ more.bytes;
      had = (read.0.had, more.had);
      most = omega (arith, one, two, three read.0.bytes read.0.content);
    }

pub named_little : (files : Files) (names : List (List ℕ)) (lesson : Option (List ℕ)) (kind : FileKind)
    (given : Option Content) (old first new : ℕ) → AreRead 65536 files (as_list lesson) (as_list given)
    → first ≤ old + 65537 * length (as_list lesson) → new ≤ first + (limit_of kind + 1) * length names
    → ReadsLittle (whole_files names lesson kind) files old new
named_little files names lesson kind given old first new read one two =
    let known = have_bytes 65536 files (as_list lesson) (as_list given) read in
    inr record { bytes = known.bytes; had = known.had; most = omega (arith, one, two) }

-- a list whose lines aren't at fault is read on from
pub list_reads_on : (files : Files) (list : List ℕ) (content : Content) (names : List (String Global)) (name : List ℕ)
    → IsRead 65536 files list content
    → ((bytes : List ℕ) → IsContent 65536 content bytes → listed_names bytes ≡ Ok (map string_bytes names))
    → Contains (map string_bytes names) name → ReadsOnTo (class_report list) files name
list_reads_on files list content names name read listed one =
    let is = listed read.bytes read.content in
    record {
      bytes = read.bytes ∷ [];
      had = (read.had, tt);
      ready = record { names = map string_bytes names; listed = is };
      named = subst (λ found. Contains (names_listed found) name) (sym is) one;
    }

-- a command reads on to a certificate that it can't read
pub reads_on : (files : Files) (name certificate : List ℕ) (sheet : Option (List ℕ)) (text : Content)
    (weights : Option Content) (Made : List ℕ → List (List ℕ) → Work → Type 0) (unread : Type 0)
    (answer : Result Output Unmade) → AreRead 65536 files (name ∷ as_list sheet) (text ∷ as_list weights)
    → OnTexts text weights (λ bytes sheets. AnswersWithin (Made bytes sheets) (IsReadyText sheets bytes × unread) answer)
    → answer ≡ Err unmade.Unreadable → ReadsOnTo (check name certificate sheet) files certificate
reads_on files name certificate sheet text weights Made unread answer read checks is =
    let more = have_bytes 65536 files (as_list sheet) (as_list weights) read.1 in
    let known = subst (λ a. AnswersWithin (Made read.0.bytes more.bytes) (IsReadyText more.bytes read.0.bytes × unread) a)
    is (checks read.0.bytes more.bytes read.0.content more.content) in
    record {
      bytes = read.0.bytes ∷ more.bytes;
      had = (read.0.had, more.had);
      ready = known.0;
      named = (0, omega arith, refl);
    }

pub reads_on_alone : (files : Files) (wanted : Wanted) (certificate : List ℕ) (sheet : Option (List ℕ))
    (weights : Option Content) (Made : List (List ℕ) → Work → Type 0) (unread : Type 0) (answer : Result Output Unmade)
    → AreRead 65536 files (as_list sheet) (as_list weights)
    → ((sheets : List (List ℕ)) → AreContents 65536 (as_list weights) sheets
    → AnswersWithin (Made sheets) (IsReadySheet sheets × unread) answer)
    → answer ≡ Err unmade.Unreadable → ReadsOnTo (check_cantus wanted certificate sheet) files certificate
reads_on_alone files wanted certificate sheet weights Made unread answer read checks is =
    let more = have_bytes 65536 files (as_list sheet) (as_list weights) read in
    let known = subst (λ a. AnswersWithin (Made more.bytes) (IsReadySheet more.bytes × unread) a) is
    (checks more.bytes more.content) in
    record { bytes = more.bytes; had = more.had; ready = known.0; named = (0, omega arith, refl) }
