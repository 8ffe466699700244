-- What `class` makes of its list (`class_made`, `list_refused`) and of names that the words give
-- (`files_made`), and what was read of the files (`next_read`, `place_unread`, `class_in`,
-- `name_unread`).
use Rattle.std.proofs.Common.{◌≡◌, ◌⊎◌, ℕ, zero, suc, ◌+◌, ◌<◌, List, [], ◌∷◌, ◌++◌, length, map, take, drop, zip, get_or, Global, Result, Ok, Err, inl, inr, refl, ap, sym, subst, ◌∙◌, arith}
use Rattle.std.specs.Prelude.{String, string_bytes}
use Rattle.std.specs.List.{AllZip}
use Rattle.std.proofs.lemmas.List.{length-map, take_more}
use Rattle.fux_port.specs.Files.{IsMissing}
use Rattle.class_marker.specs.declared.one.Text.{Text as Content}
use Rattle.class_marker.specs.Lists.{listed_names}
use Rattle.class_marker.specs.Markings.{IsContent}
use Rattle.class_marker.specs.declared.class.ClassReport.{ClassReport}
use Rattle.class_marker.specs.Reports.{Entry, IsEntry, IsReport, marked_in}
use Rattle.works.specs.declared.complaint.Complaint.{Complaint}
use Rattle.works.specs.declared.complaint.Complaint.TheVariants.{Usage, Refused, Unreadable, Unwritable, OutOfMemory}
use Rattle.works.specs.declared.refusal.Refusal.TheVariants as refusal
use Rattle.works.specs.declared.work.Output.{Output}
use Rattle.works.specs.declared.work.Verdict.{Verdict}
use Rattle.works.specs.Classes.{IsClass, IsEntryOf, class_verdict}
use Rattle.command_words.specs.Commands.{class_files, class_report}
use Rattle.works.specs.TaskFiles.{names_listed}
use Rattle.works.specs.Complaints.{name_text, refusal_text}
use Rattle.works.specs.Listed.{IsClassIn, IsUnreadAt, ReportsFiles, name_at}
use Rattle.works.specs.Endings.{IsMade, SaysRefusal}
use Rattle.works.specs.Works.{AreContents, AreRead, Files, IsFirstMissing, IsRead}
use Rattle.works.proofs.MakeLemmas.{have_bytes}
use Rattle.works.proofs.WorkLemmas.{not_missing}

-- ---- files that are read one after the other

-- one file more
pub one_read : (limit : ℕ) (files : Files) (names : List (List ℕ)) (contents : List Content) (name : List ℕ) (content : Content)
    → AreRead limit files names contents → IsRead limit files name content
    → AreRead limit files (names ++ name ∷ []) (contents ++ content ∷ [])
one_read limit files [] [] name content read one = (one, tt)
one_read limit files [] (other ∷ contents) name content read one = absurd read
one_read limit files (first ∷ names) [] name content read one = absurd read
one_read limit files (first ∷ names) (other ∷ contents) name content read one =
    (read.0, one_read limit files names contents name content read.1 one)

-- a file that is missing behind those that were read is the first that is missing
pub first_missing : (limit : ℕ) (files : Files) (names more : List (List ℕ)) (contents : List Content) (name : List ℕ)
    → AreRead limit files names contents → IsMissing files name → IsFirstMissing files (names ++ name ∷ more) name
first_missing limit files [] more [] name read missing = inl (refl, missing)
first_missing limit files [] more (other ∷ contents) name read missing = absurd read
first_missing limit files (first ∷ names) more [] name read missing = absurd read
first_missing limit files (first ∷ names) more (other ∷ contents) name read missing =
    inr (not_missing files first read.0.bytes read.0.had, first_missing limit files names more contents name read.1 missing)

pub same_count : (limit : ℕ) (files : Files) (names : List (List ℕ)) (contents : List Content)
    → AreRead limit files names contents → length names ≡ length contents
same_count limit files [] [] read = refl
same_count limit files [] (other ∷ contents) read = absurd read
same_count limit files (first ∷ names) [] read = absurd read
same_count limit files (first ∷ names) (other ∷ contents) read =
    omega (arith, same_count limit files names contents read.1)

-- a list is what stands before a place, what stands there, and the rest
pub parts_at : {X : Type 0} (k : ℕ) (xs : List X) (d : X) → k < length xs
    → xs ≡ take k xs ++ get_or xs k d ∷ drop (suc k) xs
parts_at k [] d within = absurd (omega (arith, within))
parts_at zero (x ∷ xs) d within = refl
parts_at (suc k) (x ∷ xs) d within = ap (λ ys. x ∷ ys) (parts_at k xs d (omega (arith, within)))

pub same_at : {X : Type 0} (k : ℕ) (xs : List X) (d e : X) → k < length xs → get_or xs k d ≡ get_or xs k e
same_at k [] d e within = absurd (omega (arith, within))
same_at zero (x ∷ xs) d e within = refl
same_at (suc k) (x ∷ xs) d e within = same_at k xs d e (omega (arith, within))

pub map_at : (k : ℕ) (names : List (String Global)) (d : String Global) → k < length names
    → get_or (map string_bytes names) k (string_bytes d) ≡ string_bytes (get_or names k d)
map_at k [] d within = absurd (omega (arith, within))
map_at zero (name ∷ names) d within = refl
map_at (suc k) (name ∷ names) d within = map_at k names d (omega (arith, within))

module _ (files now_files : Files) (names : List (String Global)) (place : ℕ) (name : String Global) (texts : List Content)
    (within : place < length names) (named : name ≡ get_or names place name)
    (read : AreRead 65536 files (take place (map string_bytes names)) texts) (same : now_files ≡ files) where
  here : get_or (map string_bytes names) place (string_bytes name) ≡ string_bytes name
  here = map_at place names name within ∙ sym (ap string_bytes named)

  many : place < length (map string_bytes names)
  many = rw length-map within

  pub named_at : name_at (map string_bytes names) place ≡ string_bytes name
  named_at = same_at place (map string_bytes names) [] (string_bytes name) many ∙ here

  pub next_read : (text : Content) (more : List Content) → IsRead 65536 now_files (string_bytes name) text
      → more ≡ texts ++ text ∷ [] → AreRead 65536 files (take (place + 1) (map string_bytes names)) more
  next_read text more one longer =
      let all = map string_bytes names in
      rw (take_more all place (string_bytes name) many, here, longer)
      (one_read 65536 files (take place all) texts (string_bytes name) text read (rw same at one))

  pub place_unread : (rose later : Type 0) → (later → rose) → later ⊎ IsMissing now_files (string_bytes name)
      → (place < length (map string_bytes names))
      × (rose ⊎ IsFirstMissing files (map string_bytes names) (name_at (map string_bytes names) place))
  place_unread rose later so (inl failed) = (many, inl (so failed))
  place_unread rose later so (inr missing) =
      let all = map string_bytes names in
      let name_is : name_at all place ≡ string_bytes name = same_at place all [] (string_bytes name) many ∙ here in (
        many,
        inr (subst (λ l. IsFirstMissing files l (name_at all place)) (sym (parts_at place all [] many))
            (first_missing 65536 files (take place all) (drop (suc place) all) texts (name_at all place) read
            (rw name_is (rw same at missing)))),
      )

-- the file under the name of a place can't be read
pub name_unread : (files : Files) (rose : Type 0) (names : List (List ℕ)) (place : ℕ) (complaint : Complaint)
    → place < length names → rose ⊎ IsFirstMissing files names (name_at names place) → IsUnreadAt names place complaint
    → ReportsFiles files rose names (Err complaint)
name_unread files rose names place (Unreadable name) within cause at = record {
  asked = (place, within, same_at place names (name_text name) [] within ∙ sym at);
  cause = rw at cause;
}
name_unread files rose names place Usage within cause at = absurd at
name_unread files rose names place (Refused text) within cause at = absurd at
name_unread files rose names place Unwritable within cause at = absurd at
name_unread files rose names place OutOfMemory within cause at = absurd at

-- ---- the report

pub entries_of : (names : List (String Global)) (texts : List Content) (bytes : List (List ℕ)) (entries : List Entry)
    → length names ≡ length texts → AllZip IsEntry (zip names texts) entries → AreContents 65536 texts bytes
    → AllZip IsEntryOf (zip (map string_bytes names) bytes) entries
entries_of [] texts bytes [] same each content = tt
entries_of [] texts bytes (entry ∷ entries) same each content = absurd each
entries_of (name ∷ names) [] bytes entries same each content = absurd (omega (arith, same))
entries_of (name ∷ names) (text ∷ texts) [] entries same each content = absurd content
entries_of (name ∷ names) (text ∷ texts) (file ∷ bytes) [] same each content = absurd each
entries_of (name ∷ names) (text ∷ texts) (file ∷ bytes) (entry ∷ entries) same each content = (
  (each.0.0, each.0.1 file content.0),
  entries_of names texts bytes entries (omega (arith, same)) each.1 content.1,
)

-- the output of a report
pub class_told : (names : List (String Global)) (texts : List Content) (bytes : List (List ℕ)) (report : ClassReport)
    (output : Output) (verdict : Verdict)
    → length names ≡ length texts → IsReport (zip names texts) report
    → verdict ≡ class_verdict report.marked report.refused
    → output ≡ record { verdict = verdict; bytes = string_bytes report.text } → AreContents 65536 texts bytes
    → IsClass (map string_bytes names) bytes output
class_told names texts bytes report output verdict same is said made content = record {
  entries = is.entries;
  each = entries_of names texts bytes is.entries same is.each content;
  bytes = ap (λ (o : Output). o.bytes) made ∙ is.text;
  verdict = ap (λ (o : Output). o.verdict) made
      ∙ (said
      ∙ (ap (λ m. class_verdict m report.refused) is.marked
      ∙ ap (λ n. class_verdict (marked_in is.entries) n) is.refused));
}

pub class_in : (files : Files) (names : List (List ℕ)) (contents : List Content) (output : Output)
    → AreRead 65536 files names contents
    → ((bytes : List (List ℕ)) → AreContents 65536 contents bytes → IsClass names bytes output)
    → IsClassIn files names output
class_in files names contents output read reported =
    let known = have_bytes 65536 files names contents read in
    record { texts = known.bytes; had = known.had; reported = reported known.bytes known.content }

-- ---- the list

module _ (list : List ℕ) (files : Files) (rose : Type 0) (text : Content) (read : IsRead 65536 files list text) where
  pub class_made : (later_files : Files) (later : Type 0) (names : List (List ℕ)) (told : Result Output Complaint)
      → ((bytes : List ℕ) → IsContent 65536 text bytes → listed_names bytes ≡ Ok names)
      → later_files ≡ files → (later → rose) → ReportsFiles later_files later names told
      → IsMade (class_report list) files rose told
  class_made later_files later names (Ok output) listed same so made = record {
    bytes = read.bytes ∷ [];
    had = (read.had, tt);
    work = Ok output;
    made = record {
      names = names;
      listed = listed read.bytes read.content;
      texts = made.texts;
      had = rw same at made.had;
      reported = made.reported;
    };
    holds = refl;
  }
  class_made later_files later names (Err (Unreadable name)) listed same so made = inr record {
    bytes = read.bytes ∷ [];
    had = (read.had, tt);
    ready = record { names = names; listed = listed read.bytes read.content };
    unread = rw (ap names_listed (listed read.bytes read.content)) record {
      asked = made.asked;
      cause = elim made.cause [ inl failed ↦ inl (so failed) | inr first ↦ inr (rw same at first) ];
    };
  }
  class_made later_files later names (Err OutOfMemory) listed same so made = tt
  class_made later_files later names (Err Usage) listed same so made = absurd made
  class_made later_files later names (Err (Refused said)) listed same so made = absurd made
  class_made later_files later names (Err Unwritable) listed same so made = absurd made

  -- a list that is at fault
  pub list_refused : (line : ℕ) (complaint : Complaint)
      → ((bytes : List ℕ) → IsContent 65536 text bytes → listed_names bytes ≡ Err line)
      → SaysRefusal (refusal_text list (refusal.List line)) complaint → IsMade (class_report list) files rose (Err complaint)
  list_refused line (Refused said) fault says = record {
    bytes = read.bytes ∷ [];
    had = (read.had, tt);
    work = Err (refusal.List line);
    made = fault read.bytes read.content;
    holds = record { refusal = refusal.List line; is = refl; told = says };
  }
  list_refused line OutOfMemory fault says = tt
  list_refused line Usage fault says = absurd says
  list_refused line (Unreadable name) fault says = absurd says
  list_refused line Unwritable fault says = absurd says

-- ---- files that the words name

pub files_made : (names : List (List ℕ)) (files : Files) (rose : Type 0) (told : Result Output Complaint)
    → ReportsFiles files rose names told → IsMade (class_files names) files rose told
files_made names files rose (Ok output) made =
    record { bytes = made.texts; had = made.had; work = Ok output; made = made.reported; holds = refl }
files_made names files rose (Err (Unreadable name)) made = inl made
files_made names files rose (Err OutOfMemory) made = tt
files_made names files rose (Err Usage) made = absurd made
files_made names files rose (Err (Refused said)) made = absurd made
files_made names files rose (Err Unwritable) made = absurd made

-- a word is the name at its place
pub word_at : (names : List (String Global)) (place : ℕ) (name : String Global) (word : List ℕ) → place < length names
    → name ≡ get_or names place name → word ≡ string_bytes name → word ≡ name_at (map string_bytes names) place
word_at names place name word within named is =
    let many : place < length (map string_bytes names) = rw length-map within in
    is ∙ ap string_bytes named ∙ sym (map_at place names name within)
    ∙ same_at place (map string_bytes names) (string_bytes name) [] many
