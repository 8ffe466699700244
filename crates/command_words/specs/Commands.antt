-- What the words on the command line ask for. A word is its bytes.
use Rattle.std.specs.Prelude.{◌≡◌, ℕ, ◌+◌, ◌-◌, ◌==◌, ◌≤◌, ◌≤ℤ◌, ◌&&◌, ◌||◌, int_le, nat_le, not, length, Bool, true, false, List, [], ◌∷◌, String, Option, Some, None, drop, take, map, string_bytes, codes, if◌then◌else◌, option_and_then, option_map}
use Rattle.std.specs.Borrow.{Bor}
use Rattle.std.specs.Option.{option_map_or}
use Rattle.std.specs.Str.{bytes_eq}
use Rattle.clap.specs.Words.{App, Kinds, Row, Text, fault_of, first_of, matches_of}
use Rattle.cert_text.specs.declared.answers.Form.{Form}
use Rattle.cert_text.specs.declared.answers.Form.TheVariants.{First, Second, Third}
use Rattle.fux_grid.specs.declared.exercise.Head.{Head}
use Rattle.fux_grid.specs.Namings.{AreNamed}
use Rattle.fux_pitch.specs.Pitch.{key_of}
use Rattle.fux_text.specs.Names.{mode_named, pitch_named}
use Rattle.smf_score.specs.declared.manner.Manner.{Manner}
use Rattle.smf_score.specs.Heads.{IsHead}
use Rattle.text_lines.specs.Numbers.{number_within}
use Rattle.command_words.specs.declared.command.Command.{Command}
use Rattle.command_words.specs.declared.command.Command.TheVariants.{Certify, CertifyCantus, Make, WholeClass, WholeFiles}
use Rattle.command_words.specs.declared.command.FileKind.{FileKind}
use Rattle.command_words.specs.declared.command.FileKind.TheVariants as read_as
use Rattle.command_words.specs.declared.command.Job.{Job}
use Rattle.command_words.specs.declared.command.Job.TheVariants.{Compose, Best, Mark, Weigh, Cantus, CantusCharges, Print, ToSmf, ToXml, MarkXml, Picture, MarkPicture, ComposeNth}
use Rattle.command_words.specs.declared.command.MixedJob.{MixedJob}
use Rattle.command_words.specs.declared.command.MixedJob.TheVariants as mixed
use Rattle.command_words.specs.declared.command.Making.{Making}
use Rattle.command_words.specs.declared.command.Making.TheVariants.{OnExercise, OnMixed, Check, FromSmf, JoinSmf, Drill, MarkAnswer, Class, ClassFiles, Canon, NewCantus, CheckCantus, Explain}
use Rattle.command_words.specs.declared.command.Subject.{Subject}
use Rattle.command_words.specs.declared.command.Subject.TheVariants as subject
use Rattle.command_words.specs.declared.command.Search.{Search}
use Rattle.command_words.specs.declared.command.Wanted.{Wanted}
use Rattle.command_words.specs.declared.verbs.Verb.{Verb}
use Rattle.command_words.specs.declared.verbs.Verb.TheVariants as verb
use Rattle.command_words.specs.Forms.{files_form, form_of}
use Rattle.command_words.specs.Verbs.{verb_named}

-- words as their bytes
abbrev pub texts : {Y : Type 0} → List (String Y) → List Text
texts words = map string_bytes words

-- a command, with the names of its files
pub data Task : Type 0 where
  on_exercise : (name : Text) (sheet : Option Text) (job : Job) → Task
  on_mixed : (name : Text) (sheet : Option Text) (named : List (Option ℕ)) (job : MixedJob) → Task
  certify : (name : Text) (sheet : Option Text) (budget : ℕ) (form : Form) → Task
  check : (name certificate : Text) (sheet : Option Text) → Task
  explain : (name : Text) (subject : Subject) → Task
  fromsmf : (name : Text) (head : Head) → Task
  join_smf : (lesson name : Text) (manner : Manner) → Task
  drill : (number : ℕ) (by_sharper : Bool) → Task
  mark_answer : (name lesson : Text) → Task
  class_report : (list : Text) → Task
  class_files : (names : List Text) → Task
  whole_class : (list : Text) (lesson : Option Text) (kind : FileKind) → Task
  whole_files : (names : List Text) (lesson : Option Text) (kind : FileKind) → Task
  find_canon : (name : Text) (sheet : Option Text) (search : Search) → Task
  find_cantus : (wanted : Wanted) (sheet : Option Text) (search : Search) → Task
  certify_cantus : (wanted : Wanted) (sheet : Option Text) (budget : ℕ) → Task
  check_cantus : (wanted : Wanted) (certificate : Text) (sheet : Option Text) → Task

-- the name of a sheet or a lesson, as its bytes
abbrev pub sheet_named : Option (Bor (List ℕ)) → Option (List ℕ)
sheet_named = option_map (λ name. name.now)

-- what a command asks for
abbrev pub making_task : Making → Task
making_task (OnExercise name sheet job) = on_exercise name.now (sheet_named sheet) job
making_task (OnMixed name sheet named job) = on_mixed name.now (sheet_named sheet) named job
making_task (Check name certificate sheet) = check name.now certificate.now (sheet_named sheet)
making_task (Explain name subject) = explain name.now subject
making_task (FromSmf name head) = fromsmf name.now head
making_task (JoinSmf lesson name manner) = join_smf lesson.now name.now manner
making_task (Drill number by_sharper) = drill number by_sharper
making_task (MarkAnswer name lesson) = mark_answer name.now lesson.now
making_task (Class list) = class_report list.now
making_task (ClassFiles names) = class_files (texts names.now)
making_task (Canon name sheet search) = find_canon name.now (sheet_named sheet) search
making_task (NewCantus wanted sheet search) = find_cantus wanted (sheet_named sheet) search
making_task (CheckCantus wanted certificate sheet) = check_cantus wanted certificate.now (sheet_named sheet)

abbrev pub task_of : Command → Task
task_of (Make making) = making_task making
task_of (WholeClass list lesson kind) = whole_class list.now (sheet_named lesson) kind
task_of (WholeFiles names lesson kind) = whole_files (texts names.now) (sheet_named lesson) kind
task_of (Certify name sheet budget form) = certify name.now (sheet_named sheet) budget form
task_of (CertifyCantus wanted sheet budget) = certify_cantus wanted (sheet_named sheet) budget

-- the species that a subject names, where it names some
abbrev pub IsNamedSubject : Subject → Type 0
IsNamedSubject (subject.Mixed named) = AreNamed named
IsNamedSubject subject.Setting = Unit {0}
IsNamedSubject subject.Cantus = Unit {0}

-- what is asked of a new cantus is within the limits
pub record IsWanted (wanted : Wanted) : Type 0 where
  pub fewest : 3 ≤ wanted.bars
  pub most : wanted.bars ≤ 24
  pub rise : key_of wanted.low ≤ℤ key_of wanted.high

-- the head of a command is one that an exercise may have, the species that it names are from 2 to
-- 5, and what it asks of a new cantus is within the limits
abbrev pub HasMidiHead : Making → Type 0
HasMidiHead (OnMixed name sheet named job) = AreNamed named
HasMidiHead (Explain name subject) = IsNamedSubject subject
HasMidiHead (FromSmf name head) = IsHead head
HasMidiHead (NewCantus wanted sheet search) = IsWanted wanted
HasMidiHead (CheckCantus wanted certificate sheet) = IsWanted wanted
HasMidiHead _ = Unit {0}

abbrev pub HasHead : Command → Type 0
HasHead (Make making) = HasMidiHead making
HasHead (WholeClass list lesson kind) = Unit {0}
HasHead (WholeFiles names lesson kind) = Unit {0}
HasHead (Certify name sheet budget form) = Unit {0}
HasHead (CertifyCantus wanted sheet budget) = IsWanted wanted

-- a value where there is no fault
abbrev pub if_faultless : {X : Type 0} → Kinds → X → Option X
if_faultless [] x = Some x
if_faultless (fault ∷ faults) x = None

-- the values that `clap` finds in words that it takes
abbrev pub found_in : App → List Text → Option (List Row)
found_in app words = if_faultless (fault_of app words) (matches_of app words)

-- ---- what the values ask for

-- the first that is missing gives none
infixl 10 ◌>>=◌
abbrev pub ◌>>=◌ : {A B : Type 0} → Option A → (A → Option B) → Option B
x >>= f = option_and_then f x

-- a number from one to another, in digits without a sign or a leading zero
abbrev pub number_at : Text → ℕ → ℕ → List Row → Option ℕ
number_at id least most rows = first_of id rows >>= number_within least most

-- the budget: 1 to 4,000,000, and 1,000,000 where none is given
abbrev pub budget_in : Option Text → Option ℕ
budget_in None = Some 1000000
budget_in (Some text) = number_within 1 4000000 text

-- how many come before the one of a number, where it isn't the first
abbrev pub before_nth : ℕ → Option ℕ
before_nth nth = if nth == 1 then None else Some (nth - 1)

-- how many come before the one that is sought, by the word of its number, 1 to 10,000: the number 1
-- asks for what is sought where there is no word
abbrev pub before_in : Option Text → Option (Option ℕ)
before_in None = Some None
before_in (Some text) = option_map before_nth (number_within 1 10000 text)

-- what a search is asked for
abbrev pub search_in : List Row → Option Search
search_in rows = do
  budget ← budget_in (first_of (codes "budget") rows)
  before ← before_in (first_of (codes "nth") rows)
  Some (record { budget = budget; before = before })

-- the form: 1, 2 or 3, and the second where none is given
abbrev pub form_in : Option Text → Option Form
form_in None = Some Second
form_in (Some text) =
    if bytes_eq text (codes "1") then Some First
    else (if bytes_eq text (codes "2") then Some Second else (if bytes_eq text (codes "3") then Some Third else None))

-- a flag is given
abbrev pub is_set : Text → List Row → Bool
is_set id rows = option_map_or (bytes_eq (codes "true")) (first_of id rows) false

-- a head whose two voices differ
abbrev pub if_differ : Head → Option Head
if_differ head = if head.species_voice == head.cantus_voice then None else Some head

-- how a file is to be read
abbrev pub head_in : List Row → Option Head
head_in rows = do
  mode ← first_of (codes "mode") rows >>= mode_named
  species ← number_at (codes "species") 1 5 rows
  voice ← number_at (codes "voice") 0 3 rows
  cantus ← number_at (codes "cantus") 0 3 rows
  if_differ (record {
    mode = mode;
    species = species;
    species_voice = voice;
    cantus_voice = cantus;
    top_first = is_set (codes "top-first") rows;
  })

-- a search on an exercise, which is this job within a budget
abbrev pub search_asked : (ℕ → Job) → List Row → Option Task
search_asked job rows = do
  name ← first_of (codes "EX") rows
  budget ← budget_in (first_of (codes "budget") rows)
  Some (on_exercise name (first_of (codes "sheet") rows) (job budget))

-- the best setting, or the one of a number
abbrev pub composing_within : ℕ → Option ℕ → Job
composing_within budget None = Compose budget
composing_within budget (Some before) = ComposeNth before budget

abbrev pub composing : Search → Job
composing search = composing_within search.budget search.before

abbrev pub compose_asked : List Row → Option Task
compose_asked rows = do
  name ← first_of (codes "EX") rows
  search ← search_in rows
  Some (on_exercise name (first_of (codes "sheet") rows) (composing search))

abbrev pub best_asked : List Row → Option Task
best_asked rows = search_asked (λ budget. Best budget) rows

abbrev pub certify_asked : List Row → Option Task
certify_asked rows = do
  name ← first_of (codes "EX") rows
  budget ← budget_in (first_of (codes "budget") rows)
  form ← form_in (first_of (codes "form") rows)
  Some (certify name (first_of (codes "sheet") rows) budget form)

abbrev pub check_asked : List Row → Option Task
check_asked rows = do
  name ← first_of (codes "EX") rows
  certificate ← first_of (codes "CERT") rows
  Some (check name certificate (first_of (codes "sheet") rows))

-- a job that needs nothing but an exercise
abbrev pub job_asked : Job → List Row → Option Task
job_asked job rows = first_of (codes "EX") rows >>= λ name. Some (on_exercise name None job)

abbrev pub from_smf_asked : List Row → Option Task
from_smf_asked rows = do
  name ← first_of (codes "FILE") rows
  head ← head_in rows
  Some (fromsmf name head)

-- how MIDI files were played
abbrev pub manner_in : List Row → Manner
manner_in rows = record {
  top_first = is_set (codes "top-first") rows;
  legato = is_set (codes "legato") rows;
}

abbrev pub join_smf_asked : List Row → Option Task
join_smf_asked rows = do
  lesson ← first_of (codes "LESSON") rows
  name ← first_of (codes "FILE") rows
  Some (join_smf lesson name (manner_in rows))

abbrev pub drill_asked : List Row → Option Task
drill_asked rows =
    number_at (codes "N") 0 1000000 rows >>= λ number. Some (drill number (is_set (codes "best") rows))

-- marking an exercise alone, or as an answer to a lesson
abbrev pub marking_of : Text → Option Text → Task
marking_of name None = on_exercise name None Mark
marking_of name (Some lesson) = mark_answer name lesson

abbrev pub mark_asked : List Row → Option Task
mark_asked rows = first_of (codes "EX") rows >>= λ name. Some (marking_of name (first_of (codes "lesson") rows))

-- the marks of a cantus firmus alone, or with what it pays over a sheet
abbrev pub cantus_of : Text → Option Text → Task
cantus_of name None = on_exercise name None Cantus
cantus_of name (Some sheet) = on_exercise name (Some sheet) CantusCharges

abbrev pub cantus_asked : List Row → Option Task
cantus_asked rows = first_of (codes "EX") rows >>= λ name. Some (cantus_of name (first_of (codes "sheet") rows))

-- what the files of a class are: texts, or MIDI files where there is a lesson; words say how they
-- were played of MIDI files alone
abbrev pub kind_in : Option Text → Bool → Manner → Option FileKind
kind_in lesson false manner = if manner.top_first || manner.legato then None else Some read_as.Text
kind_in None true manner = None
kind_in (Some lesson) true manner = Some (read_as.Midi manner)

-- a page is made where that is wanted, and of texts alone
abbrev pub page_of : FileKind → Option FileKind
page_of read_as.Text = Some read_as.Page
page_of read_as.Page = None
page_of (read_as.Midi manner) = None

abbrev pub paged_in : Bool → FileKind → Option FileKind
paged_in is_page kind = if is_page then page_of kind else Some kind

abbrev pub files_in : List Row → Option FileKind
files_in rows = do
  kind ← kind_in (first_of (codes "lesson") rows) (is_set (codes "midi") rows) (manner_in rows)
  paged_in (is_set (codes "page") rows) kind

-- each name has its place, whatever its file is, where that is wanted, and in each page
abbrev pub goes_on : FileKind → Bool → Bool
goes_on read_as.Text wanted = wanted
goes_on read_as.Page wanted = true
goes_on (read_as.Midi manner) wanted = wanted

-- marking a class by itself; or by a lesson or going on, whatever its files are
abbrev pub classing_of : Text → Option Text → FileKind → Bool → Task
classing_of list None kind false = class_report list
classing_of list None kind true = whole_class list None kind
classing_of list (Some lesson) kind going_on = whole_class list (Some lesson) kind

abbrev pub class_asked : List Row → Option Task
class_asked rows = do
  list ← first_of (codes "LIST") rows
  kind ← files_in rows
  Some (classing_of list (first_of (codes "lesson") rows) kind (goes_on kind (is_set (codes "keep-going") rows)))

-- the same of files with these names
abbrev pub filing_of : List Text → Option Text → FileKind → Bool → Task
filing_of names None kind false = class_files names
filing_of names None kind true = whole_files names None kind
filing_of names (Some lesson) kind going_on = whole_files names (Some lesson) kind

-- there are as many names as a list may have: from 1 to 512
abbrev pub are_a_class : List Text → Bool
are_a_class names = nat_le 1 (length names) && nat_le (length names) 512

-- that many names
abbrev pub if_a_class : List Text → Option (List Text)
if_a_class names = if are_a_class names then Some names else None

abbrev pub files_asked : List Text → List Row → Option Task
files_asked words rows = do
  names ← if_a_class words
  kind ← files_in rows
  Some (filing_of names (first_of (codes "lesson") rows) kind (goes_on kind (is_set (codes "keep-going") rows)))

abbrev pub canon_asked : List Row → Option Task
canon_asked rows = do
  name ← first_of (codes "FILE") rows
  search ← search_in rows
  Some (find_canon name (first_of (codes "sheet") rows) search)

-- three bytes are an item `V:N` of a voice: its digit, a colon, and the digit of a species from 2
-- to 5
abbrev pub is_item : ℕ → ℕ → ℕ → ℕ → Bool
is_item v voice colon species = (voice == 48 + v) && (colon == 58) && nat_le 50 species && nat_le species 53

-- what a list says of a voice: the species that its first item names, where that is the voice's,
-- and the items behind it, before the first of which is a comma; none and the whole list where it
-- isn't
abbrev pub said_of : ℕ → Text → Option ℕ × Text
said_of v (voice ∷ colon ∷ species ∷ []) =
    if is_item v voice colon species then (Some (species - 48), []) else (None, voice ∷ colon ∷ species ∷ [])
said_of v (voice ∷ colon ∷ species ∷ comma ∷ next ∷ rest) =
    if (comma == 44) && is_item v voice colon species then (Some (species - 48), next ∷ rest)
    else (None, voice ∷ colon ∷ species ∷ comma ∷ next ∷ rest)
said_of v list = (None, list)

-- the species that a list names for each of the four voices: it has an item, its voices ascend, and
-- nothing is behind them
abbrev pub named_in : Text → Option (List (Option ℕ))
named_in list =
    let first = said_of 0 list in
    let second = said_of 1 first.1 in
    let third = said_of 2 second.1 in
    let fourth = said_of 3 third.1 in
    if not (length list == 0) && (length fourth.1 == 0) then Some (first.0 ∷ second.0 ∷ third.0 ∷ fourth.0 ∷ [])
    else None

-- what is to be explained: the setting, by the rules of the exercise or with the species that a
-- list names, or the cantus firmus alone, beside which there is no list
abbrev pub subject_in : Option Text → Bool → Option Subject
subject_in None false = Some subject.Setting
subject_in None true = Some subject.Cantus
subject_in (Some list) false = option_map (λ named. subject.Mixed named) (named_in list)
subject_in (Some list) true = None

abbrev pub explain_asked : List Row → Option Task
explain_asked rows = do
  name ← first_of (codes "FILE") rows
  subject ← subject_in (first_of (codes "with") rows) (is_set (codes "cantus") rows)
  Some (explain name subject)

-- a job on an exercise with the species that a list names
abbrev pub mixed_by : Text → Option Text → Text → MixedJob → Option Task
mixed_by name sheet list job = named_in list >>= λ named. Some (on_mixed name sheet named job)

-- the best setting of a mixed exercise, by sharper floors where these are asked for
abbrev pub mixing : ℕ → Bool → MixedJob
mixing budget true = mixed.Best budget
mixing budget false = mixed.Compose budget

abbrev pub mixed_asked : List Row → Option Task
mixed_asked rows = do
  name ← first_of (codes "EX") rows
  list ← first_of (codes "with") rows
  budget ← budget_in (first_of (codes "budget") rows)
  mixed_by name (first_of (codes "sheet") rows) list (mixing budget (is_set (codes "best") rows))

abbrev pub mark_mixed_asked : List Row → Option Task
mark_mixed_asked rows = do
  name ← first_of (codes "EX") rows
  list ← first_of (codes "with") rows
  mixed_by name None list mixed.Mark

-- the budget of the search that a setting is weighed against: `best` is the only one, and a budget
-- is given with it alone
abbrev pub against_in : Option Text → Option Text → Option (Option ℕ)
against_in None None = Some None
against_in None (Some budget) = None
against_in (Some word) budget =
    if bytes_eq word (codes "best") then option_map (λ n. Some n) (budget_in budget) else None

-- how many columns of a terminal a printed score has at most: 40 to 1,000, or any number
abbrev pub wrap_in : Option Text → Option (Option ℕ)
wrap_in None = Some None
wrap_in (Some text) = option_map (λ n. Some n) (number_within 40 1000 text)

abbrev pub print_asked : List Row → Option Task
print_asked rows = do
  name ← first_of (codes "EX") rows
  wrap ← wrap_in (first_of (codes "wrap") rows)
  Some (on_exercise name None (Print wrap))

-- a job on an exercise, or another with the species that a list names, where there is one
abbrev pub either_by : Text → Option Text → Job → MixedJob → Option Task
either_by name None job other = Some (on_exercise name None job)
either_by name (Some list) job other = mixed_by name None list other

abbrev pub either_asked : Job → MixedJob → List Row → Option Task
either_asked job other rows =
    first_of (codes "EX") rows >>= λ name. either_by name (first_of (codes "with") rows) job other

-- weighing the setting of an exercise, alone or against a search, and by its own species or with
-- those that a list names
abbrev pub weighing_with : Text → Option Text → Option Text → Option ℕ → Option Task
weighing_with name sheet None against = Some (on_exercise name sheet (Weigh against))
weighing_with name sheet (Some list) against = mixed_by name sheet list (mixed.Weigh against)

abbrev pub weigh_asked : List Row → Option Task
weigh_asked rows = do
  name ← first_of (codes "EX") rows
  against ← against_in (first_of (codes "against") rows) (first_of (codes "budget") rows)
  weighing_with name (first_of (codes "sheet") rows) (first_of (codes "with") rows) against

abbrev pub picture_asked : List Row → Option Task
picture_asked rows = do
  name ← first_of (codes "EX") rows
  Some (on_exercise name (first_of (codes "sheet") rows) (Picture (is_set (codes "penalty") rows)))

-- what is wanted, where its range doesn't fall
abbrev pub if_rising : Wanted → Option Wanted
if_rising wanted = if int_le (key_of wanted.low) (key_of wanted.high) then Some wanted else None

-- what is asked of a new cantus
abbrev pub wanted_in : List Row → Option Wanted
wanted_in rows = do
  mode ← first_of (codes "MODE") rows >>= mode_named
  bars ← number_at (codes "BARS") 3 24 rows
  low ← first_of (codes "LOW") rows >>= pitch_named
  high ← first_of (codes "HIGH") rows >>= pitch_named
  if_rising (record { mode = mode; bars = bars; low = low; high = high })

abbrev pub new_cantus_asked : List Row → Option Task
new_cantus_asked rows = do
  wanted ← wanted_in rows
  search ← search_in rows
  Some (find_cantus wanted (first_of (codes "sheet") rows) search)

abbrev pub certify_cantus_asked : List Row → Option Task
certify_cantus_asked rows = do
  wanted ← wanted_in rows
  budget ← budget_in (first_of (codes "budget") rows)
  Some (certify_cantus wanted (first_of (codes "sheet") rows) budget)

abbrev pub check_cantus_asked : List Row → Option Task
check_cantus_asked rows = do
  wanted ← wanted_in rows
  certificate ← first_of (codes "CERT") rows
  Some (check_cantus wanted certificate (first_of (codes "sheet") rows))

-- what the values in the words behind a command's first ask for
abbrev pub asks : Verb → List Row → Option Task
asks verb.Compose = compose_asked
asks verb.Best = best_asked
asks verb.Certify = certify_asked
asks verb.Check = check_asked
asks verb.Mark = mark_asked
asks verb.Explain = explain_asked
asks verb.Cantus = cantus_asked
asks verb.Print = print_asked
asks verb.ToSmf = job_asked ToSmf
asks verb.FromSmf = from_smf_asked
asks verb.JoinSmf = join_smf_asked
asks verb.Drill = drill_asked
asks verb.Class = class_asked
asks verb.Canon = canon_asked
asks verb.Mixed = mixed_asked
asks verb.MarkMixed = mark_mixed_asked
asks verb.Weigh = weigh_asked
asks verb.ToXml = job_asked ToXml
asks verb.MarkXml = either_asked MarkXml mixed.MarkXml
asks verb.Picture = picture_asked
asks verb.MarkPicture = either_asked MarkPicture mixed.Picture
asks verb.NewCantus = new_cantus_asked
asks verb.CertCantus = certify_cantus_asked
asks verb.CheckCantus = check_cantus_asked

-- what the words behind a command's first ask for, if they are of its form
abbrev pub asked_by : Verb → List Text → Option Task
asked_by verb words = found_in (form_of verb) words >>= asks verb

-- the place of the first word `--files` among some words, the first of which has this place
abbrev pub files_from : ℕ → List Text → Option ℕ
files_from place [] = None
files_from place (word ∷ words) =
    if bytes_eq word (codes "--files") then Some place else files_from (place + 1) words

-- its place among the words behind `class`
abbrev pub files_at : Text → List Text → Option ℕ
files_at word rest = if bytes_eq word (codes "class") then files_from 0 rest else None

-- what the words before `--files` ask for on the names behind it
abbrev pub asked_on : List Text → List Text → Option Task
asked_on words names = found_in files_form words >>= files_asked names

-- what a first word and the words behind it ask for: `class` on the names behind `--files`, which
-- has this place among them, or a command with words of its form
abbrev pub asked_at : Text → List Text → Option ℕ → Option Task
asked_at word rest None = verb_named word >>= λ verb. asked_by verb rest
asked_at word rest (Some place) = asked_on (take place rest) (drop (place + 1) rest)

-- what the words ask for, if they are of a command's form
abbrev pub asked : List Text → Option Task
asked [] = None
asked (word ∷ rest) = asked_at word rest (files_at word rest)
