-- What `clap` finds in the words that it takes (`rows_found`, `none_found`), and what is asked by
-- that of a command (`asked_so`, `none_asked`) and of names behind `--files` (`files_so`,
-- `no_files`).
use Rattle.std.proofs.Common.{◌≡◌, List, [], ◌∷◌, true, Option, Some, None, refl, subst}
use Rattle.std.proofs.lemmas.Bool.{and_parts}
use Rattle.clap.specs.Words.{App, IsAmong, Kinds, Row, Text, fault_of, is_simple, is_simple_and_free, matches_of}
use Rattle.clap.specs.declared.error.kind.ErrorKind.{ErrorKind}
use Rattle.command_words.specs.Commands.{Task, ◌>>=◌, asked_by, asked_on, asks, files_asked, found_in, if_faultless}
use Rattle.command_words.specs.Forms.{files_form, form_of}
use Rattle.command_words.specs.declared.verbs.Verb.{Verb}

-- words in which nothing is at fault have these rows
pub rows_found : (app : App) (words : List Text) (rows : List Row) → fault_of app words ≡ [] → rows
    ≡ matches_of app words
    → Some rows ≡ found_in app words
rows_found app words rows clean is = rw (clean, is) refl

none_if_faulty : {X : Type 0} (kind : ErrorKind) (kinds : Kinds) (x : X) → IsAmong kind kinds → None
    ≡ if_faultless kinds x
none_if_faulty kind [] x among = absurd among
none_if_faulty kind (other ∷ kinds) x among = refl

-- words in which something is at fault have none
pub none_found : (app : App) (words : List Text) (kind : ErrorKind) → IsAmong kind (fault_of app words) → None
    ≡ found_in app words
none_found app words kind among = none_if_faulty kind (fault_of app words) (matches_of app words) among

-- a simple command whose arguments have no rule on another is simple
pub simple_of : (app : App) → is_simple_and_free app ≡ true → is_simple app ≡ true
simple_of app both = (and_parts (is_simple app) _ both).0

-- what is asked by the rows that were found
pub asked_so : (verb : Verb) (form : App) (words : List Text) (rows : List Row) (task : Option Task)
    → Some rows ≡ found_in form words → form ≡ form_of verb → task ≡ asks verb rows → task ≡ asked_by verb words
asked_so verb form words rows task found same is = rw (← same, ← found) is

-- nothing, where none were
pub none_asked : (verb : Verb) (form : App) (words : List Text) → None ≡ found_in form words → form ≡ form_of verb
    → None ≡ asked_by verb words
none_asked verb form words found same = rw (← same, ← found) refl

-- what is asked on names by the rows that were found
pub files_so : (names words : List Text) (form : App) (rows : List Row) (task : Option Task)
    → Some rows ≡ found_in form words → form ≡ files_form → task ≡ files_asked names rows → task ≡ asked_on words names
files_so names words form rows task found same is =
    subst (λ (app : App). task ≡ (found_in app words >>= files_asked names)) same (rw (← found) is)

pub no_files : (names words : List Text) (form : App) → None ≡ found_in form words → form ≡ files_form
    → None ≡ asked_on words names
no_files names words form found same =
    subst (λ (app : App). None ≡ (found_in app words >>= files_asked names)) same (rw (← found) refl)
