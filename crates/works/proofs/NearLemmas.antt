-- How much is read of a certificate that is refused: what is known of the file when it is opened
-- (`near_since`), and of the command that opens it (`check_stops`, `cantus_stops`).
use Rattle.std.proofs.Common.{◌≡◌, ℕ, ◌+◌, ◌*◌, ◌≤◌, List, ◌∷◌, Option, Result, Ok, Err, length, arith}
use Rattle.std.specs.Prelude.{IfOk}
use Rattle.cert_file.proofs.NearLemmas.{read_moved}
use Rattle.cert_file.specs.Subjects.{Subject}
use Rattle.class_marker.specs.declared.one.Text.{Text as Content}
use Rattle.command_words.specs.Commands.{Task, check, check_cantus}
use Rattle.command_words.specs.declared.command.Wanted.{Wanted}
use Rattle.works.specs.declared.complaint.Complaint.{Complaint}
use Rattle.works.specs.declared.work.Output.{Output}
use Rattle.works.specs.declared.work.Unmade.{Unmade}
use Rattle.works.specs.declared.work.Unmade.TheVariants as unmade
use Rattle.works.specs.declared.work.Stop.TheVariants as stop
use Rattle.works.specs.Endings.{SaysWithin}
use Rattle.works.specs.Near.{ChecksCantusNear, ChecksTextNear, StopsNear, TellsNear}
use Rattle.works.specs.TaskFiles.{as_list}
use Rattle.works.specs.Works.{AreContents, AreRead, Files, OnTexts}
use Rattle.works.proofs.MakeLemmas.{have_bytes}

-- ---- what was given before

pub near_since : {H X : Type 0} (subject : Subject H X) (later files : Files) (certificate : List ℕ) (before mid given : ℕ)
    (Tells : List ℕ → Type 0) → later ≡ files → mid ≤ before → TellsNear subject later certificate mid given Tells
    → TellsNear subject files certificate before given Tells
near_since subject later files certificate before mid given Tells same few tells = record {
  said = tells.said;
  told = tells.told;
  near = read_moved subject later certificate files before mid given given tells.said same
      (λ read most. omega (arith, few, most)) tells.near;
}

-- ---- what is told

-- a command that tells the verdict otherwise stops as near
pub near_told : (task : Task) (files : Files) (old new : ℕ) (Tells Told : List ℕ → Type 0)
    → ((line : List ℕ) → Tells line → Told line) → StopsNear task files old new Tells → StopsNear task files old new Told
near_told (check name certificate sheet) files old new Tells Told so stops = record {
  text = stops.text;
  sheets = stops.sheets;
  had = stops.had;
  near = record {
    exercise = stops.near.exercise;
    is = stops.near.is;
    sheet = stops.near.sheet;
    said = stops.near.said;
    near = record {
      said = stops.near.near.said;
      told = so _ stops.near.near.told;
      near = stops.near.near.near;
    };
  };
}
near_told (check_cantus wanted certificate sheet) files old new Tells Told so stops = record {
  sheets = stops.sheets;
  had = stops.had;
  near = record {
    sheet = stops.near.sheet;
    said = stops.near.said;
    near = record {
      said = stops.near.near.said;
      told = so _ stops.near.near.told;
      near = stops.near.near.near;
    };
  };
}
near_told _ files old new Tells Told so stops = tt

-- what is said of an answer of a command that reads within its work, where this holds of each output
pub said_near : (name within : List ℕ) (Such : Output → Type 0) (answer : Result Output Unmade)
    (told : Result Output Complaint) → IfOk answer Such → SaysWithin name within answer told → IfOk told Such
said_near name within Such (Ok output) told such says = rw says such
said_near name within Such (Err (unmade.Stopped (stop.Refused refusal))) (Ok output) such says = absurd says
said_near name within Such (Err (unmade.Stopped (stop.Refused refusal))) (Err complaint) such says = tt
said_near name within Such (Err (unmade.Stopped stop.Memory)) told such says = rw says tt
said_near name within Such (Err unmade.Unreadable) (Ok output) such says = absurd says
said_near name within Such (Err unmade.Unreadable) (Err complaint) such says = tt

-- where nothing is to be told of an output
pub each_output : (result : Result Output Complaint) → IfOk result (λ _. Unit {0})
each_output (Ok output) = tt
each_output (Err complaint) = tt

-- ---- the two commands

-- the bytes of the files that were read before the certificate
pub check_stops : (files later : Files) (name certificate : List ℕ) (sheet : Option (List ℕ)) (text : Content)
    (weights : Option Content) (old first second new : ℕ) (Tells : Output → List ℕ → Type 0)
    (answer : Result Output Unmade) → AreRead 65536 files (name ∷ as_list sheet) (text ∷ as_list weights)
    → later ≡ files → first ≤ old + 65537 → second ≤ first + 65537 * length (as_list sheet)
    → OnTexts text weights
    (λ bytes sheets. IfOk answer (λ output. ChecksTextNear sheets bytes later certificate second new (Tells output)))
    → IfOk answer (λ output. StopsNear (check name certificate sheet) files old new (Tells output))
check_stops files later name certificate sheet text weights old first second new Tells (Err fault) read same one two near =
    tt
check_stops files later name certificate sheet text weights old first second new Tells (Ok output) read same one two near =
    let more = have_bytes 65536 files (as_list sheet) (as_list weights) read.1 in
    let known = near read.0.bytes more.bytes read.0.content more.content in
    record {
      text = read.0.bytes;
      sheets = more.bytes;
      had = (read.0.had, more.had);
      near = record {
        exercise = known.exercise;
        is = known.is;
        sheet = known.sheet;
        said = known.said;
        near = near_since _ later files certificate _ second new (Tells output) same (omega (arith, one, two)) known.near;
      };
    }

pub cantus_stops : (files later : Files) (wanted : Wanted) (certificate : List ℕ) (sheet : Option (List ℕ))
    (weights : Option Content) (old first new : ℕ) (Tells : Output → List ℕ → Type 0) (answer : Result Output Unmade)
    → AreRead 65536 files (as_list sheet) (as_list weights) → later ≡ files
    → first ≤ old + 65537 * length (as_list sheet)
    → ((sheets : List (List ℕ)) → AreContents 65536 (as_list weights) sheets
    → IfOk answer (λ output. ChecksCantusNear wanted sheets later certificate first new (Tells output)))
    → IfOk answer (λ output. StopsNear (check_cantus wanted certificate sheet) files old new (Tells output))
cantus_stops files later wanted certificate sheet weights old first new Tells (Err fault) read same one near = tt
cantus_stops files later wanted certificate sheet weights old first new Tells (Ok output) read same one near =
    let more = have_bytes 65536 files (as_list sheet) (as_list weights) read in
    let known = near more.bytes more.content in
    record {
      sheets = more.bytes;
      had = more.had;
      near = record {
        sheet = known.sheet;
        said = known.said;
        near = near_since _ later files certificate _ first new (Tells output) same (omega (arith, one)) known.near;
      };
    }
