-- What holds of two runs: `check` accepts what `certify` wrote.
use Rattle.std.specs.Prelude.{◌≡◌, ℕ, ◌⊎◌, List, ◌∷◌, Option}
use Rattle.cert_text.specs.declared.answers.Form.{Form}
use Rattle.command_words.specs.Commands.{certify, certify_cantus, check, check_cantus}
use Rattle.command_words.specs.declared.command.Wanted.{Wanted}
use Rattle.fux_port.specs.Files.{HasFile}
use Rattle.fux_run.specs.declared.status.Status.TheVariants.{Favorable, Unfavorable}
use Rattle.fux_run.specs.Runs.{work_status}
use Rattle.fux_run.specs.Statuses.{code_of}
use Rattle.works.specs.Endings.{work_output}
use Rattle.works.specs.TaskFiles.{as_list}
use Rattle.works.specs.Texts.{Work}
use Rattle.works.specs.Works.{AllHave, Files, Works}

-- work that a run ends as, where all could be written: with this status, and these bytes
abbrev pub IsWhole : ℕ → List ℕ → Work → Type 0
IsWhole code bytes work = (code ≡ code_of (work_status work)) × (bytes ≡ work_output work)

-- work that a run ends as with this status
abbrev pub HasStatus : ℕ → Work → Type 0
HasStatus code work = code ≡ code_of (work_status work)

-- a run wrote a certificate, of the best there is or of none
abbrev pub IsFound : ℕ → Type 0
IsFound code = (code ≡ code_of Favorable) ⊎ (code ≡ code_of Unfavorable)

-- where a run of `certify` wrote a certificate, a run of `check` on the same exercise and sheet,
-- with these bytes in the certificate's file, accepts it, if it can write its line: it ends with 0
abbrev pub CertifiedRunIsAccepted : Type 0
CertifiedRunIsAccepted =
    (name certificate : List ℕ) (sheet : Option (List ℕ)) (budget : ℕ) (form : Form) (files later : Files)
    (texts : List (List ℕ)) (bytes : List ℕ) (code next : ℕ) → AllHave files (name ∷ as_list sheet) texts
    → AllHave later (name ∷ as_list sheet) texts → HasFile later certificate bytes
    → Works (certify name sheet budget form) files (IsWhole code bytes) → IsFound code
    → Works (check name certificate sheet) later (HasStatus next) → next ≡ code_of Favorable

-- the same of `certcantus` and `checkcantus`: it ends with 0
abbrev pub CertifiedCantusRunIsAccepted : Type 0
CertifiedCantusRunIsAccepted =
    (wanted : Wanted) (certificate : List ℕ) (sheet : Option (List ℕ)) (budget : ℕ) (files later : Files)
    (texts : List (List ℕ)) (bytes : List ℕ) (code next : ℕ) → AllHave files (as_list sheet) texts
    → AllHave later (as_list sheet) texts → HasFile later certificate bytes
    → Works (certify_cantus wanted sheet budget) files (IsWhole code bytes) → IsFound code
    → Works (check_cantus wanted certificate sheet) later (HasStatus next) → next ≡ code_of Favorable
