-- A text of a head is that of one head, and its lines are read as the setting that they are written
-- of.
use Rattle.std.specs.Prelude.{◌≡◌, ◌↔◌, ℕ, ◌≤◌, ◌<◌, ◌^◌, List, Option, length, take}
use Rattle.fux_grid.specs.declared.exercise.Exercise.{Exercise}
use Rattle.fux_grid.specs.Exercises.{IsValid}
use Rattle.fux_grid.specs.Grid.{Grid}
use Rattle.fux_text.specs.Grammar.{IsSettingOf}
use Rattle.fux_text.specs.ReadBack.{sing_lines}
use Rattle.fux_text.specs.Texts.{AreSingLinesOf}
use Rattle.cert_text.specs.declared.answers.CertHead.{CertHead}
use Rattle.cert_text.specs.declared.answers.CertHead.TheVariants.{Best}
use Rattle.cert_text.specs.declared.answers.Form.{Form}
use Rattle.cert_text.specs.HeadTexts.{Heads, penalty_of}
use Rattle.cert_text.specs.SingItems.{AreWrittenOf, IsBestText, IsHeadText, best_text}

-- the text is the one that is written of a head of a form, of this penalty and this setting
pub record IsBestOf (ex : Exercise) (form : Form) (penalty : ℕ) (score : Grid) (text : List ℕ) : Type 0 where
  pub setting : IsSettingOf ex score
  pub written : text ≡ best_text form penalty (sing_lines ex score.columns)

-- lines that are written of a setting are read as that setting
abbrev pub WrittenLinesAreRead : Type 0
WrittenLinesAreRead = (ex : Exercise) (lines : List ℕ) (score : Grid) → IsValid ex
    → AreWrittenOf ex score lines → AreSingLinesOf ex lines score

-- so a text of a head with a penalty is one that is written of a setting
abbrev pub BestTextsAreWritten : Type 0
BestTextsAreWritten = (ex : Exercise) (form : Form) (text : List ℕ) (penalty : ℕ) → IsValid ex
    → IsBestText ex form text penalty ↔ ((penalty < 2 ^ 64) × (score : Grid) × IsBestOf ex form penalty score text)

-- and a head with a penalty stands at the front of bytes just where its text as it is written
-- stands there
abbrev pub BestHeadsAreWritten : Type 0
BestHeadsAreWritten = (ex : Exercise) (form : Form) (bytes : List ℕ) (penalty : ℕ) (score : Grid) (n : ℕ) → IsValid ex
    → Heads ex form bytes (Best penalty score) n
    ↔ ((n ≤ length bytes) × (penalty < 2 ^ 64) × IsBestOf ex form penalty score (take n bytes))

-- a text of a head at the front of bytes is that of a head of this form and penalty
abbrev pub TextsAreOfHeads : Type 0
TextsAreOfHeads = (ex : Exercise) (form : Form) (bytes : List ℕ) (n : ℕ) (penalty : Option ℕ) → IsValid ex → n ≤ length bytes
    → IsHeadText ex form (take n bytes) penalty
    → (head : CertHead) × (penalty_of head ≡ penalty) × Heads ex form bytes head n

-- and one head of any form at most stands there
abbrev pub HeadsAreOne : Type 0
HeadsAreOne = (ex : Exercise) (bytes : List ℕ) (form other : Form) (head second : CertHead) (n m : ℕ) → IsValid ex
    → Heads ex form bytes head n → Heads ex other bytes second m → (form ≡ other) × (head ≡ second) × (n ≡ m)

-- no text of a head is long
abbrev pub HeadTextsAreShort : Type 0
HeadTextsAreShort = (ex : Exercise) (form : Form) (text : List ℕ) (penalty : Option ℕ) → IsValid ex
    → IsHeadText ex form text penalty → length text < 5000
