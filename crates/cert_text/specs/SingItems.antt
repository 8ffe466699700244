-- The text of a head: it says a penalty and the `sing` lines of a setting, or that there is none.
use Rattle.std.specs.Prelude.{◌≡◌, ℕ, ◌<◌, ◌^◌, List, ◌∷◌, ◌++◌, Option, Some, None, codes}
use Rattle.std.specs.Fmt.{decimal}
use Rattle.fux_grid.specs.declared.exercise.Exercise.{Exercise}
use Rattle.fux_grid.specs.Grid.{Grid}
use Rattle.fux_text.specs.Grammar.{IsSettingOf}
use Rattle.fux_text.specs.ReadBack.{sing_lines}
use Rattle.cert_text.specs.declared.answers.Form.{Form}
use Rattle.cert_text.specs.HeadRows.{closing_text, opening_text}

abbrev pub nothing_text : Form → List ℕ
nothing_text form = opening_text form ++ (codes "none" ++ 10 ∷ closing_text form)

-- the lines are those that are written of this setting of the exercise in a note text, one for each
-- free voice
pub record AreWrittenOf (ex : Exercise) (score : Grid) (lines : List ℕ) : Type 0 where
  pub setting : IsSettingOf ex score
  pub written : lines ≡ sing_lines ex score.columns

-- the lines are those of some setting
abbrev pub AreLines : Exercise → List ℕ → Type 0
AreLines ex lines = (score : Grid) × AreWrittenOf ex score lines

-- the text of a head of a form, of this penalty and these lines
abbrev pub best_text : Form → ℕ → List ℕ → List ℕ
best_text form penalty lines =
    opening_text form ++ (codes "best " ++ (decimal penalty ++ 10 ∷ (lines ++ closing_text form)))

pub record IsBestText (ex : Exercise) (form : Form) (bytes : List ℕ) (penalty : ℕ) : Type 0 where
  pub below : penalty < 2 ^ 64
  pub lines : List ℕ
  pub canonical : AreLines ex lines
  pub text : bytes ≡ best_text form penalty lines

-- the bytes are the text of a head of a form, with this penalty or with none
abbrev pub IsHeadText : Exercise → Form → List ℕ → Option ℕ → Type 0
IsHeadText ex form bytes None = bytes ≡ nothing_text form
IsHeadText ex form bytes (Some penalty) = IsBestText ex form bytes penalty
