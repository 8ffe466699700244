-- What `canon` makes of the text of a canon, over a sheet of weights.
use Rattle.std.specs.Prelude.{◌≡◌, ℕ, ◌⊎◌, List, [], ◌∷◌, ◌++◌, Result, Ok, Err}
use Rattle.canon_space.specs.declared.canon.Canon.{Canon}
use Rattle.canon_space.specs.Rules.{columns_of}
use Rattle.canon_space.specs.Texts.{canon_of}
use Rattle.canon_space.specs.Trees.{canons}
use Rattle.command_words.specs.declared.command.Search.{Search}
use Rattle.fux_grid.specs.declared.cell.Cell.{Cell}
use Rattle.fux_text.specs.Lines.{sing_texts}
use Rattle.penalty_sheet.specs.declared.sheet.Sheet.{Sheet}
use Rattle.works.specs.declared.refusal.Refusal.{Refusal}
use Rattle.works.specs.declared.refusal.Refusal.TheVariants as refusal
use Rattle.works.specs.declared.work.Stop.{Stop}
use Rattle.works.specs.declared.work.Stop.TheVariants.{Refused, Memory}
use Rattle.works.specs.declared.work.Verdict.{Verdict}
use Rattle.works.specs.Composed.{TellsFound, penalty_line}
use Rattle.works.specs.Sheets.{OnSheet}
use Rattle.works.specs.Texts.{Work}
use Rattle.works.specs.Told.{TellsSought}

-- the text of a canon, the lines of both voices in these bars, and a penalty
abbrev pub canon_answer : List ℕ → List (List Cell) → ℕ → List ℕ
canon_answer text bars penalty = text ++ sing_texts (columns_of bars) (0 ∷ 1 ∷ []) ++ penalty_line penalty

-- what bytes tell of the canons that a text asks for, by their verdict: the text with the canon
-- that is asked for and its penalty, or what is told where there is none or the budget is spent
abbrev pub TellsCanon : List ℕ → Canon → Sheet → Search → Verdict → List ℕ → Type 0
TellsCanon text canon sheet search =
    TellsSought (canons canon sheet) search.before search.budget (λ AreIt. TellsFound AreIt (canon_answer text))

-- `canon` makes this of the canon of a text, over the sheet in use
abbrev pub Imitates : Search → List ℕ → Canon → Sheet → Work → Type 0
Imitates search text canon sheet (Ok output) = TellsCanon text canon sheet search output.verdict output.bytes
Imitates search text canon sheet (Err refusal) = ⊥

-- a refusal of bytes that are the text of no canon: it tells their first line at fault
abbrev pub RefusesCanon : List ℕ → Refusal → Type 0
RefusesCanon text (refusal.Canon line) = canon_of text ≡ Err line
RefusesCanon text _ = ⊥

-- the canon of a text, or a refusal of it, or memory is wanting
abbrev pub ReadsCanon : List ℕ → Result Canon Stop → Type 0
ReadsCanon text (Ok canon) = canon_of text ≡ Ok canon
ReadsCanon text (Err (Refused refusal)) = RefusesCanon text refusal
ReadsCanon text (Err Memory) = Unit {0}

-- work on the canon whose text these bytes are
pub record OnCanon (Made : Canon → Work → Type 0) (text : List ℕ) (work : Work) : Type 0 where
  pub canon : Canon
  pub is : canon_of text ≡ Ok canon
  pub made : Made canon work

-- work that refuses these bytes
pub record OnNoCanon (text : List ℕ) (work : Work) : Type 0 where
  pub refusal : Refusal
  pub is : work ≡ Err refusal
  pub cause : RefusesCanon text refusal

-- `canon` makes this of the text of a canon, and of the file of a sheet where one is given
abbrev pub MakesCanon : Search → List (List ℕ) → List ℕ → Work → Type 0
MakesCanon search sheets text work =
    OnCanon (λ canon. OnSheet (λ sheet. Imitates search text canon sheet) sheets) text work ⊎ OnNoCanon text work
