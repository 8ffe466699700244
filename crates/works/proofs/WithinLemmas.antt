-- What `check` answers to the texts of an exercise and of a sheet, from what it answers to these
-- (`check_of_sheet`), and what a job makes of them (`answers_of_sheet`).
use Rattle.std.proofs.Common.{◌≡◌, List, ℕ, Result, Ok, Err, inl, inr, refl, subst, sym}
use Rattle.cantus_space.specs.declared.prices.CantusPrices.{CantusPrices}
use Rattle.cantus_space.specs.declared.prices.PricedSheet.{PricedSheet}
use Rattle.class_marker.specs.Markings.{IsTheText}
use Rattle.fux_grid.specs.declared.exercise.Exercise.{Exercise}
use Rattle.penalty_sheet.specs.declared.sheet.Sheet.{Sheet}
use Rattle.command_words.specs.declared.command.Job.{Job}
use Rattle.works.specs.declared.work.Output.{Output}
use Rattle.works.specs.declared.work.Stop.{Stop}
use Rattle.works.specs.declared.work.Stop.TheVariants.{Refused, Memory}
use Rattle.works.specs.declared.work.Unmade.{Unmade}
use Rattle.works.specs.declared.work.Unmade.TheVariants.{Stopped, Unreadable}
use Rattle.works.specs.Checked.{AnswersWithin, Checks}
use Rattle.works.specs.Searched.{IsNarrow}
use Rattle.works.specs.Sheets.{ReadsPriced, ReadsSheet, sheet_said}
use Rattle.works.specs.Texts.{Work}
use Rattle.works.specs.Works.{Answers, ChecksText, Files, IsReadyText, MakesOf, MakesOfText, with_prices}

module _ (files : Files) (certificate : List ℕ) (unread : Type 0) (sheets : List (List ℕ)) (bytes : List ℕ) (ex : Exercise)
    (sheet : Sheet) where
  pub check_of_sheet : (answer : Result Output Unmade) → IsTheText bytes ex → sheet_said sheets ≡ Ok sheet
      → AnswersWithin (Checks files certificate sheet ex) (IsNarrow ex × unread) answer
      → AnswersWithin (ChecksText files certificate sheets bytes) (IsReadyText sheets bytes × unread) answer
  check_of_sheet (Ok output) text said made =
      inl record { exercise = ex; text = text; made = inl record { sheet = sheet; said = said; made = made } }
  check_of_sheet (Err (Stopped (Refused refusal))) text said made =
      inl record { exercise = ex; text = text; made = inl record { sheet = sheet; said = said; made = made } }
  check_of_sheet (Err (Stopped Memory)) text said made = tt
  check_of_sheet (Err Unreadable) text said made =
      (record { exercise = ex; is = text; sheet = sheet; said = said; narrow = made.0 }, made.1)

-- and where the sheet is refused, so is the whole
pub check_no_sheet : (files : Files) (certificate : List ℕ) (unread : Type 0) (sheets : List (List ℕ)) (bytes : List ℕ)
    (ex : Exercise) (stop : Stop) (answer : Result Output Unmade) → IsTheText bytes ex → ReadsSheet sheets (Err stop)
    → answer ≡ Err (Stopped stop)
    → AnswersWithin (ChecksText files certificate sheets bytes) (IsReadyText sheets bytes × unread) answer
check_no_sheet files certificate unread sheets bytes ex (Refused refusal) answer text cause e =
    rw e (inl record { exercise = ex; text = text; made = inr record { refusal = refusal; is = refl; cause = cause } })
check_no_sheet files certificate unread sheets bytes ex Memory answer text cause e = rw e tt

-- the same of what a job makes
pub answers_no_sheet : (job : Job) (sheets : List (List ℕ)) (bytes : List ℕ) (ex : Exercise) (stop : Stop)
    (answer : Result Output Stop) → IsTheText bytes ex → ReadsSheet sheets (Err stop) → answer ≡ Err stop
    → Answers (MakesOfText job sheets bytes) answer
answers_no_sheet job sheets bytes ex (Refused refusal) answer text cause e =
    rw e (inl record { exercise = ex; text = text; made = inr record { refusal = refusal; is = refl; cause = cause } })
answers_no_sheet job sheets bytes ex Memory answer text cause e = rw e tt

-- where a sheet with prices can't be read, no sheet can
pub unpriced : (sheets : List (List ℕ)) (stop : Stop) → ReadsPriced sheets (Err stop) → ReadsSheet sheets (Err stop)
unpriced sheets (Refused refusal) cause = cause
unpriced sheets Memory cause = tt

-- what a job makes over a sheet with prices, it makes of the texts
module _ (job : Job) (sheets : List (List ℕ)) (bytes : List ℕ) (ex : Exercise) (priced : PricedSheet) where
  over_prices : (work : Work) → ReadsPriced sheets (Ok priced) → MakesOf job priced ex work
      → MakesOf job (with_prices sheets priced.sheet) ex work
  over_prices work read made =
      subst (λ (prices : CantusPrices). MakesOf job (record { sheet = priced.sheet; prices = prices }) ex work) (sym read.1)
      made

  pub answers_of_sheet : (answer : Result Output Stop) → IsTheText bytes ex → ReadsPriced sheets (Ok priced)
      → Answers (MakesOf job priced ex) answer → Answers (MakesOfText job sheets bytes) answer
  answers_of_sheet (Ok output) text read made =
      inl record {
        exercise = ex;
        text = text;
        made = inl record { sheet = priced.sheet; said = read.0; made = over_prices (Ok output) read made };
      }
  answers_of_sheet (Err (Refused refusal)) text read made =
      inl record {
        exercise = ex;
        text = text;
        made = inl record { sheet = priced.sheet; said = read.0; made = over_prices (Err refusal) read made };
      }
  answers_of_sheet (Err Memory) text read made = tt
