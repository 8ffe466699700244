-- What `newcantus` makes of a mode, a number of bars and a range, over a sheet of weights.
use Rattle.std.specs.Prelude.{ℕ, List, [], ◌∷◌, ◌++◌, Ok, Err, codes, map}
use Rattle.cantus_space.specs.declared.prices.CantusPrices.{CantusPrices}
use Rattle.cantus_space.specs.declared.plan.CantusPlan.{CantusPlan}
use Rattle.cantus_space.specs.Lawful.{quest_of}
use Rattle.fux_pitch.specs.declared.pitch.Pitch.{Pitch}
use Rattle.fux_pitch.specs.Names.{name_of}
use Rattle.fux_text.specs.Words.{spaced}
use Rattle.penalty_sheet.specs.declared.sheet.Sheet.{Sheet}
use Rattle.command_words.specs.declared.command.Search.{Search}
use Rattle.command_words.specs.declared.command.Wanted.{Wanted}
use Rattle.works.specs.declared.work.Verdict.{Verdict}
use Rattle.works.specs.Composed.{TellsFound, penalty_line}
use Rattle.works.specs.Sheets.{OnSheet, prices_in_use}
use Rattle.works.specs.Texts.{Work}
use Rattle.works.specs.Told.{TellsSought}

-- what is asked, by the weights of a sheet and by prices
abbrev pub plan_of : Wanted → Sheet → CantusPrices → CantusPlan
plan_of wanted sheet prices = record {
  mode = wanted.mode;
  bars = wanted.bars;
  low = wanted.low;
  high = wanted.high;
  sheet = sheet;
  prices = prices;
}

-- the line of a cantus
abbrev pub cantus_line : List Pitch → List ℕ
cantus_line cantus = codes "cantus" ++ spaced (map name_of cantus) ++ 10 ∷ []

-- a cantus and its penalty
abbrev pub cantus_answer : List Pitch → ℕ → List ℕ
cantus_answer cantus penalty = cantus_line cantus ++ penalty_line penalty

-- what bytes tell of the cantus that are asked for, by their verdict: the cantus that is asked for
-- and its penalty, or what is told where there is none or the budget is spent
abbrev pub TellsCantus : CantusPlan → Search → Verdict → List ℕ → Type 0
TellsCantus plan search =
    TellsSought (quest_of plan) search.before search.budget (λ AreIt. TellsFound AreIt cantus_answer)

-- `newcantus` makes this of what is asked, by weights and prices
abbrev pub Invents : Wanted → Search → CantusPrices → Sheet → Work → Type 0
Invents wanted search prices sheet (Ok output) =
    TellsCantus (plan_of wanted sheet prices) search output.verdict output.bytes
Invents wanted search prices sheet (Err refusal) = ⊥

-- `newcantus` makes this of what is asked, and of the file of a sheet where one is given
abbrev pub MakesCantus : Wanted → Search → List (List ℕ) → Work → Type 0
MakesCantus wanted search sheets work = OnSheet (λ sheet. Invents wanted search (prices_in_use sheets) sheet) sheets work
