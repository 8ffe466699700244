-- What is told of a column that has come behind an orderly prefix, known by the state of the two
-- alone.
use Rattle.std.specs.Prelude.{◌≡◌, ℕ, ◌+◌, ◌<◌, ◌≤◌, ◌||◌, Bool, true, false, List, [], ◌∷◌, length}
use Rattle.fux_grid.specs.declared.cell.Cell.{Cell}
use Rattle.fux_grid.specs.declared.exercise.Exercise.{Exercise}
use Rattle.fux_grid.specs.Columns.{Columns}
use Rattle.fux_grid.specs.Exercises.{IsValid, columns_in}
use Rattle.rule_law.specs.Prefixes.{GoesOn}
use Rattle.rule_law.specs.Rulebooks.{IsAmong, newly_breaks}
use Rattle.rule_law.specs.Voices.{has_rule}
use Rattle.fux_judge.specs.declared.state.State.{State}
use Rattle.fux_judge.specs.Rules.{rule_at, toll_at}
use Rattle.fux_judge.specs.States.{HasCome}
use Rattle.fux_judge.specs.Steps.{breaks_late, breaks_some_late}

-- whatever orderly prefix and column have come, the answer is what is read of them
abbrev pub TellsOfNewest : {A : Type 0} → Exercise → State → (Columns → List Cell → A) → A → Type 0
TellsOfNewest ex next read told = (p : Columns) (col : List Cell) → HasCome ex next p col → told ≡ read p col

-- the place is one at which the column behind a prefix may settle a rule, and what a toll costs
abbrev pub MaySettle : ℕ → Exercise → Columns → ℕ → Type 0
MaySettle rule ex p place = IsAmong ((rule_at rule).first ex (length p)) ((rule_at rule).count ex (length p)) place

abbrev pub MaySettleCost : ℕ → Exercise → Columns → ℕ → Type 0
MaySettleCost toll ex p place = IsAmong ((toll_at toll).first ex (length p)) ((toll_at toll).count ex (length p)) place

-- at such a place of a rule the answer is what is read of them there, and at one of a toll
abbrev pub TellsAtPlace : {A : Type 0} → ℕ → Exercise → State → ℕ → (Columns → List Cell → A) → A → Type 0
TellsAtPlace rule ex next place read told =
    (p : Columns) (col : List Cell) → HasCome ex next p col → MaySettle rule ex p place → told ≡ read p col

abbrev pub TellsAtPlaceOfCost : {A : Type 0} → ℕ → Exercise → State → ℕ → (Columns → List Cell → A) → A → Type 0
TellsAtPlaceOfCost toll ex next place read told =
    (p : Columns) (col : List Cell) → HasCome ex next p col → MaySettleCost toll ex p place → told ≡ read p col

-- the column settles breaks of a rule at none but so many places from a first one on
abbrev pub SettlesAmong : ℕ → Exercise → State → ℕ → ℕ → Type 0
SettlesAmong rule ex next first count =
    (p : Columns) (col : List Cell) → HasCome ex next p col
    → (voices i : ℕ) → newly_breaks (rule_at rule) ex voices p col i ≡ true → IsAmong first count i

-- the rules of a set, and with them each late one of which the column settles a strict break
abbrev pub AddsLateBreaks : Exercise → State → ℕ → ℕ → Type 0
AddsLateBreaks ex next set more =
    (p : Columns) (col : List Cell) → HasCome ex next p col
    → (r : ℕ) → has_rule more r ≡ (has_rule set r || breaks_some_late ex p col r)

-- the place behind the last one at which column i may settle a rule
abbrev pub end_of_places : ℕ → Exercise → ℕ → ℕ
end_of_places rule ex i = (rule_at rule).first ex i + (rule_at rule).count ex i

-- a column has come behind some prefix, so that something can be read of it
pub record MayBeAsked (ex : Exercise) (next : State) : Type 0 where
  pub valid : IsValid ex
  pub begun : 0 < next.newest.len
  pub room : next.newest.len ≤ columns_in ex

-- the test tells of which late rules it settles a strict break, behind some orderly prefix
pub record AnswersFor (ex : Exercise) (next : State) (test : ℕ → Bool) : Type 0 where
  pub prefix : Columns
  pub column : List Cell
  pub come : HasCome ex next prefix column
  pub same : (rule : ℕ) → test rule ≡ breaks_late ex prefix column rule

-- no rule of the set has a place that column i may settle
abbrev pub HaveNoPlace : Exercise → ℕ → ℕ → Type 0
HaveNoPlace ex i set = (rule : ℕ) → has_rule set rule ≡ true → (rule_at rule).count ex i ≡ 0

-- no column that comes as column i behind an orderly prefix settles a strict break of the rule
abbrev pub SettlesNothing : Exercise → ℕ → ℕ → Type 0
SettlesNothing ex i rule =
    (p : Columns) (col : List Cell) → length p ≡ i → GoesOn ex p (col ∷ []) → breaks_late ex p col rule ≡ false

-- so it is of each rule of the set
abbrev pub SettleNothing : Exercise → ℕ → ℕ → Type 0
SettleNothing ex i set = (rule : ℕ) → has_rule set rule ≡ true → SettlesNothing ex i rule
