-- What the values in the words behind a search's name ask for (`searches`), and that they ask for
-- nothing where one that must be there is missing (`no_name`, `no_budget`).
use Rattle.std.proofs.Common.{◌≡◌, ℕ, List, Option, Some, None, codes, refl}
use Rattle.clap.specs.Words.{Row, Text, first_of}
use Rattle.command_words.specs.Commands.{Task, ◌>>=◌, budget_in}

-- what a search asks for, where this task is made of a name, a sheet and a budget
abbrev pub searched : (Text → Option Text → ℕ → Task) → List Row → Option Task
searched makes rows = do
  name ← first_of (codes "EX") rows
  budget ← budget_in (first_of (codes "budget") rows)
  Some (makes name (first_of (codes "sheet") rows) budget)

pub searches : (makes : Text → Option Text → ℕ → Task) (rows : List Row) (name : Text) (word sheet : Option Text)
    (budget : ℕ)
    → Some name ≡ first_of (codes "EX") rows → word ≡ first_of (codes "budget") rows → Some budget ≡ budget_in word
    → sheet ≡ first_of (codes "sheet") rows → Some (makes name sheet budget) ≡ searched makes rows
searches makes rows name word sheet budget named worded within given = rw (← named, ← worded, ← within, ← given) refl

pub no_name : (makes : Text → Option Text → ℕ → Task) (rows : List Row) → None ≡ first_of (codes "EX") rows
    → None ≡ searched makes rows
no_name makes rows missing = rw (← missing) refl

pub no_budget : (makes : Text → Option Text → ℕ → Task) (rows : List Row) (name : Text) (word : Option Text)
    → Some name ≡ first_of (codes "EX") rows → word ≡ first_of (codes "budget") rows → None ≡ budget_in word
    → None ≡ searched makes rows
no_budget makes rows name word named worded beyond = rw (← named, ← worded, ← beyond) refl
