-- What contracts see of entries, and what is found of them.
use Rattle.std.specs.Prelude.{ℕ, List, Option, Some, None}
use Rattle.cert_law.specs.Bases.{Basis}
use Rattle.cert_law.specs.Entries.{AreTrueEntries, IsFirstFalse}
use Rattle.cert_text.specs.declared.potential.Potential.{Potential}
use Rattle.fux_grid.specs.declared.exercise.Exercise.{Exercise}
use Rattle.penalty_sheet.specs.declared.sheet.Sheet.{Sheet}

-- an exercise and a sheet, and the entries that are stated so far
pub record Listing : Type 0 where
  pub exercise : Exercise
  pub sheet : Sheet
  pub entries : List Potential

abbrev pub listing_for : Exercise → Sheet → List Potential → Listing
listing_for ex sheet entries = record { exercise = ex; sheet = sheet; entries = entries }

-- the tails that they state
abbrev pub basis_by : Listing → Basis
basis_by it = record { exercise = it.exercise; sheet = it.sheet; stated = Some it.entries }

-- the first one that isn't true; none only where they are true
abbrev pub TellsFirstFalse : Listing → Option ℕ → Type 0
TellsFirstFalse it None = AreTrueEntries it.exercise it.sheet it.entries
TellsFirstFalse it (Some n) = IsFirstFalse it.exercise it.sheet it.entries n
