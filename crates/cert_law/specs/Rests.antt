-- Entries that state the least sums over chains themselves: those of the certificate that is
-- written.
use Rattle.std.specs.Prelude.{◌≡◌, ℕ, suc, ◌-◌, ◌<◌, ◌≤◌, List, [], ◌∷◌, Option, Some, None, length, map}
use Rattle.std.specs.List.{flat_map, range_with_len}
use Rattle.cert_text.specs.declared.answers.Form.{Form}
use Rattle.cert_text.specs.declared.answers.Form.TheVariants.{First, Second, Third}
use Rattle.cert_text.specs.declared.potential.Potential.{Potential}
use Rattle.cert_text.specs.declared.potential.Potential.TheVariants.{Least, NoChain}
use Rattle.cert_law.specs.Entries.{entry_at, entry_count, entry_of, menu_column, number_in}
use Rattle.chain_sums.specs.Sums.{least_sum}
use Rattle.floor_tables.specs.Floors.{chains_of, rest_of}
use Rattle.floor_tables.specs.Tables.{IsRest, IsStart}
use Rattle.fux_grid.specs.declared.cell.Cell.{Cell}
use Rattle.fux_grid.specs.declared.exercise.Exercise.{Exercise}
use Rattle.fux_grid.specs.Exercises.{columns_in}
use Rattle.fux_grid.specs.Menus.{menu_of}
use Rattle.penalty_sheet.specs.declared.sheet.Sheet.{Sheet}
use Rattle.penalty_sheet.specs.Weights.{weight_of}

-- each entry states the least sum over the chains that go on from its column, or from the start
pub record AreRests (ex : Exercise) (sheet : Sheet) (entries : List Potential) : Type 0 where
  pub whole : length entries ≡ entry_count ex
  pub start : IsStart ex sheet (number_in (entry_at entries 0))
  pub each : (i k : ℕ) → i < columns_in ex → k < length (menu_of ex i)
      → IsRest ex sheet i (menu_column ex i k) (number_in (entry_of ex entries i k))

-- ---- the entries that are written

-- the entry that states a sum, where there is one; else `n`
abbrev pub stating : Option ℕ → Potential
stating None = NoChain
stating (Some sum) = Least sum

-- the least sum over the chains that go on from a column of a place
abbrev pub rest_behind : Exercise → Sheet → ℕ → List Cell → Option ℕ
rest_behind ex sheet i col = least_sum (chains_of ex sheet) (columns_in ex - suc i) (suc i) (Some col)

-- the entries of a place: that of each column of its menu, in reading order
abbrev pub entries_at : Exercise → Sheet → ℕ → List Potential
entries_at ex sheet i = map (λ col. stating (rest_behind ex sheet i col)) (menu_of ex i)

-- the entries of so many places, from one on
abbrev pub entries_from : Exercise → Sheet → ℕ → ℕ → List Potential
entries_from ex sheet i count = flat_map (entries_at ex sheet) (range_with_len i count)

-- all entries: that of the start, and those of each place
unfoldable pub entries_of : Exercise → Sheet → List Potential
entries_of ex sheet = stating (rest_of ex sheet []) ∷ entries_from ex sheet 0 (columns_in ex)

-- the numbers that are stated in a form: the third states prices in their place
abbrev pub stated_in : Form → Exercise → Sheet → Option (List Potential)
stated_in First ex sheet = None
stated_in Second ex sheet = Some (entries_of ex sheet)
stated_in Third ex sheet = None

-- each weight of the sheet has sixteen bits at most, as its type has
abbrev pub HasSmallWeights : Sheet → Type 0
HasSmallWeights sheet = (toll : ℕ) → weight_of sheet toll ≤ 65535
