-- Lines of lists that may be stated.
use Rattle.std.specs.Prelude.{◌≡◌, ℕ, ◌*◌, ◌<◌, ◌≤◌, false, ⊤, List, [], ◌∷◌, ◌++◌, length, map}
use Rattle.std.specs.List.{AllByRecursion}
use Rattle.fux_grid.specs.declared.exercise.Exercise.{Exercise}
use Rattle.penalty_sheet.specs.declared.sheet.Sheet.{Sheet}
use Rattle.penalty_sheet.specs.Weights.{weight_of}
use Rattle.price_check.specs.Stated.{AreDue}
use Rattle.price_check.specs.declared.line.Before.{Before}
use Rattle.price_check.specs.Lists.{AreLists, is_last, lists_text}
use Rattle.price_check.specs.PriceLines.{Keeps, Cases, Price, Claims, Fits, Line, after, line_of, nothing_before}
use Rattle.priced_floors.specs.declared.charges.TheConstants.{SCALE}
use Rattle.cert_writer.specs.declared.stating.Stating.{Stating}

-- a price is no higher than this
abbrev pub IsWithin : ℕ → Line → Type 0
IsWithin most (Keeps turns runs) = ⊤
IsWithin most (Cases voice keys) = ⊤
IsWithin most (Price case voice pitch number) = number ≤ most
IsWithin most Claims = ⊤

-- whole lists, whose prices are due
pub record CanBeStated (ex : Exercise) (sheet : Sheet) (lines : List Line) : Type 0 where
  pub lists : AreLists ex lines
  pub due : AreDue sheet lines

-- the most bytes that a head and its lists may have
abbrev pub most_head : ℕ
most_head = 65536

-- lines may be stated behind the text of a head
pub record FitBehind (ex : Exercise) (sheet : Sheet) (front : List ℕ) (lines : List Line) : Type 0 where
  pub stated : CanBeStated ex sheet lines
  pub fits : length (front ++ lists_text lines) ≤ most_head

-- the least list there is: a plain one, which keeps nothing beside what always is
abbrev pub least_list : List Line
least_list = Keeps false false ∷ []

-- ---- lines so far

-- what stands before the line behind these
abbrev pub behind : Before → List Line → Before
behind before [] = before
behind before (line ∷ lines) = behind (after before line) lines

-- each line may stand where it does, and none is the one behind all
abbrev pub AreBegun : Exercise → Before → List Line → Type 0
AreBegun ex before [] = ⊤
AreBegun ex before (line ∷ lines) = Fits ex before line × (is_last line ≡ false) × AreBegun ex (after before line) lines

-- the lines so far may be stated, and this stands before the next one
pub record IsStating (ex : Exercise) (sheet : Sheet) (stating : Stating) : Type 0 where
  pub begun : AreBegun ex nothing_before (map line_of stating.lines.items)
  pub within : AllByRecursion (IsWithin (SCALE * weight_of sheet 20)) (map line_of stating.lines.items)
  pub before : stating.before ≡ behind nothing_before (map line_of stating.lines.items)
  pub some : 0 < stating.before.lists
  pub few : stating.before.lists ≤ 8
