-- Claims: what each of them says of a prefix.
use Rattle.std.specs.Prelude.{◌≡◌, ℕ, ◌<◌, Bool, ◌&&◌, IsTrue, List, [], ◌∷◌, ◌++◌, Option, None, IsSomeAnd, ◌⊎◌, length, map, reverse, slice_index_or, take}
use Rattle.std.specs.List.{filter}
use Rattle.cert_text.specs.declared.answers.CertHead.{CertHead}
use Rattle.cert_text.specs.declared.answers.CertHead.TheVariants.{Best, Nothing}
use Rattle.cert_text.specs.declared.claim.Claim.{Claim}
use Rattle.cert_text.specs.declared.claim.Claim.TheVariants.{Open, Broken, NoChain, Floor, TheScore}
use Rattle.cert_text.specs.declared.potential.Potential.{Potential}
use Rattle.cert_law.specs.Tails.{tail_of, used_floor}
use Rattle.chain_sums.specs.Sums.{column_follows}
use Rattle.fux_grid.specs.declared.cell.Cell.{Cell}
use Rattle.fux_grid.specs.declared.exercise.Exercise.{Exercise}
use Rattle.fux_grid.specs.Columns.{newest_column}
use Rattle.fux_grid.specs.Exercises.{columns_in}
use Rattle.fux_grid.specs.Menus.{menu_of}
use Rattle.fux_grid.specs.Order.{IsEarlier}
use Rattle.fux_grid.specs.Orderly.{IsOrderly}
use Rattle.fux_judge.specs.Penalties.{newly_broken}
use Rattle.fux_judge.specs.Rules.{is_read}
use Rattle.penalty_sheet.specs.declared.sheet.Sheet.{Sheet}
use Rattle.rule_law.specs.Growth.{any_below}

-- the columns that may come next after a prefix, in reading order: those of the menu that follow
-- its last column
abbrev pub next_columns : Exercise → List (List Cell) → List (List Cell)
next_columns ex p = filter (column_follows (newest_column (reverse p))) (menu_of ex (length p))

-- the prefixes that are longer by one of them
abbrev pub longer_prefixes : Exercise → List (List Cell) → List (List (List Cell))
longer_prefixes ex p = map (λ col. p ++ col ∷ []) (next_columns ex p)

-- a strict break of a rule is settled in a prefix: one of its columns settles it, read in the
-- prefix that ends there
abbrev pub has_break_of : Exercise → List (List Cell) → ℕ → Bool
has_break_of ex p rule =
    is_read rule && any_below (λ k. newly_broken ex (take k p) (slice_index_or p k []) rule) (length p)

-- a floor is above the penalty of the head's setting, or it is that penalty and the prefix is later
-- in reading order
abbrev pub IsNoBetter : CertHead → List (List Cell) → ℕ → Type 0
IsNoBetter Nothing p floor = ⊥
IsNoBetter (Best penalty score) p floor =
    (penalty < floor) ⊎ ((floor ≡ penalty) × IsEarlier score.columns p)

-- the prefix is the head's setting
abbrev pub IsSettingOf : CertHead → List (List Cell) → Type 0
IsSettingOf Nothing p = ⊥
IsSettingOf (Best penalty score) p = p ≡ score.columns

-- a claim is true of a prefix, where entries are stated or none are
abbrev pub IsTrueOf : Exercise → Sheet → CertHead → Option (List Potential) → List (List Cell) → Claim → Type 0
IsTrueOf ex sheet head stated p Open = (length p < columns_in ex) × IsOrderly ex p
IsTrueOf ex sheet head stated p (Broken rule) = IsTrue (has_break_of ex p rule)
IsTrueOf ex sheet head stated p NoChain = tail_of ex sheet stated p ≡ None
IsTrueOf ex sheet head stated p Floor = IsSomeAnd (used_floor ex sheet stated p) (IsNoBetter head p)
IsTrueOf ex sheet head stated p TheScore = IsSettingOf head p
