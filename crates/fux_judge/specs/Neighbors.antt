-- What is read of a link, as the program has it.
use Rattle.std.specs.Prelude.{◌≡◌, ℕ, ◌<◌, ◌*◌, Bool, ◌&&◌, List}
use Rattle.std.specs.List.{list_any}
use Rattle.fux_grid.specs.Exercises.{IsValid, columns_in}
use Rattle.rule_law.specs.Nearby.{cells_before}
use Rattle.penalty_sheet.specs.declared.sheet.Sheet.{Sheet}
use Rattle.penalty_sheet.specs.Weights.{weight_of}
use Rattle.fux_judge.specs.declared.link.Link.{Link}
use Rattle.fux_judge.specs.Links.{breaks_between, breaks_strictly, cost_between, given}
use Rattle.fux_judge.specs.Penalties.{is_strict_at}

-- its column is one of a setting, and the cells of the one before it are its own
pub record IsLink (l : Link) : Type 0 where
  pub valid : IsValid l.exercise.now
  pub place : l.place < columns_in l.exercise.now
  pub before : l.before.now ≡ cells_before l.prev

-- a rule is broken there for a set of voices, and strictly for one of some sets, or of all
abbrev pub breaks_at_link : Link → ℕ → ℕ → Bool
breaks_at_link l rule voices = breaks_between l.exercise.now l.place (given l.prev) l.next.now rule voices

abbrev pub is_strict_for : Link → ℕ → List ℕ → Bool
is_strict_for l rule sets =
    list_any (λ voices. breaks_at_link l rule voices && is_strict_at rule l.exercise.now voices l.place) sets

abbrev pub breaks_strictly_at_link : Link → ℕ → Bool
breaks_strictly_at_link l rule = breaks_strictly l.exercise.now l.place (given l.prev) l.next.now rule

-- what a toll costs there, and by its weight
abbrev pub cost_at_link : Link → ℕ → ℕ
cost_at_link l toll = cost_between l.exercise.now l.place (given l.prev) l.next.now toll

abbrev pub charge_at_link : Sheet → Link → ℕ → ℕ
charge_at_link sheet l toll = cost_at_link l toll * weight_of sheet toll
