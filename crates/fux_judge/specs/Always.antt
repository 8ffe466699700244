-- Columns that are dead by what they sound, whatever comes before them, and those that aren't.
use Rattle.std.specs.Prelude.{◌≡◌, ℕ, true, false, List, [], ◌∷◌, None, length}
use Rattle.std.specs.List.{list_any}
use Rattle.fux_grid.specs.declared.cell.Cell.{Cell}
use Rattle.fux_grid.specs.declared.exercise.Exercise.{Exercise}
use Rattle.fux_judge.specs.Links.{breaks_strictly}
use Rattle.fux_judge.specs.Penalties.{settles_break}

-- after every prefix of so many columns the column settles a strict break
abbrev pub IsAlwaysDead : Exercise → ℕ → List Cell → Type 0
IsAlwaysDead ex i col = (p : List (List Cell)) → length p ≡ i → settles_break ex p col ≡ true

-- the rules that are settled at once of what a column sounds
abbrev pub sounding_rules : List ℕ
sounding_rules = 10 ∷ 11 ∷ 13 ∷ 14 ∷ 24 ∷ []

-- the column of place i breaks none of them strictly, whatever stands before it
abbrev pub IsSound : Exercise → ℕ → List Cell → Type 0
IsSound ex i col = list_any (breaks_strictly ex i None col) sounding_rules ≡ false
