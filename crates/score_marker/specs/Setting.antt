-- What the marker of settings reads.
use Rattle.std.specs.Prelude.{ℕ, List, [], ◌∷◌}
use Rattle.fux_grid.specs.declared.cell.Cell.{Cell}
use Rattle.fux_grid.specs.declared.exercise.Exercise.{Exercise}
use Rattle.fux_judge.specs.Rules.{is_broken, rules_read}
use Rattle.score_marker.specs.declared.mark.Mark.{Mark}
use Rattle.score_marker.specs.Lists.{Test, marks_of_place}

-- every set of voices, by the ascending lists of their voices: 0, 0 1, 0 1 2, 0 1 2 3, 0 1 3, 0 2,
-- and so on
unfoldable pub sets_in_order : List ℕ
sets_in_order = 1 ∷ 3 ∷ 7 ∷ 15 ∷ 11 ∷ 5 ∷ 13 ∷ 9 ∷ 2 ∷ 6 ∷ 14 ∷ 10 ∷ 4 ∷ 12 ∷ 8 ∷ []

-- a rule is broken at a place for a set of voices
abbrev pub breaks_of : Exercise → List (List Cell) → Test
breaks_of ex s i rule voices = is_broken rule ex voices s i

-- the marks of a list of columns at a place
abbrev pub marks_at : Exercise → List (List Cell) → ℕ → List Mark
marks_at ex s i = marks_of_place (breaks_of ex s) sets_in_order rules_read i
