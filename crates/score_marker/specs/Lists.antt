-- Marks as one list, made place by place.
use Rattle.std.specs.Prelude.{ℕ, Bool, List, [], ◌∷◌, if◌then◌else◌}
use Rattle.std.specs.List.{flat_map}
use Rattle.score_marker.specs.declared.mark.Mark.{Mark}
use Rattle.score_marker.specs.Marks.{mark_at}

-- a test of breaks: by the place, the rule and the set of voices
abbrev pub Test : Type 0
Test = ℕ → ℕ → ℕ → Bool

-- the mark of a break, where it is one
unfoldable pub mark_where : Bool → ℕ → ℕ → ℕ → List Mark
mark_where broken i rule voices = if broken then mark_at i rule voices ∷ [] else []

-- the marks of a rule at a place, for these sets
abbrev pub marks_of_rule : Test → List ℕ → ℕ → ℕ → List Mark
marks_of_rule test sets i rule = flat_map (λ voices. mark_where (test i rule voices) i rule voices) sets

-- the marks of a place, of these rules
abbrev pub marks_of_place : Test → List ℕ → List ℕ → ℕ → List Mark
marks_of_place test sets rules i = flat_map (marks_of_rule test sets i) rules

-- the marks of these places
abbrev pub marks_of_places : Test → List ℕ → List ℕ → List ℕ → List Mark
marks_of_places test sets rules places = flat_map (marks_of_place test sets rules) places
