-- S27 and S28: clashes of exercises in which each voice has a species of its own.
use Rattle.std.specs.Prelude.{ℕ, Bool, not, ◌&&◌, ◌||◌, List, [], slice_index_or}
use Rattle.fux_grid.specs.declared.cell.Cell.{Cell}
use Rattle.fux_grid.specs.declared.exercise.Exercise.{Exercise}
use Rattle.fux_grid.specs.Cells.{cell_in}
use Rattle.fux_grid.specs.Exercises.{is_mixed}
use Rattle.rule_law.specs.Bars.{begins_bar}
use Rattle.rule_law.specs.Pairs.{one_starts}
use Rattle.rule_law.specs.Terms.{clash, starts}
use Rattle.rule_law.specs.Voices.{is_free}
use Rattle.dissonance_rules.specs.Ligatures.{is_suspended}
use Rattle.dissonance_rules.specs.Passing.{is_good_in}

-- a note that v starts is excused: v is free, and the note is good for the species of v
abbrev pub is_excused : Exercise → ℕ → List (List Cell) → List Cell → List (List Cell) → ℕ → Bool
is_excused ex i behind now ahead v = starts (cell_in now v) && is_free ex v && is_good_in ex i behind now ahead v

-- within a bar two voices clash where one of them starts a note, or both do
abbrev pub clash_anew : ℕ → List Cell → ℕ → ℕ → Bool
clash_anew i now v w = not (begins_bar i) && clash now v w && one_starts now v w

-- S27: in a mixed exercise two voices clash anew within a bar, and no note that one of them starts
-- is excused
abbrev pub clash_unexcused : Exercise → ℕ → List (List Cell) → List Cell → List (List Cell) → ℕ → ℕ → Bool
clash_unexcused ex i behind now ahead v w =
    is_mixed ex
    && clash_anew i now v w
    && not (is_excused ex i behind now ahead v || is_excused ex i behind now ahead w)

-- a voice starts a note in one of three columns
abbrev pub starts_in_three : List Cell → List Cell → List Cell → ℕ → Bool
starts_in_three first second third w =
    starts (cell_in first w) || starts (cell_in second w) || starts (cell_in third w)

-- S28, for one way to name the voices: in a mixed exercise v is suspended against w, and w starts a
-- note in one of the three columns after, before v can resolve
abbrev pub is_disturbed : Exercise → ℕ → List Cell → List (List Cell) → ℕ → ℕ → Bool
is_disturbed ex i now ahead v w =
    is_mixed ex
    && is_suspended i now v w
    && starts_in_three (slice_index_or ahead 0 []) (slice_index_or ahead 1 []) (slice_index_or ahead 2 []) w
