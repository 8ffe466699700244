-- Notes that the species voice holds over a bar line: whether they are prepared there, and of a
-- good size.
use Rattle.std.specs.Prelude.{ℕ, ◌==◌, Bool, false, not, ◌&&◌, ◌||◌, nat_lt, List, [], ◌∷◌, length}
use Rattle.std.specs.List.{list_any}
use Rattle.fux_grid.specs.declared.cell.Cell.{Cell}
use Rattle.fux_grid.specs.declared.exercise.Exercise.{Exercise}
use Rattle.fux_grid.specs.Cells.{cell_in, is_hold}
use Rattle.fux_grid.specs.Exercises.{slot_of, species_in}
use Rattle.rule_law.specs.Bars.{begins_bar}
use Rattle.rule_law.specs.Terms.{is_clean, starts}
use Rattle.dissonance_rules.specs.Ligatures.{is_bad_suspension}
use Rattle.open_ends.specs.Asked.{is_asked}

-- S19 and S21, by their numbers
abbrev pub preparation_rule : ℕ
preparation_rule = 19

abbrev pub size_rule : ℕ
size_rule = 21

-- a voice of a species may hold a note over a bar line
abbrev pub has_ligatures : ℕ → Bool
has_ligatures species = (species == 4) || (species == 5)

-- S19 is asked of the species voice: no line relaxes it, and the voice may hold a note over a bar
-- line
abbrev pub is_read : Exercise → Bool
is_read ex = is_asked ex preparation_rule && has_ligatures (species_in ex ex.species_voice)

-- the newest column stands at slot 5, 6 or 7, and the voice started a note there, or at one of
-- these slots before it in the bar. The columns go from the newest to the oldest
abbrev pub starts_late_in : List (List Cell) → ℕ → Bool
starts_late_in [] v = false
starts_late_in (col ∷ behind) v =
    nat_lt 4 (slot_of (length behind)) && (starts (cell_in col v) || starts_late_in behind v)

-- the same after one column more, where this was so before it
abbrev pub starts_late_after : ℕ → Bool → List Cell → ℕ → Bool
starts_late_after i late now v = nat_lt 4 (slot_of i) && (starts (cell_in now v) || late)

-- at the beginning of a bar the voice holds a note and clashes with another voice, and it started
-- the note late, or it wasn't clean in the column before
abbrev pub is_unprepared_at : ℕ → Bool → List Cell → List Cell → ℕ → Bool
is_unprepared_at i late before now v =
    begins_bar i && is_hold (cell_in now v) && not (is_clean now v) && (late || not (is_clean before v))

-- the voice is suspended against another one, at a size that isn't good there
abbrev pub is_bad_at : ℕ → List Cell → ℕ → Bool
is_bad_at i now v = list_any (λ w. is_bad_suspension i now v w) (0 ∷ 1 ∷ 2 ∷ 3 ∷ [])
