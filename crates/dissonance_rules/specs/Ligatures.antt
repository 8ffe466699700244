-- S19, S20 and S21: a voice that holds a note over a bar line and clashes there. Its note has to be
-- prepared, resolved and of a good size.
use Rattle.std.specs.Prelude.{ℕ, ◌-◌, ◌%◌, ◌==◌, Bool, not, ◌&&◌, ◌||◌, nat_le, List, [], ◌∷◌, slice_index_or}
use Rattle.fux_grid.specs.declared.cell.Cell.{Cell}
use Rattle.fux_grid.specs.declared.exercise.Exercise.{Exercise}
use Rattle.fux_grid.specs.Cells.{cell_in, is_hold, pitch_of}
use Rattle.fux_grid.specs.Columns.{newest_column}
use Rattle.rule_law.specs.Bars.{begins_bar}
use Rattle.rule_law.specs.Degrees.{lies_above}
use Rattle.rule_law.specs.Sounding.{sounding_note, started_after}
use Rattle.rule_law.specs.Terms.{clash, degrees_without_sign, holds_of, interval_in, is_clean, is_lowest, starts}
use Rattle.rule_law.specs.Voices.{is_free}

-- at the beginning of a bar v holds a note, and clashes with w
abbrev pub is_suspended : ℕ → List Cell → ℕ → ℕ → Bool
is_suspended i now v w = begins_bar i && is_hold (cell_in now v) && clash now v w

-- a free voice holds a note in a column
abbrev pub holds_free : Exercise → List Cell → ℕ → Bool
holds_free ex now v = is_free ex v && is_hold (cell_in now v)

-- or one of four voices does
abbrev pub some_free_hold : Exercise → List Cell → Bool
some_free_hold ex now = holds_free ex now 0 || holds_free ex now 1 || holds_free ex now 2 || holds_free ex now 3

-- S19: a suspended voice is unprepared: its note started after column i - 4, or it wasn't clean in
-- the column before
abbrev pub lacks_preparation : ℕ → List (List Cell) → List Cell → ℕ → ℕ → Bool
lacks_preparation i behind now v w =
    is_suspended i now v w
    && (started_after (i - 4) (sounding_note v (now ∷ behind)) || not (is_clean (newest_column behind) v))

-- the same from the three columns before, the newest first: the voice started a note in one of
-- them, or it wasn't clean in the newest
abbrev pub is_unprepared : List Cell → List Cell → List Cell → ℕ → Bool
is_unprepared newest second third v =
    starts (cell_in newest v) || starts (cell_in second v) || starts (cell_in third v) || not (is_clean newest v)

-- it resolves: it is held in the next column, and in the fourth from here a note starts, one degree
-- below, where the voice is clean
abbrev pub resolves : List Cell → List Cell → List Cell → ℕ → Bool
resolves now next fourth v =
    is_hold (cell_in next v)
    && starts (cell_in fourth v)
    && lies_above 1 (pitch_of (cell_in now v)) (pitch_of (cell_in fourth v))
    && is_clean fourth v

-- S20: a suspended voice doesn't resolve
abbrev pub lacks_resolution : ℕ → List Cell → List (List Cell) → ℕ → ℕ → Bool
lacks_resolution i now ahead v w =
    is_suspended i now v w && not (resolves now (slice_index_or ahead 0 []) (slice_index_or ahead 3 []) v)

-- over the lowest voice a seventh, a fourth or a ninth is suspended well, and no second: of so many
-- degrees, which leave 6 or 3 without octaves, or 1 with an octave at least
abbrev pub is_good_above : ℕ → Bool
is_good_above d = (d % 7 == 6) || (d % 7 == 3) || ((d % 7 == 1) && nat_le 8 d)

-- in the lowest voice a second is, or a ninth
abbrev pub is_good_below : ℕ → Bool
is_good_below d = d % 7 == 1

-- v lies over w, the lowest voice, at a size that isn't good there
abbrev pub is_bad_above : List Cell → ℕ → ℕ → Bool
is_bad_above now v w =
    is_lowest now w && holds_of (λ k. not (is_good_above (degrees_without_sign k))) (interval_in now v w)

-- v is the lowest voice, and w lies over it at a size that isn't good there
abbrev pub is_bad_below : List Cell → ℕ → ℕ → Bool
is_bad_below now v w =
    is_lowest now v && holds_of (λ k. not (is_good_below (degrees_without_sign k))) (interval_in now v w)

-- S21: v is suspended over w, or under it, and one of the two is the lowest voice, at a size that
-- isn't good there
abbrev pub is_bad_suspension : ℕ → List Cell → ℕ → ℕ → Bool
is_bad_suspension i now v w = is_suspended i now v w && (is_bad_above now v w || is_bad_below now v w)
