-- The words of the rules for two voices, in one column and in two neighbors.
use Rattle.std.specs.Prelude.{ℕ, Bool, false, ◌&&◌, ◌||◌, count_by, List, Option, Some, None}
use Rattle.std.specs.List.{list_any}
use Rattle.fux_pitch.specs.declared.interval.Interval.{Interval}
use Rattle.fux_pitch.specs.Size.{is_perfect_size}
use Rattle.fux_grid.specs.declared.cell.Cell.{Cell}
use Rattle.fux_grid.specs.Cells.{cell_in}
use Rattle.rule_law.specs.Terms.{starts, moves, holds_of, interval_of_cells, interval_in, is_same_key, same_way}
use Rattle.rule_law.specs.Voices.{voice_pairs}

-- how many pairs of voices pass the test, of four voices at most
abbrev pub count_pairs : (ℕ → ℕ → Bool) → ℕ
count_pairs test = count_by (λ pair. test pair.0 pair.1) voice_pairs

-- some pair does
abbrev pub some_pair : (ℕ → ℕ → Bool) → Bool
some_pair test = list_any (λ pair. test pair.0 pair.1) voice_pairs

-- a note starts in one of two voices, or in both
abbrev pub one_starts : List Cell → ℕ → ℕ → Bool
one_starts col v w = starts (cell_in col v) || starts (cell_in col w)

-- two voices sound the same key
abbrev pub sound_same_key : List Cell → ℕ → ℕ → Bool
sound_same_key col v w = holds_of is_same_key (interval_in col v w)

-- two voices sound a perfect interval
abbrev pub sound_perfect : List Cell → ℕ → ℕ → Bool
sound_perfect col v w = holds_of is_perfect_size (interval_in col v w)

-- two voices both move from one column to the next
abbrev pub both_move : List Cell → List Cell → ℕ → ℕ → Bool
both_move before now v w = moves (cell_in before v) (cell_in now v) && moves (cell_in before w) (cell_in now w)

-- both intervals are there and go the same way
abbrev pub go_same_way : Option Interval → Option Interval → Bool
go_same_way None j = false
go_same_way (Some i) None = false
go_same_way (Some i) (Some j) = same_way i j

-- two voices move alike: both move, and both rise or both fall
abbrev pub move_alike : List Cell → List Cell → ℕ → ℕ → Bool
move_alike before now v w =
    both_move before now v w
    && go_same_way (interval_of_cells (cell_in before v) (cell_in now v))
    (interval_of_cells (cell_in before w) (cell_in now w))

-- two voices move alike into a perfect interval
abbrev pub move_into_perfect : List Cell → List Cell → ℕ → ℕ → Bool
move_into_perfect before now v w = move_alike before now v w && sound_perfect now v w
