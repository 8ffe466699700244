-- Q14: two voices that begin four bars in a row with thirds, or four with sixths.
use Rattle.std.specs.Prelude.{ℕ, ◌-◌, ◌*◌, Bool, ◌&&◌, ◌||◌, nat_le, List, [], ◌∷◌, if◌then◌else◌, pos, slice_index_or}
use Rattle.std.specs.List.{list_all}
use Rattle.std.specs.Ordering.{int_eq}
use Rattle.fux_pitch.specs.declared.interval.Interval.{Interval}
use Rattle.fux_pitch.specs.Size.{is_imperfect_size, reduced}
use Rattle.fux_grid.specs.declared.cell.Cell.{Cell}
use Rattle.fux_grid.specs.declared.exercise.Exercise.{Exercise}
use Rattle.fux_grid.specs.Exercises.{bar_of}
use Rattle.rule_law.specs.Bars.{begins_bar}
use Rattle.rule_law.specs.Pairs.{count_pairs}
use Rattle.rule_law.specs.Places.{Row, reading_back}
use Rattle.rule_law.specs.Terms.{holds_of, interval_in}

-- an imperfect interval of so many degrees without its octaves: a third has 2, a sixth has 5
abbrev pub is_imperfect_of : ℕ → Interval → Bool
is_imperfect_of degrees i = is_imperfect_size i && int_eq (reduced i).degrees (pos degrees)

abbrev pub sound_imperfect : ℕ → List Cell → ℕ → ℕ → Bool
sound_imperfect degrees col v w = holds_of (is_imperfect_of degrees) (interval_in col v w)

-- the column at the beginning of the bar that begins so many bars before a place, of the columns
-- behind it
abbrev pub bars_before : ℕ → List (List Cell) → List Cell
bars_before bars behind = slice_index_or behind (8 * bars - 1) []

-- the columns at the beginnings of the three bars before a place
abbrev pub three_bar_lines : List (List Cell) → List (List Cell)
three_bar_lines behind = bars_before 1 behind ∷ bars_before 2 behind ∷ bars_before 3 behind ∷ []

-- with the column at the beginning of a bar
abbrev pub four_bar_lines : List (List Cell) → List Cell → List (List Cell)
four_bar_lines behind now = now ∷ three_bar_lines behind

-- those before a column of a list, and up to it
abbrev pub three_bar_lines_at : List (List Cell) → ℕ → List (List Cell)
three_bar_lines_at = reading_back (λ i behind now. three_bar_lines behind)

abbrev pub four_bar_lines_at : List (List Cell) → ℕ → List (List Cell)
four_bar_lines_at = reading_back (λ i. four_bar_lines)

-- two voices sound thirds in all of the columns, or sixths in all of them
abbrev pub keep_on : List (List Cell) → ℕ → ℕ → Bool
keep_on columns v w =
    list_all (λ col. sound_imperfect 2 col v w) columns || list_all (λ col. sound_imperfect 5 col v w) columns

-- a column begins a bar from the fourth on
abbrev pub ends_four_bars : ℕ → Bool
ends_four_bars i = begins_bar i && nat_le 4 (bar_of i)

-- Q14: there, the pairs that sound thirds, or sixths, at the bar's beginning and at those of the
-- three bars before
abbrev pub imperfect_runs : ℕ → List (List Cell) → List Cell → ℕ
imperfect_runs i behind now =
    if ends_four_bars i then count_pairs (keep_on (four_bar_lines behind now)) else 0

abbrev pub run_toll : Exercise → Row ℕ
run_toll ex i behind now ahead = imperfect_runs i behind now
