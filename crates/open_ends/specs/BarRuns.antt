-- Bars in a row that two voices begin with thirds, or with sixths, and how they go on.
use Rattle.std.specs.Prelude.{ℕ, ◌+◌, ◌-◌, Bool, ◌&&◌, ◌||◌, nat_le, nat_lt, List, [], ◌∷◌, length, reverse, slice_index_or, if◌then◌else◌}
use Rattle.fux_grid.specs.declared.cell.Cell.{Cell}
use Rattle.fux_grid.specs.declared.exercise.Exercise.{Exercise}
use Rattle.fux_grid.specs.Columns.{Columns}
use Rattle.fux_grid.specs.Exercises.{bar_of}
use Rattle.rule_law.specs.Bars.{begins_bar}
use Rattle.motion_rules.specs.Runs.{sound_imperfect}
use Rattle.open_ends.specs.declared.keeps.Pairs.{Pairs}
use Rattle.open_ends.specs.declared.runs.Run.{Run}

-- the columns that begin bars, of some that go from the newest to the oldest
abbrev pub bar_lines : List (List Cell) → List (List Cell)
bar_lines [] = []
bar_lines (col ∷ behind) = if begins_bar (length behind) then col ∷ bar_lines behind else bar_lines behind

-- one bar more, of which 3 are counted at most; none where it doesn't go on
abbrev pub bars_after : ℕ → Bool → ℕ
bars_after bars goes_on = if goes_on then (if nat_lt bars 3 then bars + 1 else 3) else 0

-- how many of some columns in a row, from the first one on, two voices sound with an imperfect
-- interval of so many degrees; 3 at most
abbrev pub in_a_row : ℕ → List (List Cell) → ℕ → ℕ → ℕ
in_a_row degrees [] v w = 0
in_a_row degrees (col ∷ behind) v w = bars_after (in_a_row degrees behind v w) (sound_imperfect degrees col v w)

-- a run of so many bars, of which that of a column is the newest, may still come to four by the
-- last bar
abbrev pub may_come_to_four : Exercise → ℕ → ℕ → Bool
may_come_to_four ex i bars = nat_le (bar_of i + 4) (ex.bars + bars)

-- so many bars, while they may
abbrev pub while_it_may : Exercise → ℕ → ℕ → ℕ
while_it_may ex i bars = if may_come_to_four ex i bars then bars else 0

-- what is kept of some columns: how many bars in a row, the newest one last, two voices began so
abbrev pub bars_kept : ℕ → Exercise → Columns → ℕ → ℕ → ℕ
bars_kept degrees ex p v w = while_it_may ex (length p - 1) (in_a_row degrees (bar_lines (reverse p)) v w)

-- with thirds, and with sixths
abbrev pub run_in : Exercise → Columns → ℕ → ℕ → Run
run_in ex p v w = record { thirds = bars_kept 2 ex p v w; sixths = bars_kept 5 ex p v w }

-- no bar
abbrev pub no_run : Run
no_run = record { thirds = 0; sixths = 0 }

-- for each pair of four voices, the lower voice first
abbrev pub for_pairs : (ℕ → ℕ → Run) → List Run
for_pairs run = run 0 1 ∷ run 0 2 ∷ run 0 3 ∷ run 1 2 ∷ run 1 3 ∷ run 2 3 ∷ []

-- the run of a pair that is followed; none of one that isn't
abbrev pub if_followed : Bool → Run → Run
if_followed followed run = if followed then run else no_run

-- the run of a pair among these, by its number
abbrev pub run_of : List Run → ℕ → Run
run_of runs pair = slice_index_or runs pair no_run

-- those of some pairs, and none of the others
abbrev pub of_pairs : Pairs → List Run → List Run
of_pairs pairs runs =
    if_followed pairs.v01 (run_of runs 0) ∷ if_followed pairs.v02 (run_of runs 1)
    ∷ if_followed pairs.v03 (run_of runs 2) ∷ if_followed pairs.v12 (run_of runs 3)
    ∷ if_followed pairs.v13 (run_of runs 4) ∷ if_followed pairs.v23 (run_of runs 5) ∷ []

-- how the run of two voices goes on with a column that begins a bar
abbrev pub run_after : Exercise → ℕ → Run → List Cell → ℕ → ℕ → Run
run_after ex i kept now v w = record {
  thirds = while_it_may ex i (bars_after kept.thirds (sound_imperfect 2 now v w));
  sixths = while_it_may ex i (bars_after kept.sixths (sound_imperfect 5 now v w));
}

-- and those of all pairs
abbrev pub pairs_after : Exercise → ℕ → List Run → List Cell → List Run
pairs_after ex i kept now =
    run_after ex i (run_of kept 0) now 0 1 ∷ run_after ex i (run_of kept 1) now 0 2
    ∷ run_after ex i (run_of kept 2) now 0 3 ∷ run_after ex i (run_of kept 3) now 1 2
    ∷ run_after ex i (run_of kept 4) now 1 3 ∷ run_after ex i (run_of kept 5) now 2 3 ∷ []

-- and those of some pairs
abbrev pub followed_after : Exercise → Pairs → ℕ → List Run → List Cell → List Run
followed_after ex pairs i kept now =
    if_followed pairs.v01 (run_after ex i (run_of kept 0) now 0 1)
    ∷ if_followed pairs.v02 (run_after ex i (run_of kept 1) now 0 2)
    ∷ if_followed pairs.v03 (run_after ex i (run_of kept 2) now 0 3)
    ∷ if_followed pairs.v12 (run_after ex i (run_of kept 3) now 1 2)
    ∷ if_followed pairs.v13 (run_after ex i (run_of kept 4) now 1 3)
    ∷ if_followed pairs.v23 (run_after ex i (run_of kept 5) now 2 3) ∷ []

-- the run of two voices comes to four bars with the column
abbrev pub comes_to_four : Run → List Cell → ℕ → ℕ → Bool
comes_to_four kept now v w =
    (nat_le 3 kept.thirds && sound_imperfect 2 now v w) || (nat_le 3 kept.sixths && sound_imperfect 5 now v w)

abbrev pub count_of : Run → List Cell → ℕ → ℕ → ℕ
count_of kept now v w = if comes_to_four kept now v w then 1 else 0

-- how many pairs do
abbrev pub come_to_four : List Run → List Cell → ℕ
come_to_four kept now =
    count_of (run_of kept 0) now 0 1 + count_of (run_of kept 1) now 0 2 + count_of (run_of kept 2) now 0 3
    + count_of (run_of kept 3) now 1 2 + count_of (run_of kept 4) now 1 3 + count_of (run_of kept 5) now 2 3
