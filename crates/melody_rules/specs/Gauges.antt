-- The gauges Q17 to Q20: what a whole line of a free voice costs, over the pitches of its notes,
-- the latest first, and what each line costs at least that begins with given notes.
use Rattle.std.specs.Prelude.{ℕ, ◌+◌, ◌-◌, ◌*◌, ◌==◌, ℤ, int_le, Bool, true, false, not, ◌&&◌, ◌||◌, nat_le, List, [], ◌∷◌, count_by, length, Option, Some, None, if◌then◌else◌}
use Rattle.std.specs.Int.{from_bool}
use Rattle.std.specs.List.{list_all, list_any}
use Rattle.std.specs.Ordering.{int_eq}
use Rattle.fux_pitch.specs.declared.pitch.Pitch.{Pitch}
use Rattle.fux_pitch.specs.Pitch.{key_of, same_pitch}
use Rattle.fux_grid.specs.declared.exercise.Exercise.{Exercise}
use Rattle.fux_grid.specs.Exercises.{bar_of}
use Rattle.fux_grid.specs.Menus.{range_of}
use Rattle.rule_law.specs.Gauges.{GaugeRow, LeastValue, LineValue, columns_from, menu_starts, starts_ahead}
use Rattle.rule_law.specs.Terms.{holds_of, interval_of_pitches, is_leap}
use Rattle.melody_rules.specs.Rows.{last_of, pitches, spans_over}

-- the notes of a key
abbrev pub notes_at : ℤ → List Pitch → ℕ
notes_at key = count_by (λ p. int_eq (key_of p) key)

-- a note is at the climax of the notes: none of them has a greater key
abbrev pub is_climax : List Pitch → Pitch → Bool
is_climax ps p = list_all (λ q. int_le (key_of q) (key_of p)) ps

-- how many of the notes are
abbrev pub climax_notes : List Pitch → ℕ
climax_notes ps = count_by (is_climax ps) ps

-- Q17, the climax struck again: the notes at the climax, less one, and 0 without notes
abbrev pub climax_repeats : List Pitch → ℕ
climax_repeats ps = climax_notes ps - 1

-- a key is no lower than the high end of a range, where there is one
abbrev pub is_at_top : ℤ → Option (Pitch × Pitch) → Bool
is_at_top key None = true
is_at_top key (Some ends) = int_le (key_of ends.1) key

-- column j is no place for a higher note: its menu has no start of the voice, or the key is no
-- lower than the voice's range in its bar
abbrev pub is_topped : Exercise → ℕ → ℤ → ℕ → Bool
is_topped ex v key j = not (menu_starts ex v j) || is_at_top key (range_of ex v (bar_of j))

-- the key is no lower than the voice's range in each bar with a column ahead, of those from column
-- i on
abbrev pub is_final_climax : Exercise → ℕ → ℕ → ℤ → Bool
is_final_climax ex v i key = list_all (is_topped ex v key) (columns_from ex i)

-- the key of one of the notes is, so that no note above all of them can come
abbrev pub is_last_climax : Exercise → ℕ → ℕ → List Pitch → Bool
is_last_climax ex v i = list_any (λ p. is_final_climax ex v i (key_of p))

abbrev pub climax_value : LineValue
climax_value cells = climax_repeats (pitches cells)

-- then it is the value so far, else nothing
abbrev pub climax_least : LeastValue
climax_least ex v cells =
    if is_last_climax ex v (length cells) (pitches cells) then climax_value cells else 0

-- there are notes
abbrev pub has_notes : List Pitch → Bool
has_notes [] = false
has_notes (p ∷ ps) = true

-- Q18, a narrow compass: there are notes, and no note's key is more than 6 semitones above
-- another's
abbrev pub is_narrow : List Pitch → Bool
is_narrow ps = has_notes ps && not (spans_over 6 ps)

abbrev pub compass_value : LineValue
compass_value cells = from_bool (is_narrow (pitches cells))

-- the value so far where no start is ahead, else nothing
abbrev pub compass_least : LeastValue
compass_least ex v cells = if starts_ahead ex v (length cells) == 0 then compass_value cells else 0

-- how many notes are entered by a leap
abbrev pub leaps_in : List Pitch → ℕ
leaps_in [] = 0
leaps_in (p ∷ ps) = from_bool (holds_of is_leap (interval_of_pitches (last_of ps) (Some p))) + leaps_in ps

-- how many are entered by a move
abbrev pub moves_in : List Pitch → ℕ
moves_in ps = length ps - 1

-- Q19, too many leaps: three times the leaps, less the moves
abbrev pub leaps_value : LineValue
leaps_value cells = 3 * leaps_in (pitches cells) - moves_in (pitches cells)

-- and less the starts ahead
abbrev pub leaps_least : LeastValue
leaps_least ex v cells =
    3 * leaps_in (pitches cells) - moves_in (pitches cells) - starts_ahead ex v (length cells)

-- Q20, one pitch struck often: the notes of a pitch beyond its fourth, those before which it was
-- struck four times at least
abbrev pub beyond_fourth : List Pitch → ℕ
beyond_fourth [] = 0
beyond_fourth (p ∷ ps) = from_bool (nat_le 4 (count_by (same_pitch p) ps)) + beyond_fourth ps

abbrev pub strikes_value : LineValue
strikes_value cells = beyond_fourth (pitches cells)

-- the value so far
abbrev pub strikes_least : LeastValue
strikes_least ex v cells = strikes_value cells

-- ---- the gauges

abbrev pub climax_gauge : GaugeRow
climax_gauge = record { number = 17; value = climax_value; least = climax_least }

abbrev pub compass_gauge : GaugeRow
compass_gauge = record { number = 18; value = compass_value; least = compass_least }

abbrev pub leaps_gauge : GaugeRow
leaps_gauge = record { number = 19; value = leaps_value; least = leaps_least }

abbrev pub strikes_gauge : GaugeRow
strikes_gauge = record { number = 20; value = strikes_value; least = strikes_least }

abbrev pub gauges : List GaugeRow
gauges = climax_gauge ∷ compass_gauge ∷ leaps_gauge ∷ strikes_gauge ∷ []
