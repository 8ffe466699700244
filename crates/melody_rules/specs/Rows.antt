-- The rules and tolls of melody: how a voice moves from note to note.
use Rattle.std.specs.Prelude.{ℕ, ◌+◌, ◌==◌, pos, ◌-ℤ◌, int_lt, Bool, false, not, ◌&&◌, ◌||◌, nat_le, List, [], ◌∷◌, map, slice_get, Option, Some, None, if◌then◌else◌}
use Rattle.std.specs.List.{list_any}
use Rattle.std.specs.Int.{int_signum}
use Rattle.std.specs.Ordering.{int_eq}
use Rattle.fux_pitch.specs.declared.pitch.Pitch.{Pitch}
use Rattle.fux_pitch.specs.declared.interval.Interval.{Interval}
use Rattle.fux_pitch.specs.Pitch.{degree_of, alter_of, key_of}
use Rattle.fux_pitch.specs.Size.{reduced, has_size, is_perfect_size, is_imperfect_size}
use Rattle.fux_grid.specs.declared.cell.Cell.{Cell}
use Rattle.fux_grid.specs.declared.cell.Cell.TheVariants.{Rest, Hold, Start}
use Rattle.fux_grid.specs.declared.exercise.Exercise.{Exercise}
use Rattle.fux_grid.specs.Cells.{cell_in, notes_from}
use Rattle.fux_grid.specs.Columns.{line}
use Rattle.fux_grid.specs.Exercises.{species_in}
use Rattle.rule_law.specs.Places.{Row, at_once}
use Rattle.rule_law.specs.Nearby.{NearRow, pitch_at, whole_of}
use Rattle.rule_law.specs.Terms.{holds_of, interval_of_pitches, move_from, is_repetition, is_step, is_leap, rises, same_way, opposite_ways, degrees_without_sign, semitones_without_sign}
use Rattle.rule_law.specs.Voices.{on_free_voice, count_free, is_free}

-- the degrees and semitones of the moves that go up and down: the unison, seconds, thirds, the
-- fourth, the fifth and the octave
abbrev pub melodic_sizes : List (ℕ × ℕ)
melodic_sizes = (0, 0) ∷ (1, 1) ∷ (1, 2) ∷ (2, 3) ∷ (2, 4) ∷ (3, 5) ∷ (4, 7) ∷ (7, 12) ∷ []

-- a move of so many degrees and semitones, up or down
abbrev pub goes_by : Interval → ℕ × ℕ → Bool
goes_by i size = (degrees_without_sign i == size.0) && (semitones_without_sign i == size.1)

-- a melodic move: of a melodic size, or a minor sixth up, and its semitones go where its degrees go
abbrev pub is_melodic : Interval → Bool
is_melodic i =
    int_eq (int_signum i.degrees) (int_signum i.semitones)
    && (list_any (goes_by i) melodic_sizes || (goes_by i (5, 8) && rises i))

-- S4: a note starts by a move that isn't melodic
abbrev pub moves_unmelodically : Option Pitch → Cell → Bool
moves_unmelodically previous now = holds_of (λ i. not (is_melodic i)) (move_from previous now)

-- species 2, 3 and 5 have no repetitions
abbrev pub bars_repetitions : ℕ → Bool
bars_repetitions species = (species == 2) || (species == 3) || (species == 5)

-- S5: in such a species a note starts by a repetition
abbrev pub repeats : ℕ → Option Pitch → Cell → Bool
repeats species previous now = bars_repetitions species && holds_of is_repetition (move_from previous now)

-- S26: a note starts after a sharpened one, and not one degree above it
abbrev pub leaves_sharp : Option Pitch → Cell → Bool
leaves_sharp previous Rest = false
leaves_sharp previous (Hold q) = false
leaves_sharp None (Start q) = false
leaves_sharp (Some p) (Start q) = int_eq (alter_of p) (pos 1) && not (degree_of q == degree_of p + 1)

-- the pitches of the notes of a line, the latest first: those that start in its cells
-- (`Held.pitches_are`)
abbrev pub pitches : List Cell → List Pitch
pitches cells = map (λ n. n.pitch) (notes_from 0 cells)

-- the latest of them, and the one before it
abbrev pub last_of : List Pitch → Option Pitch
last_of ps = slice_get ps 0

abbrev pub before_last : List Pitch → Option Pitch
before_last ps = slice_get ps 1

-- the test holds of two moves, where there are both
abbrev pub holds_of_both : (Interval → Interval → Bool) → Option Interval → Option Interval → Bool
holds_of_both test None j = false
holds_of_both test (Some i) None = false
holds_of_both test (Some i) (Some j) = test i j

-- the test holds of the move to the latest note and the one to the note that starts; `before` is
-- the note before the latest
abbrev pub on_moves : (Interval → Interval → Bool) → Option Pitch → Option Pitch → Cell → Bool
on_moves test before last now = holds_of_both test (interval_of_pitches before last) (move_from last now)

-- two leaps the same way may go from end to end by an octave at most, and by a consonance or a
-- fourth
abbrev pub is_fair_outline : Interval → Bool
is_fair_outline k =
    nat_le (semitones_without_sign k) 12
    && (is_perfect_size k || is_imperfect_size k || has_size 3 5 (reduced k))

-- S6: a note starts by the second of two leaps the same way, and from end to end they don't go so
abbrev pub outlines_badly : Option Pitch → Option Pitch → Cell → Bool
outlines_badly before last now =
    on_moves (λ i j. is_leap i && is_leap j && same_way i j) before last now
    && holds_of (λ k. not (is_fair_outline k)) (move_from before now)

-- S7: a note starts after a move of a sixth or more, and not the other way
abbrev pub goes_on_after_leap : Option Pitch → Option Pitch → Cell → Bool
goes_on_after_leap = on_moves (λ i j. nat_le 5 (degrees_without_sign i) && not (opposite_ways i j))

-- by the note that starts, the latest note becomes a turning note: one whose own move and whose
-- next note's move go opposite ways
abbrev pub turns : Option Pitch → Option Pitch → Cell → Bool
turns = on_moves opposite_ways

-- the latest turning note: the relation is `Turning.IsLatestTurning`
abbrev pub latest_turning : List Pitch → Option Pitch
latest_turning [] = None
latest_turning (c ∷ ps) = if turns (before_last ps) (last_of ps) (Start c) then last_of ps else latest_turning ps

-- S8: a note starts by which the latest note becomes a turning note, six semitones from the turning
-- note before it
abbrev pub turns_at_tritone : Option Pitch → Option Pitch → Option Pitch → Cell → Bool
turns_at_tritone turning before last now =
    turns before last now && holds_of (λ k. semitones_without_sign k == 6) (interval_of_pitches turning last)

-- a note's key is more than so many semitones above another's
abbrev pub spans_over : ℕ → List Pitch → Bool
spans_over semitones ps =
    list_any (λ high. list_any (λ low. int_lt (pos semitones) (key_of high -ℤ key_of low)) ps) ps

-- the notes span more than a tenth, 16 semitones
abbrev pub is_wide : List Pitch → Bool
is_wide = spans_over 16

-- S9: a note starts with which the notes span more than a tenth, as they didn't before
abbrev pub widens : List Pitch → Cell → Bool
widens ps Rest = false
widens ps (Hold c) = false
widens ps (Start c) = is_wide (c ∷ ps) && not (is_wide ps)

-- the rules of a voice that look back over its notes, given by their pitches, the latest first
abbrev pub window_rule : ℕ → List Pitch → Cell → Bool
window_rule rule ps now =
    if rule == 6 then outlines_badly (before_last ps) (last_of ps) now
    else (if rule == 7 then goes_on_after_leap (before_last ps) (last_of ps) now
    else (if rule == 8 then turns_at_tritone (latest_turning ps) (before_last ps) (last_of ps) now
    else widens ps now))

abbrev pub looks_back : ℕ → Bool
looks_back rule = (rule == 6) || (rule == 7) || (rule == 8) || (rule == 9)

abbrev pub window_rows : ℕ → Exercise → ℕ → Row Bool
window_rows rule ex voices i behind now ahead =
    on_free_voice ex (λ v. window_rule rule (pitches (line v behind)) (cell_in now v)) voices

-- the rules of a voice that two neighbors decide: its previous pitch and its cell
abbrev pub voice_rule : ℕ → ℕ → Option Pitch → Cell → Bool
voice_rule rule species previous now =
    if rule == 4 then moves_unmelodically previous now
    else (if rule == 5 then repeats species previous now
    else leaves_sharp previous now)

abbrev pub near_rows : ℕ → Exercise → ℕ → NearRow Bool
near_rows rule ex voices i before previous now =
    on_free_voice ex (λ v. voice_rule rule (species_in ex v) (pitch_at previous v) (cell_in now v)) voices

-- a rule is broken for a set of voices
abbrev pub broken_in : ℕ → Exercise → ℕ → Row Bool
broken_in rule ex voices = if looks_back rule then window_rows rule ex voices else whole_of (near_rows rule ex voices)

-- all are settled at once
abbrev pub enough_after : ℕ → Exercise → ℕ → Row Bool
enough_after rule ex voices = at_once

-- a toll charges a move. Q7: by a repetition. Q8: by a third. Q9: by a fourth or a fifth. Q10: by a
-- sixth or more
abbrev pub charges_move : ℕ → Interval → Bool
charges_move toll i =
    if toll == 7 then is_repetition i
    else (if toll == 8 then degrees_without_sign i == 2
    else (if toll == 9 then (degrees_without_sign i == 3) || (degrees_without_sign i == 4)
    else nat_le 5 (degrees_without_sign i)))

-- a note starts by such a move
abbrev pub pays_move : ℕ → Option Pitch → Cell → Bool
pays_move toll previous now = holds_of (charges_move toll) (move_from previous now)

-- 1 where one does in a free voice, else 0
abbrev pub move_cost : ℕ → Exercise → ℕ → Option Pitch → Cell → ℕ
move_cost toll ex v previous now = if is_free ex v && pays_move toll previous now then 1 else 0

-- in how many free voices one does
unfoldable pub toll_rows : ℕ → Exercise → NearRow ℕ
toll_rows toll ex i before previous now =
    count_free ex (λ v. pays_move toll (pitch_at previous v) (cell_in now v))

-- Q13: a note starts after a move of a fourth or more, and not by a step the other way
abbrev pub leaves_leap_open : Option Pitch → Option Pitch → Cell → Bool
leaves_leap_open = on_moves (λ i j. nat_le 3 (degrees_without_sign i) && not (is_step j && opposite_ways i j))

-- the same of the note that starts after notes of these pitches, the latest first
abbrev pub leaves_open : List Pitch → Cell → Bool
leaves_open ps = leaves_leap_open (before_last ps) (last_of ps)

-- 1 where it stands for a free voice after these cells, else 0
abbrev pub open_leap : Exercise → ℕ → List Cell → Cell → ℕ
open_leap ex v cells now = if is_free ex v && leaves_open (pitches cells) now then 1 else 0

-- in how many free voices it stands
unfoldable pub open_leaps : Exercise → Row ℕ
open_leaps ex i behind now ahead =
    count_free ex (λ v. leaves_open (pitches (line v behind)) (cell_in now v))

-- what a toll costs
abbrev pub cost_in : ℕ → Exercise → Row ℕ
cost_in toll ex = if toll == 13 then open_leaps ex else whole_of (toll_rows toll ex)

abbrev pub cost_enough : ℕ → Exercise → Row Bool
cost_enough toll ex = at_once
