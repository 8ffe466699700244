-- The words of the rules, over the cells of a column and over the line of a voice.
use Rattle.std.specs.Prelude.{ℕ, ◌==◌, Bool, true, false, not, ◌&&◌, ◌||◌, nat_le, int_lt, List, Option, Some, None, is_some, pos, unsigned_abs}
use Rattle.std.specs.List.{position}
use Rattle.std.specs.Ordering.{int_eq}
use Rattle.fux_pitch.specs.declared.pitch.Pitch.{Pitch}
use Rattle.fux_pitch.specs.declared.interval.Interval.{Interval}
use Rattle.fux_pitch.specs.Pitch.{same_pitch}
use Rattle.fux_pitch.specs.Size.{interval_between, reduced, has_size, is_perfect_size, is_consonant_size}
use Rattle.fux_grid.specs.declared.cell.Cell.{Cell}
use Rattle.fux_grid.specs.declared.cell.Cell.TheVariants.{Rest, Hold, Start}
use Rattle.fux_grid.specs.declared.cell.Note.{Note}
use Rattle.fux_grid.specs.Cells.{pitch_of, cell_in, notes_from, first_of}

-- a note starts in the cell
abbrev pub starts : Cell → Bool
starts Rest = false
starts (Hold p) = false
starts (Start p) = true

-- the pitch that starts in a cell
abbrev pub started_pitch : Cell → Option Pitch
started_pitch Rest = None
started_pitch (Hold p) = None
started_pitch (Start p) = Some p

-- the interval from one pitch to another, where there are both
abbrev pub interval_of_pitches : Option Pitch → Option Pitch → Option Interval
interval_of_pitches None q = None
interval_of_pitches (Some p) None = None
interval_of_pitches (Some p) (Some q) = Some (interval_between p q)

-- the interval between two cells that sound
abbrev pub interval_of_cells : Cell → Cell → Option Interval
interval_of_cells c d = interval_of_pitches (pitch_of c) (pitch_of d)

-- the test holds of the interval, where there is one
abbrev pub holds_of : (Interval → Bool) → Option Interval → Bool
holds_of test None = false
holds_of test (Some i) = test i

-- a voice sounds in the cell
abbrev pub sounds : Cell → Bool
sounds c = is_some (pitch_of c)

-- the number is this one
abbrev pub is_this : ℕ → Option ℕ → Bool
is_this v None = false
is_this v (Some w) = w == v

-- the voice is the lowest that sounds in the column
abbrev pub is_lowest : List Cell → ℕ → Bool
is_lowest col v = is_this v (position sounds col)

-- two voices clash in a column: both sound, and their interval isn't consonant
abbrev pub clash : List Cell → ℕ → ℕ → Bool
clash col v w = holds_of (λ i. not (is_consonant_size i (is_lowest col v || is_lowest col w)))
    (interval_of_cells (cell_in col v) (cell_in col w))

-- the pitch of a note, where there is one
abbrev pub note_pitch : Option Note → Option Pitch
note_pitch None = None
note_pitch (Some n) = Some n.pitch

-- the pitch of the latest note of a line
abbrev pub previous_pitch : List Cell → Option Pitch
previous_pitch cells = note_pitch (first_of (notes_from 0 cells))

-- the move to the note that starts in a cell, from the pitch of the note before it
abbrev pub move_from : Option Pitch → Cell → Option Interval
move_from previous Rest = None
move_from previous (Hold p) = None
move_from previous (Start p) = interval_of_pitches previous (Some p)

-- two pitches that differ
abbrev pub differs : Option Pitch → Option Pitch → Bool
differs None q = false
differs (Some p) None = false
differs (Some p) (Some q) = not (same_pitch p q)

-- a voice moves from one column to the next: it starts a note of another pitch than it sounds
-- before
abbrev pub moves : Cell → Cell → Bool
moves before now = starts now && differs (pitch_of before) (pitch_of now)

-- a repetition
abbrev pub is_repetition : Interval → Bool
is_repetition i = int_eq i.degrees (pos 0) && int_eq i.semitones (pos 0)

-- two intervals of one size
abbrev pub same_size : Interval → Interval → Bool
same_size i j = int_eq i.degrees j.degrees && int_eq i.semitones j.semitones

-- equal perfect intervals
abbrev pub equal_perfects : Option Interval → Option Interval → Bool
equal_perfects None j = false
equal_perfects (Some i) None = false
equal_perfects (Some i) (Some j) = is_perfect_size i && same_size (reduced i) (reduced j)

-- a voice is clean in a column: it clashes with no other (with itself no voice clashes)
abbrev pub is_clean : List Cell → ℕ → Bool
is_clean col v = not (clash col v 0 || clash col v 1 || clash col v 2 || clash col v 3)

-- the lowest voice that sounds in a column
abbrev pub lowest_voice : List Cell → Option ℕ
lowest_voice col = position sounds col

-- the interval between two voices that sound in a column
abbrev pub interval_in : List Cell → ℕ → ℕ → Option Interval
interval_in col v w = interval_of_cells (cell_in col v) (cell_in col w)

-- an interval whose reduced size is this one
abbrev pub is_reduced_to : ℕ → ℕ → Interval → Bool
is_reduced_to degrees semitones i = has_size degrees semitones (reduced i)

-- the degrees and the semitones of an interval, without sign
abbrev pub degrees_without_sign : Interval → ℕ
degrees_without_sign i = unsigned_abs i.degrees

abbrev pub semitones_without_sign : Interval → ℕ
semitones_without_sign i = unsigned_abs i.semitones

-- two voices sound the same key in a column
abbrev pub is_same_key : Interval → Bool
is_same_key i = int_eq i.semitones (pos 0)

-- a step: one degree up or down
abbrev pub is_step : Interval → Bool
is_step i = degrees_without_sign i == 1

-- a leap: two degrees or more, up or down
abbrev pub is_leap : Interval → Bool
is_leap i = nat_le 2 (degrees_without_sign i)

-- a move rises or falls by its semitones; without semitones it does neither
abbrev pub rises : Interval → Bool
rises i = int_lt (pos 0) i.semitones

abbrev pub falls : Interval → Bool
falls i = int_lt i.semitones (pos 0)

-- two moves go the same way: both rise or both fall
abbrev pub same_way : Interval → Interval → Bool
same_way i j = (rises i && rises j) || (falls i && falls j)

-- two moves go opposite ways: one rises and the other falls
abbrev pub opposite_ways : Interval → Interval → Bool
opposite_ways i j = (rises i && falls j) || (falls i && rises j)
