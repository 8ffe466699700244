-- Intervals, their reduced sizes and their classes.
use Rattle.std.specs.Prelude.{ℕ, Bool, false, ◌||◌, ◌&&◌, pos, negsuc, ◌-ℤ◌, ◌*◌, ◌/◌, ◌%◌, neg_ℤ, int_lt, unsigned_abs, ◌≤ℤ◌, if◌then◌else◌}
use Rattle.std.specs.Ordering.{int_eq}
use Rattle.fux_pitch.specs.Pitch.{degree_of, key_of}
use Rattle.fux_pitch.specs.declared.pitch.Pitch.{Pitch}
use Rattle.fux_pitch.specs.declared.interval.Interval.{Interval}

-- the degrees and the semitones of b less those of a
abbrev pub interval_between : Pitch → Pitch → Interval
interval_between a b = record { degrees = pos (degree_of b) -ℤ pos (degree_of a); semitones = key_of b -ℤ key_of a }

-- both parts lie in -128 to 127
pub record IsShort (i : Interval) : Type 0 where
  pub least_degrees : negsuc 127 ≤ℤ i.degrees
  pub most_degrees : i.degrees ≤ℤ pos 127
  pub least_semitones : negsuc 127 ≤ℤ i.semitones
  pub most_semitones : i.semitones ≤ℤ pos 127

-- the interval has negative degrees, or no degrees and negative semitones
abbrev pub points_down : Interval → Bool
points_down i = int_lt i.degrees (pos 0) || (int_eq i.degrees (pos 0) && int_lt i.semitones (pos 0))

-- the interval, negated in both parts where it points down
abbrev pub upward : Interval → Interval
upward i = if points_down i then record { degrees = neg_ℤ i.degrees; semitones = neg_ℤ i.semitones } else i

-- an interval that points up, less 7 degrees and 12 semitones as often as 7 goes into the degrees
abbrev pub within_octave : Interval → Interval
within_octave up = record {
  degrees = pos (unsigned_abs up.degrees % 7);
  semitones = up.semitones -ℤ pos (12 * (unsigned_abs up.degrees / 7));
}

-- the reduced size
abbrev pub reduced : Interval → Interval
reduced i = within_octave (upward i)

-- the interval has exactly these degrees and semitones
abbrev pub has_size : ℕ → ℕ → Interval → Bool
has_size degrees semitones i = int_eq i.degrees (pos degrees) && int_eq i.semitones (pos semitones)

-- unison, octave or fifth
abbrev pub is_perfect_size : Interval → Bool
is_perfect_size i = has_size 0 0 (reduced i) || has_size 4 7 (reduced i)

-- third or sixth
abbrev pub is_imperfect_size : Interval → Bool
is_imperfect_size i =
    has_size 2 3 (reduced i) || has_size 2 4 (reduced i) || has_size 5 8 (reduced i) || has_size 5 9 (reduced i)

-- a reduced size is one of these, or where no voice is the lowest, a fourth or a diminished fifth
abbrev pub is_consonant_within : Interval → Bool → Bool
is_consonant_within size lowest =
    (has_size 0 0 size || has_size 4 7 size)
    || (has_size 2 3 size || has_size 2 4 size || has_size 5 8 size || has_size 5 9 size)
    || (if lowest then false else (has_size 3 5 size || has_size 3 6 size || has_size 4 6 size))

-- consonant, where one of the two voices is the lowest, or where neither is
abbrev pub is_consonant_size : Interval → Bool → Bool
is_consonant_size i lowest = is_perfect_size i || is_imperfect_size i
    || (if lowest then false else (has_size 3 5 (reduced i) || has_size 3 6 (reduced i) || has_size 4 6 (reduced i)))
