-- The names of intervals.
use Rattle.std.specs.Prelude.{ℕ, ◌%◌, ◌==◌, ℤ, pos, ◌-ℤ◌, int_lt, unsigned_abs, Bool, not, ◌&&◌, ◌||◌, nat_le, List, [], ◌++◌, codes, if◌then◌else◌}
use Rattle.std.specs.Ordering.{int_eq}
use Rattle.fux_pitch.specs.declared.interval.Interval.{Interval}
use Rattle.fux_pitch.specs.declared.pitch.Pitch.{Pitch}
use Rattle.fux_pitch.specs.Key.{letter_key}
use Rattle.fux_pitch.specs.Names.{name_of}
use Rattle.fux_pitch.specs.Size.{interval_between, reduced}

-- an interval of so many degrees, seven at most
abbrev pub simple_name : ℕ → List ℕ
simple_name degrees =
    if degrees == 0 then codes "unison"
    else (if degrees == 1 then codes "second"
    else (if degrees == 2 then codes "third"
    else (if degrees == 3 then codes "fourth"
    else (if degrees == 4 then codes "fifth"
    else (if degrees == 5 then codes "sixth"
    else (if degrees == 6 then codes "seventh"
    else codes "octave"))))))

-- of more, fourteen at most
abbrev pub wide_name : ℕ → List ℕ
wide_name degrees =
    if degrees == 8 then codes "ninth"
    else (if degrees == 9 then codes "tenth"
    else (if degrees == 10 then codes "eleventh"
    else (if degrees == 11 then codes "twelfth"
    else (if degrees == 12 then codes "thirteenth"
    else (if degrees == 13 then codes "fourteenth"
    else codes "fifteenth")))))

-- degrees without octaves, but for the last one where nothing else is left
abbrev pub without_octaves : ℕ → ℕ
without_octaves degrees = if degrees % 7 == 0 then 7 else degrees % 7

-- of any number of degrees: beyond two octaves the interval is compound
abbrev pub number_name : ℕ → List ℕ
number_name degrees =
    if nat_le degrees 7 then simple_name degrees
    else (if nat_le degrees 14 then wide_name degrees
    else codes "compound " ++ simple_name (without_octaves degrees))

-- unisons, fourths and fifths are perfect where others are major
abbrev pub is_perfect_class : ℕ → Bool
is_perfect_class class = (class == 0) || (class == 3) || (class == 4)

abbrev pub plain_word : ℕ → List ℕ
plain_word class = if is_perfect_class class then [] else codes "major "

-- what is smaller is minor, where it is so by a semitone and might be major
abbrev pub small_word : ℕ → Bool → List ℕ
small_word class by_one =
    if by_one && not (is_perfect_class class) then codes "minor " else codes "diminished "

-- what an interval within an octave is by its semitones. A perfect or major one has those of the
-- white keys above C
abbrev pub quality : ℕ → ℤ → List ℕ
quality class semitones =
    if int_lt (pos (letter_key class)) semitones then codes "augmented "
    else (if int_eq semitones (pos (letter_key class)) then plain_word class
    else small_word class (int_eq semitones (pos (letter_key class) -ℤ pos 1)))

-- the name of an interval
unfoldable pub interval_name : Interval → List ℕ
interval_name way =
    quality (unsigned_abs way.degrees % 7) (reduced way).semitones
    ++ number_name (unsigned_abs way.degrees)

-- the names of two pitches, each behind a space
unfoldable pub both_names : Pitch → Pitch → List ℕ
both_names p q = codes " " ++ name_of p ++ codes " " ++ name_of q

-- the interval between two pitches: its name, and theirs
abbrev pub interval_words : Pitch → Pitch → List ℕ
interval_words p q = interval_name (interval_between p q) ++ both_names p q
