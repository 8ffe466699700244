-- What is kept of the notes of the species voice: the newest one, the way of the move to it, and
-- the latest turning note, each as far as S8 may come to ask for it.
use Rattle.std.specs.Prelude.{ℕ, ◌+◌, ◌-◌, ◌==◌, Bool, false, not, ◌&&◌, ◌||◌, nat_le, pos, unsigned_abs, List, [], ◌∷◌, length, Option, Some, None, is_some, if◌then◌else◌}
use Rattle.std.specs.List.{list_any}
use Rattle.std.specs.Option.{option_map_or}
use Rattle.std.specs.Ordering.{int_eq}
use Rattle.fux_pitch.specs.declared.interval.Interval.{Interval}
use Rattle.fux_pitch.specs.declared.pitch.Pitch.{Pitch}
use Rattle.fux_pitch.specs.Modes.{is_in_gamut}
use Rattle.fux_pitch.specs.Pitch.{alter_of, key_of}
use Rattle.fux_pitch.specs.Size.{interval_between}
use Rattle.fux_pitch.specs.Spelling.{spelled}
use Rattle.fux_grid.specs.declared.cell.Cell.{Cell}
use Rattle.fux_grid.specs.declared.cell.Cell.TheVariants.{Rest, Hold, Start}
use Rattle.fux_grid.specs.declared.exercise.Exercise.{Exercise}
use Rattle.fux_grid.specs.Cells.{cell_in}
use Rattle.fux_grid.specs.Exercises.{columns_in}
use Rattle.fux_grid.specs.Menus.{is_between}
use Rattle.rule_law.specs.Terms.{falls, holds_of, interval_of_pitches, move_from, rises, semitones_without_sign}
use Rattle.open_ends.specs.declared.notes.OpenTurns.{OpenTurns}
use Rattle.open_ends.specs.declared.notes.Way.{Way}
use Rattle.open_ends.specs.declared.notes.Way.TheVariants.{Falls, Level, Rises}

-- S8, by its number
abbrev pub turns_rule : ℕ
turns_rule = 8

-- no notes
abbrev pub none : OpenTurns
none = record { newest = None; way = Level; turning = None }

-- which way a move goes; where there is none, it goes no way
abbrev pub way_of : Option Interval → Way
way_of None = Level
way_of (Some i) = if rises i then Rises else (if falls i then Falls else Level)

-- the way from the note before, where there is one, to a note
abbrev pub way_between : Option Pitch → Pitch → Way
way_between previous c = way_of (interval_of_pitches previous (Some c))

-- a move goes the other way
abbrev pub goes_back : Way → Interval → Bool
goes_back Falls i = rises i
goes_back Level i = false
goes_back Rises i = falls i

-- a note starts by which the newest one becomes a turning note
abbrev pub turns_back : OpenTurns → Cell → Bool
turns_back kept now = holds_of (goes_back kept.way) (move_from kept.newest now)

-- how many semitones lie between two pitches
abbrev pub semitones_between : Pitch → Pitch → ℕ
semitones_between p q = semitones_without_sign (interval_between p q)

-- a note starts by which the newest one becomes a turning note, six semitones from the turning note
-- that is kept
abbrev pub turns_badly : OpenTurns → Cell → Bool
turns_badly kept now =
    turns_back kept now && holds_of (λ k. semitones_without_sign k == 6) (interval_of_pitches kept.turning kept.newest)

-- the column is in one of the last four bars
abbrev pub is_near_end : Exercise → ℕ → Bool
is_near_end ex i = nat_le (columns_in ex - i) 32

-- the mode has a pitch: it is in the gamut of the last bar, which has the notes of all others. What
-- the mode raises there counts near the end alone
abbrev pub is_in_mode : Exercise → ℕ → Pitch → Bool
is_in_mode ex i p = is_in_gamut ex.mode 1 1 p && (is_near_end ex i || not (int_eq (alter_of p) (pos 1)))

-- it lies within some range of the species voice
abbrev pub is_in_reach : Exercise → Pitch → Bool
is_in_reach ex p = list_any (λ line. (line.voice == ex.species_voice) && is_between line.low line.high p) ex.ranges

-- the voice may come to a note of a key
abbrev pub may_sound : Exercise → ℕ → ℕ → Bool
may_sound ex i key = option_map_or (λ p. is_in_mode ex i p && is_in_reach ex p) (spelled key) false

-- if the voice turns back at a note that it comes to, it may come to one six semitones off: above a
-- note that it fell to, below one that it rose to
abbrev pub has_tritone : Exercise → ℕ → Way → Pitch → Bool
has_tritone ex i Falls p = may_sound ex i (unsigned_abs (key_of p) + 6)
has_tritone ex i Level p = false
has_tritone ex i Rises p = may_sound ex i (unsigned_abs (key_of p) - 6)

-- a turning note that the voice came to, if it may come to a note six semitones off
abbrev pub with_tritone : Exercise → ℕ → Way → Option Pitch → Option Pitch
with_tritone ex i way None = None
with_tritone ex i way (Some p) = if has_tritone ex i way p then Some p else None

-- a turning note, if it lies at most six semitones from a note
abbrev pub while_near : Option Pitch → Pitch → Option Pitch
while_near None c = None
while_near (Some p) c = if nat_le (semitones_between p c) 6 then Some p else None

-- what is kept of the latest turning note, once a further note starts in column i. It is let go
-- where the new note lies more than six semitones from it: unless a note is repeated, the next
-- turning note lies farther still
abbrev pub turning_after : Exercise → ℕ → OpenTurns → Pitch → Option Pitch
turning_after ex i kept c =
    while_near (if turns_back kept (Start c) then with_tritone ex i kept.way kept.newest else kept.turning) c

-- what is kept, once a further note starts. The way to it is kept where a turning note is, or where
-- the new note would be if it became one
abbrev pub with_note : Exercise → ℕ → OpenTurns → Pitch → OpenTurns
with_note ex i kept c = record {
  newest = Some c;
  way = if is_some (turning_after ex i kept c) || has_tritone ex i (way_between kept.newest c) c
      then way_between kept.newest c else Level;
  turning = turning_after ex i kept c;
}

-- what is kept after one more cell of the voice, that of column i
abbrev pub noted : Exercise → ℕ → OpenTurns → Cell → OpenTurns
noted ex i kept Rest = kept
noted ex i kept (Hold p) = kept
noted ex i kept (Start c) = with_note ex i kept c

-- what is kept of some columns, which go from the newest to the oldest
abbrev pub noted_in : Exercise → List (List Cell) → OpenTurns
noted_in ex [] = none
noted_in ex (col ∷ behind) = noted ex (length behind) (noted_in ex behind) (cell_in col ex.species_voice)
