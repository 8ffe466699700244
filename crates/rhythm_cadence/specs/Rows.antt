-- The rules of how a voice keeps to its range, its gamut and its shapes, and of how it begins and
-- ends.
use Rattle.std.specs.Prelude.{ℕ, ◌==◌, ◌%◌, Bool, false, not, ◌&&◌, ◌||◌, nat_le, nat_lt, List, ◌∷◌, length, take, Option, Some, None, is_none, if◌then◌else◌, pos}
use Rattle.std.specs.Ordering.{int_eq}
use Rattle.fux_pitch.specs.declared.pitch.Pitch.{Pitch}
use Rattle.fux_pitch.specs.declared.interval.Interval.{Interval}
use Rattle.fux_pitch.specs.declared.mode.Mode.{Mode}
use Rattle.fux_pitch.specs.Pitch.{degree_of, alter_of}
use Rattle.fux_pitch.specs.Size.{is_perfect_size}
use Rattle.fux_pitch.specs.Modes.{final_of, is_in_gamut}
use Rattle.fux_grid.specs.declared.cell.Cell.{Cell}
use Rattle.fux_grid.specs.declared.cell.Cell.TheVariants.{Rest, Hold, Start}
use Rattle.fux_grid.specs.declared.exercise.Exercise.{Exercise}
use Rattle.fux_grid.specs.Cells.{pitch_of, cell_in}
use Rattle.fux_grid.specs.Exercises.{bar_of}
use Rattle.fux_grid.specs.Menus.{range_of, is_between}
use Rattle.fux_grid.specs.Shapes.{begins_shape}
use Rattle.fux_grid.specs.Letters.{letters_of}
use Rattle.fux_grid.specs.Orderly.{voice_shapes}
use Rattle.rule_law.specs.Bars.{begins_bar}
use Rattle.rule_law.specs.Places.{Row}
use Rattle.rule_law.specs.Nearby.{NearRow, pitch_at, whole_of}
use Rattle.rule_law.specs.Terms.{starts, holds_of, interval_in, is_reduced_to, lowest_voice}
use Rattle.rule_law.specs.Voices.{on_voice, on_free_voice, on_pair}

-- the test holds of the pitch, where there is one
abbrev pub holds_of_pitch : (Pitch → Bool) → Option Pitch → Bool
holds_of_pitch test None = false
holds_of_pitch test (Some p) = test p

-- the test holds of the number, where there is one
abbrev pub holds_of_some : (ℕ → Bool) → Option ℕ → Bool
holds_of_some test None = false
holds_of_some test (Some v) = test v

-- the pitch that a voice brings into a bar: one that starts, or that is held over the bar line
abbrev pub pitch_brought : ℕ → Cell → Option Pitch
pitch_brought i Rest = None
pitch_brought i (Hold p) = if begins_bar i then Some p else None
pitch_brought i (Start p) = Some p

-- the pitch's key lies outside a range, where there is one
abbrev pub is_outside : Option (Pitch × Pitch) → Pitch → Bool
is_outside None p = false
is_outside (Some ends) p = not (is_between ends.0 ends.1 p)

-- S1: the voice brings into the bar a pitch outside its range there
abbrev pub leaves_range : Exercise → ℕ → ℕ → Cell → Bool
leaves_range ex v i c = holds_of_pitch (is_outside (range_of ex v (bar_of i))) (pitch_brought i c)

-- S2: or one that isn't in the gamut of the bar
abbrev pub leaves_gamut : Exercise → ℕ → Cell → Bool
leaves_gamut ex i c = holds_of_pitch (λ p. not (is_in_gamut ex.mode (bar_of i) ex.bars p)) (pitch_brought i c)

-- S3: the letters of the bar that begins here, as far as it goes, begin none of the voice's shapes
-- there
abbrev pub may_go_on : Exercise → ℕ → ℕ → List Cell → List (List Cell) → Bool
may_go_on ex v i now ahead = begins_shape (voice_shapes ex v (bar_of i)) (letters_of v (now ∷ take 7 ahead))

abbrev pub leaves_shapes : Exercise → ℕ → ℕ → List Cell → List (List Cell) → Bool
leaves_shapes ex v i now ahead = begins_bar i && not (may_go_on ex v i now ahead)

-- S12: the first note of a voice fits at the beginning: with a lower voice it makes a perfect
-- interval, and below all others a unison or an octave with the cantus
abbrev pub fits_opening : Exercise → List Cell → ℕ → Option ℕ → Bool
fits_opening ex now v None = false
fits_opening ex now v (Some u) = if u == v then holds_of (is_reduced_to 0 0) (interval_in now v ex.cantus_voice)
    else holds_of is_perfect_size (interval_in now v u)

abbrev pub opens_badly : Exercise → Option Pitch → List Cell → ℕ → Bool
opens_badly ex previous now v =
    starts (cell_in now v) && is_none previous && not (fits_opening ex now v (lowest_voice now))

-- slot 0 of the last bar
abbrev pub begins_last_bar : Exercise → ℕ → Bool
begins_last_bar ex i = begins_bar i && (bar_of i == ex.bars)

-- S13: at the beginning of the last bar, voices 0 and w don't sound a unison or an octave; with
-- three or four voices a fifth or a major third will do too
abbrev pub may_end : ℕ → Interval → Bool
may_end voices i = is_reduced_to 0 0 i || (nat_le 3 voices && (is_reduced_to 4 7 i || is_reduced_to 2 4 i))

abbrev pub fits_ending : Exercise → Interval → Bool
fits_ending ex = may_end ex.voices

abbrev pub ends_badly : Exercise → ℕ → List Cell → ℕ → Bool
ends_badly ex i now w = begins_last_bar ex i && not (holds_of (fits_ending ex) (interval_in now 0 w))

-- S24: there, voice 0 doesn't sound the mode's final
abbrev pub is_final_in : Mode → Pitch → Bool
is_final_in mode p = (degree_of p % 7 == final_of mode) && int_eq (alter_of p) (pos 0)

abbrev pub is_final : Exercise → Pitch → Bool
is_final ex = is_final_in ex.mode

abbrev pub lacks_final : Exercise → ℕ → List Cell → Bool
lacks_final ex i now = begins_last_bar ex i && not (holds_of_pitch (is_final ex) (pitch_of (cell_in now 0)))

-- the rules of one free voice: S1, S2 and S12
abbrev pub voice_rule : ℕ → Exercise → ℕ → ℕ → Option Pitch → List Cell → Bool
voice_rule rule ex v i previous now =
    if rule == 1 then leaves_range ex v i (cell_in now v)
    else (if rule == 2 then leaves_gamut ex i (cell_in now v)
    else opens_badly ex previous now v)

-- the rules that are read from a column and the one before it: these, S13 and S24
abbrev pub near_rows : ℕ → Exercise → ℕ → NearRow Bool
near_rows rule ex voices i before previous now =
    if rule == 13 then on_pair ex (λ v w. (v == 0) && ends_badly ex i now w) voices
    else (if rule == 24 then on_voice ex (λ v. (v == 0) && lacks_final ex i now) voices
    else on_free_voice ex (λ v. voice_rule rule ex v i (pitch_at previous v) now) voices)

-- S3, of one free voice
abbrev pub shape_row : Exercise → ℕ → Row Bool
shape_row ex voices i behind now ahead = on_free_voice ex (λ v. leaves_shapes ex v i now ahead) voices

-- all of them
abbrev pub broken_in : ℕ → Exercise → ℕ → Row Bool
broken_in rule ex voices i behind now ahead =
    if rule == 3 then shape_row ex voices i behind now ahead
    else whole_of (near_rows rule ex voices) i behind now ahead

-- S3 is open in a bar that has begun and isn't whole, as long as its letters begin a shape; all
-- else is settled at once
abbrev pub is_open : Exercise → ℕ → ℕ → List Cell → List (List Cell) → Bool
is_open ex v i now ahead = begins_bar i && nat_lt (length ahead) 7 && may_go_on ex v i now ahead

abbrev pub open_row : Exercise → ℕ → Row Bool
open_row ex voices i behind now ahead = on_free_voice ex (λ v. is_open ex v i now ahead) voices

abbrev pub enough_after : ℕ → Exercise → ℕ → Row Bool
enough_after rule ex voices i behind now ahead = not ((rule == 3) && open_row ex voices i behind now ahead)
