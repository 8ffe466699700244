-- Ligatures that clash at the beginning of a bar, and wait for the middle of it.
use Rattle.std.specs.Prelude.{ℕ, ◌==◌, Bool, not, ◌&&◌, ◌||◌, nat_lt, List, [], ◌∷◌, Option, None, is_some, length, reverse, if◌then◌else◌}
use Rattle.fux_pitch.specs.declared.pitch.Pitch.{Pitch}
use Rattle.fux_grid.specs.declared.cell.Cell.{Cell}
use Rattle.fux_grid.specs.declared.exercise.Exercise.{Exercise}
use Rattle.fux_grid.specs.Cells.{cell_in, is_hold, pitch_of}
use Rattle.fux_grid.specs.Exercises.{slot_of}
use Rattle.rule_law.specs.Bars.{begins_bar}
use Rattle.rule_law.specs.Degrees.{lies_above}
use Rattle.rule_law.specs.Terms.{is_clean, starts}
use Rattle.dissonance_rules.specs.Clashes.{resolution_rule}
use Rattle.open_ends.specs.declared.ligatures.OpenLigature.{OpenLigature}
use Rattle.open_ends.specs.Asked.{is_asked}
use Rattle.open_ends.specs.Parts.{Step, Waits, where_read}

-- the pitch that the voice holds in a column, if it clashes there with another voice
abbrev pub held_in_clash : List Cell → ℕ → Option Pitch
held_in_clash now v = if is_hold (cell_in now v) && not (is_clean now v) then pitch_of (cell_in now v) else None

-- the pitch of a ligature that clashed at the beginning of its bar, if the bar's middle hasn't
-- come. The columns go from the newest to the oldest
abbrev pub ligature_in : List (List Cell) → ℕ → Option Pitch
ligature_in [] v = None
ligature_in (col ∷ behind) v =
    if begins_bar (length behind) then held_in_clash col v
    else (if nat_lt (slot_of (length behind)) 4 then ligature_in behind v else None)

-- the same after one column more, where this pitch waited before it
abbrev pub ligature_after : ℕ → Option Pitch → List Cell → ℕ → Option Pitch
ligature_after i waiting now v =
    if begins_bar i then held_in_clash now v else (if nat_lt (slot_of i) 4 then waiting else None)

-- in the middle of the bar a note starts one degree below, where the voice is clean
abbrev pub is_resolution : Option Pitch → List Cell → ℕ → Bool
is_resolution waiting now v =
    starts (cell_in now v) && lies_above 1 waiting (pitch_of (cell_in now v)) && is_clean now v

-- a ligature that waits is let go at once, or doesn't resolve in the middle of the bar
abbrev pub is_unresolved : ℕ → Option Pitch → List Cell → ℕ → Bool
is_unresolved i waiting now v =
    is_some waiting
    && (((slot_of i == 1) && not (is_hold (cell_in now v)))
    || ((slot_of i == 4) && not (is_resolution waiting now v)))

-- ---- the part

-- no ligature waits
abbrev pub nothing : OpenLigature
nothing = record { pitch = None }

-- what waits of the species voice behind some columns, if S20 is asked
abbrev pub open_in : Waits OpenLigature
open_in ex keeps p =
    if is_asked ex resolution_rule then record { pitch = ligature_in (reverse p) ex.species_voice } else nothing

-- what waits with one column more
abbrev pub still_open : Exercise → ℕ → OpenLigature → List Cell → OpenLigature
still_open ex i waiting now = record { pitch = ligature_after i waiting.pitch now ex.species_voice }

abbrev pub open_after : Step OpenLigature
open_after ex keeps i waiting before now =
    where_read (is_asked ex resolution_rule) (is_unresolved i waiting.pitch now ex.species_voice) nothing
    (still_open ex i waiting now)
