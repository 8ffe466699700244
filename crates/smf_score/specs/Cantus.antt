-- The cantus of a line of cells: in each bar one whole note.
use Rattle.std.specs.Prelude.{ℕ, zero, suc, ◌+◌, Bool, false, List, [], ◌∷◌, Option, Some, None, Result, drop, take, if◌then◌else◌}
use Rattle.std.specs.List.{list_all}
use Rattle.std.specs.Option.{ok_or}
use Rattle.fux_pitch.specs.declared.pitch.Pitch.{Pitch}
use Rattle.fux_pitch.specs.Pitch.{same_pitch}
use Rattle.fux_grid.specs.declared.cell.Cell.{Cell}
use Rattle.fux_grid.specs.declared.cell.Cell.TheVariants.{Rest, Hold, Start}
use Rattle.smf_score.specs.declared.fault.SmfFault.{SmfFault}
use Rattle.smf_score.specs.declared.fault.SmfFault.TheVariants.{NotWhole}
use Rattle.smf_score.specs.Faults.{each}

-- a pitch is held in a cell
abbrev pub holds : Pitch → Cell → Bool
holds p Rest = false
holds p (Start q) = false
holds p (Hold q) = same_pitch q p

-- the pitch that starts in the first of some cells and is held in the others
abbrev pub whole_note : List Cell → Option Pitch
whole_note [] = None
whole_note (Rest ∷ cells) = None
whole_note (Hold p ∷ cells) = None
whole_note (Start p ∷ cells) = if list_all (holds p) cells then Some p else None

-- the pitch of a bar, counted from 0, with these cells
abbrev pub bar_pitch : ℕ × List Cell → Result Pitch SmfFault
bar_pitch (bar, cells) = ok_or (whole_note cells) (NotWhole (bar + 1))

-- so many bars from one on, with their cells
abbrev pub bars_from : ℕ → ℕ → List Cell → List (ℕ × List Cell)
bars_from bar zero cells = []
bars_from bar (suc more) cells = (bar, take 8 cells) ∷ bars_from (suc bar) more (drop 8 cells)

-- the cantus of so many bars, of which these are the cells, or the first bar that isn't one whole
-- note
abbrev pub cantus_in : ℕ → List Cell → Result (List Pitch) SmfFault
cantus_in bars cells = each bar_pitch (bars_from 0 bars cells)
