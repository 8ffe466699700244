-- Canons in two voices, and what is asked of their bars. A bar is named by the cells with which it
-- begins, one for each voice: a note that starts there is held to the bar's end.
use Rattle.std.specs.Prelude.{ℕ, ◌+◌, ◌-◌, ◌<◌, ◌≤◌, ◌==◌, ℤ, pos, negsuc, ◌+ℤ◌, ◌≤ℤ◌, Bool, true, false, ◌&&◌, ◌||◌, nat_lt, List, [], All, length, Option, Some, None, slice_get, slice_index_or, if◌then◌else◌}
use Rattle.std.specs.Option.{option_map_or}
use Rattle.std.specs.Ordering.{int_eq}
use Rattle.fux_pitch.specs.declared.pitch.Pitch.{Pitch}
use Rattle.fux_pitch.specs.Modes.{is_in_gamut}
use Rattle.fux_pitch.specs.Pitch.{degree_of, key_of}
use Rattle.fux_grid.specs.declared.cell.Cell.{Cell}
use Rattle.fux_grid.specs.declared.cell.Cell.TheVariants.{Rest, Hold, Start}
use Rattle.fux_grid.specs.Cells.{cell_in}
use Rattle.fux_grid.specs.Menus.{is_between}
use Rattle.rule_law.specs.Terms.{started_pitch}
use Rattle.rhythm_cadence.specs.Rows.{holds_of_pitch, is_final_in}
use Rattle.canon_space.specs.declared.canon.Canon.{Canon}

-- a canon is within the limits
pub record IsCanon (canon : Canon) : Type 0 where
  pub fewest_bars : 3 ≤ canon.bars
  pub most_bars : canon.bars ≤ 24
  pub two_voices : canon.leader < 2
  pub lowest_shift : negsuc 13 ≤ℤ canon.shift
  pub highest_shift : canon.shift ≤ℤ pos 14
  pub least_delay : 1 ≤ canon.delay
  pub most_delay : canon.delay + 2 ≤ canon.bars
  pub rise : All (λ ends. key_of ends.0 ≤ℤ key_of ends.1) canon.ranges

-- bars, from the newest to the oldest
abbrev pub Bars : Type 0
Bars = List (List Cell)

-- the number of the bar that comes after them, counted from 1
abbrev pub bar_after : Bars → ℕ
bar_after behind = length behind + 1

-- the bar that begins so many bars before that one
abbrev pub bar_before : ℕ → Bars → List Cell
bar_before count behind = slice_index_or behind (count - 1) []

-- the voice that follows the leader
abbrev pub follower : Canon → ℕ
follower canon = 1 - canon.leader

-- the pitch's key lies in the voice's range
abbrev pub is_in_range : Canon → ℕ → Pitch → Bool
is_in_range canon v p = option_map_or (λ ends. is_between ends.0 ends.1 p) (slice_get canon.ranges v) false

-- the pitch is in the gamut of a bar and in the voice's range
abbrev pub may_sound : Canon → ℕ → ℕ → Pitch → Bool
may_sound canon v bar p = is_in_gamut canon.mode bar canon.bars p && is_in_range canon v p

-- in the next bar the voice has one whole note, of such a pitch
abbrev pub has_note : Canon → Bars → ℕ → Cell → Bool
has_note canon behind v c = holds_of_pitch (may_sound canon v (bar_after behind)) (started_pitch c)

-- the voice rests there
abbrev pub is_rest : Cell → Bool
is_rest Rest = true
is_rest (Hold p) = false
is_rest (Start p) = false

-- the second pitch has so many degrees more than the first
abbrev pub answers : ℤ → Option Pitch → Option Pitch → Bool
answers shift None q = false
answers shift (Some p) None = false
answers shift (Some p) (Some q) = int_eq (pos (degree_of q)) (pos (degree_of p) +ℤ shift)

-- the follower's note has SHIFT degrees more than the leader's note of DELAY bars before
abbrev pub follows_leader : Canon → Bars → Cell → Bool
follows_leader canon behind c =
    answers canon.shift (started_pitch (cell_in (bar_before canon.delay behind) canon.leader)) (started_pitch c)

-- the follower rests in the first DELAY bars, and in each later one it has a note that follows the
-- leader
abbrev pub follower_fits : Canon → Bars → Cell → Bool
follower_fits canon behind c =
    if nat_lt (length behind) canon.delay then is_rest c
    else has_note canon behind (follower canon) c && follows_leader canon behind c

-- the next bar is as a canon setting asks: it is one of the canon's bars and of two voices, the
-- leader has a note, and the follower fits
abbrev pub is_canon_bar : Canon → Bars → List Cell → Bool
is_canon_bar canon behind now =
    nat_lt (length behind) canon.bars && (length now == 2)
    && has_note canon behind canon.leader (cell_in now canon.leader)
    && follower_fits canon behind (cell_in now (follower canon))

-- a voice does there as is asked of it
abbrev pub fits : Canon → Bars → ℕ → Cell → Bool
fits canon behind v c =
    if v == canon.leader then has_note canon behind v c else follower_fits canon behind c

-- the leader's first note has the final's letter without alteration
abbrev pub opens_on_final : Canon → Bars → List Cell → Bool
opens_on_final canon behind now =
    nat_lt 0 (length behind) || holds_of_pitch (is_final_in canon.mode) (started_pitch (cell_in now canon.leader))
