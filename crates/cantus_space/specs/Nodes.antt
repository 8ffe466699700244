-- What stands for pitches while a search is there.
use Rattle.std.specs.Prelude.{◌≡◌, ◌*◌, ◌≤◌, true, List, length, map, reverse, take}
use Rattle.fux_pitch.specs.declared.pitch.Pitch.{Pitch}
use Rattle.fux_grid.specs.declared.cell.Cell.{Cell}
use Rattle.fux_grid.specs.declared.cell.Cell.TheVariants.{Start}
use Rattle.melody_rules.specs.GaugeParts.{IsClimaxOf, IsLeapsOf}
use Rattle.melody_rules.specs.Gauges.{beyond_fourth}
use Rattle.melody_rules.specs.Notes.{IsNotesOf}
use Rattle.cantus_space.specs.declared.node.CantusNode.{CantusNode}
use Rattle.cantus_space.specs.declared.plan.CantusPlan.{CantusPlan}
use Rattle.cantus_space.specs.Melody.{charged, climax_bar, moves_one_way}
use Rattle.cantus_space.specs.Rules.{is_live, paid}

-- the cells in which the pitches start
abbrev pub started : List Pitch → List Cell
started ps = map Start ps

-- the node has these pitches, given from the newest to the oldest, and what rules and gauges keep
-- of them
pub record HasPitches (behind : List Pitch) (node : CantusNode) : Type 0 where
  pub count : node.len ≡ length behind
  pub pitches : reverse (take node.len node.pitches) ≡ behind
  pub notes : IsNotesOf (started behind) node.notes
  pub climax : IsClimaxOf behind node.climax
  pub leaps : IsLeapsOf behind node.leaps
  pub beyond : node.beyond ≡ beyond_fourth behind
  pub moves : node.moves ≡ moves_one_way behind
  pub top : node.top ≡ climax_bar behind

-- the pitches begin a cantus and break no rule, and the node knows what they cost so far
pub record IsNodeOf (plan : CantusPlan) (behind : List Pitch) (node : CantusNode) : Type 0 where
  pub kept : HasPitches behind node
  pub live : is_live plan behind ≡ true
  pub few : length behind ≤ plan.bars
  pub paid : node.paid ≡ paid plan.sheet behind
  pub little : node.paid ≤ 131070 * length behind
  pub charged : node.charged ≡ charged plan.prices behind
  pub little_charged : node.charged ≤ 262140 * length behind
