-- What stands for bars while a search is there.
use Rattle.std.specs.Prelude.{◌≡◌, ◌*◌, ◌≤◌, true, length, take}
use Rattle.fux_grid.specs.Columns.{line}
use Rattle.melody_rules.specs.Notes.{IsNotesOf}
use Rattle.penalty_sheet.specs.declared.sheet.Sheet.{Sheet}
use Rattle.canon_space.specs.declared.canon.Canon.{Canon}
use Rattle.canon_space.specs.declared.node.CanonNode.{CanonNode}
use Rattle.canon_space.specs.Canons.{Bars}
use Rattle.canon_space.specs.Kept.{history_of}
use Rattle.canon_space.specs.Rules.{is_live, paid}

-- the node has these bars, given from the newest to the oldest, and the notes of both voices in
-- them
pub record HasBars (behind : Bars) (node : CanonNode) : Type 0 where
  pub count : node.len ≡ length behind
  pub bars : history_of (take node.len node.bars) ≡ behind
  pub lower : IsNotesOf (line 0 behind) node.lower
  pub upper : IsNotesOf (line 1 behind) node.upper

-- the bars begin a canon and break no rule, and the node knows what they cost
pub record IsNodeOf (canon : Canon) (sheet : Sheet) (behind : Bars) (node : CanonNode) : Type 0 where
  pub kept : HasBars behind node
  pub live : is_live canon behind ≡ true
  pub few : length behind ≤ canon.bars
  pub paid : node.paid ≡ paid canon sheet behind
  pub little : node.paid ≤ 458745 * length behind
