-- What is known of any pitches, also where a rule is broken in them, and what comes next of a pool.
-- Pitches go from the newest to the oldest.
use Rattle.std.specs.Prelude.{◌≡◌, ℕ, ◌+◌, ◌-◌, ◌*◌, ◌<◌, ◌≤◌, List, [], ◌∷◌, Option, None, Some, length, map}
use Rattle.std.specs.List.{filter, range_with_len}
use Rattle.fux_pitch.specs.declared.pitch.Pitch.{Pitch}
use Rattle.cantus_space.specs.declared.node.CantusNode.{CantusNode}
use Rattle.cantus_space.specs.declared.plan.CantusPlan.{CantusPlan}
use Rattle.cantus_space.specs.Cantus.{is_in_pool}
use Rattle.cantus_space.specs.Melody.{charged}
use Rattle.cantus_space.specs.Nodes.{HasPitches}
use Rattle.cantus_space.specs.Numbers.{WIDTH, numbered_pitch}
use Rattle.cantus_space.specs.Rules.{paid}

-- the node knows what rules and gauges keep of these pitches, and what they cost so far
pub record IsKnownOf (plan : CantusPlan) (behind : List Pitch) (node : CantusNode) : Type 0 where
  pub kept : HasPitches behind node
  pub paid : node.paid ≡ paid plan.sheet behind
  pub little : node.paid ≤ 131070 * length behind
  pub charged : node.charged ≡ charged plan.prices behind
  pub little_charged : node.charged ≤ 262140 * length behind

-- it does so of some pitches, no more than there are bars
pub record IsKnown (plan : CantusPlan) (node : CantusNode) : Type 0 where
  pub behind : List Pitch
  pub is_of : IsKnownOf plan behind node
  pub few : length behind ≤ plan.bars

-- of some pitches to which one more may be added
pub record HasRoom (plan : CantusPlan) (node : CantusNode) : Type 0 where
  pub behind : List Pitch
  pub is_of : IsKnownOf plan behind node
  pub room : length behind < plan.bars

-- the pitches of a bar's pool, from a number on, in reading order
unfoldable pub pool_from : CantusPlan → ℕ → ℕ → List Pitch
pool_from plan bar from = filter (is_in_pool plan bar) (map (numbered_pitch plan) (range_with_len from (WIDTH - from)))

-- the first of them is that of a number
pub record IsFirstOfPool (plan : CantusPlan) (bar from number : ℕ) (p : Pitch) : Type 0 where
  pub within : number < WIDTH
  pub is : p ≡ numbered_pitch plan number
  pub rest : pool_from plan bar from ≡ p ∷ pool_from plan bar (number + 1)

-- what was found is the first of them, or nothing where there is none
abbrev pub IsNextOfPool : CantusPlan → ℕ → ℕ → Option (ℕ × Pitch) → Type 0
IsNextOfPool plan bar from None = pool_from plan bar from ≡ []
IsNextOfPool plan bar from (Some found) = IsFirstOfPool plan bar from found.0 found.1
