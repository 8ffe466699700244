-- Paths of child numbers, and the pitches that they lead to. A child's number is that of a pitch,
-- by its key.
use Rattle.std.specs.Prelude.{◌≡◌, ℕ, Bool, true, ◌&&◌, nat_lt, List, Option, Some, None, map, reverse, if◌then◌else◌}
use Rattle.std.specs.List.{list_all}
use Rattle.fux_pitch.specs.declared.pitch.Pitch.{Pitch}
use Rattle.cantus_space.specs.declared.node.CantusNode.{CantusNode}
use Rattle.cantus_space.specs.declared.plan.CantusPlan.{CantusPlan}
use Rattle.cantus_space.specs.Nodes.{IsNodeOf}
use Rattle.cantus_space.specs.Numbers.{WIDTH, numbered_pitch}
use Rattle.cantus_space.specs.Rules.{floor_of, is_live}

-- the pitches that a path leads to
abbrev pub pitches_at : CantusPlan → List ℕ → List Pitch
pitches_at plan path = map (numbered_pitch plan) path

-- the same from the newest to the oldest
abbrev pub history_at : CantusPlan → List ℕ → List Pitch
history_at plan path = reverse (pitches_at plan path)

-- each number is one of a child
abbrev pub are_numbers : List ℕ → Bool
are_numbers path = list_all (λ k. nat_lt k WIDTH) path

abbrev pub is_live_path : CantusPlan → List ℕ → Bool
is_live_path plan path = are_numbers path && is_live plan (history_at plan path)

-- the floor of the pitches that a path leads to, where they are of their pools and break no rule
unfoldable pub live_at : CantusPlan → List ℕ → Option ℕ
live_at plan path = if is_live_path plan path then Some (floor_of plan (history_at plan path)) else None

-- the node is that of a live path
pub record IsNodeAt (plan : CantusPlan) (node : CantusNode) (path : List ℕ) : Type 0 where
  pub numbers : are_numbers path ≡ true
  pub here : IsNodeOf plan (history_at plan path) node
