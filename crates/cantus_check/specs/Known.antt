-- What is known of pitches of which a claim is judged, and how they are found by the numbers of
-- pitches.
use Rattle.std.specs.Prelude.{◌≡◌, ℕ, ◌+◌, ◌≤◌, ◌&&◌, Bool, nat_lt, List, [], ◌∷◌, ◌++◌, None, Some, length, map, reverse}
use Rattle.std.specs.declared.cmp.Ordering.{Ordering}
use Rattle.std.specs.declared.cmp.Ordering.TheVariants.{Equal}
use Rattle.cert_tree.specs.Walks.{Ways}
use Rattle.fux_pitch.specs.declared.pitch.Pitch.{Pitch}
use Rattle.rule_law.specs.Voices.{has_rule}
use Rattle.cantus_space.specs.declared.plan.CantusPlan.{CantusPlan}
use Rattle.cantus_space.specs.Cantus.{is_in_pool}
use Rattle.cantus_space.specs.Known.{IsKnownOf, pool_from}
use Rattle.cantus_space.specs.Numbers.{numbered_pitch}
use Rattle.cantus_check.specs.Claims.{Said, has_break_of}
use Rattle.cantus_check.specs.Writer.{pitches_order}
use Rattle.cantus_check.specs.declared.known.CantusKnown.{CantusKnown}

-- how the head's cantus goes against pitches
abbrev pub order_with : Said → List Pitch → Ordering
order_with None ps = Equal
order_with (Some best) ps = pitches_order best.1 ps

-- what rules and gauges keep of the pitches, the rules that are broken in them, and how the head's
-- cantus goes against them
pub record IsJudged (plan : CantusPlan) (said : Said) (known : CantusKnown) (ps : List Pitch) : Type 0 where
  pub node : IsKnownOf plan (reverse ps) known.node
  pub broken : (rule : ℕ) → has_rule known.broken.bits rule ≡ has_break_of plan ps rule
  pub order : known.order ≡ order_with said ps
  pub size : known.len ≡ length ps
  pub few : length ps ≤ plan.bars

-- the lists that are longer by a pitch of the next pool, from a number on
abbrev pub longer_from : CantusPlan → List Pitch → ℕ → List (List Pitch)
longer_from plan ps from = map (λ p. ps ++ p ∷ []) (pool_from plan (length ps + 1) from)

-- the pitch of a number is one of the next pool
abbrev pub is_step_of : CantusPlan → List Pitch → ℕ → Bool
is_step_of plan ps k = nat_lt k 73 && is_in_pool plan (length ps + 1) (numbered_pitch plan k)

abbrev pub ways_of : CantusPlan → Ways (List Pitch)
ways_of plan = record {
  root = [];
  child = λ ps k. ps ++ numbered_pitch plan k ∷ [];
  is_step = is_step_of plan;
  longer_from = longer_from plan;
  steps = length;
  height = plan.bars;
}

-- this is known of some pitches
pub record IsJudgedOfSome (plan : CantusPlan) (said : Said) (known : CantusKnown) : Type 0 where
  pub pitches : List Pitch
  pub is_of : IsJudged plan said known pitches
