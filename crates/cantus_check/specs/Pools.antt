-- A pool as a list.
use Rattle.std.specs.Prelude.{◌≡◌, ◌↔◌, ℕ, true, List, [], ◌∷◌, ⊤}
use Rattle.std.specs.List.{AllByRecursion, Contains}
use Rattle.std.specs.declared.cmp.Ordering.TheVariants.{Less}
use Rattle.fux_pitch.specs.declared.pitch.Pitch.{Pitch}
use Rattle.fux_grid.specs.Order.{pitch_order}
use Rattle.cantus_space.specs.declared.plan.CantusPlan.{CantusPlan}
use Rattle.cantus_space.specs.Cantus.{is_in_pool}

-- each pitch comes before all behind it in reading order
abbrev pub AreAscending : List Pitch → Type 0
AreAscending [] = ⊤
AreAscending (p ∷ ps) = AllByRecursion (λ q. pitch_order p q ≡ Less) ps × AreAscending ps

-- the list has exactly the pitches of the bar's pool, in reading order
pub record ListsPool (plan : CantusPlan) (bar : ℕ) (pool : List Pitch) : Type 0 where
  pub each : (p : Pitch) → Contains pool p ↔ (is_in_pool plan bar p ≡ true)
  pub order : AreAscending pool
