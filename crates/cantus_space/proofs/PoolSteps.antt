-- What is left of a pool from a number on: the pitch of the next number of the pool, and what is
-- left behind it (`pool-at`).
use Rattle.std.specs.Prelude.{◌≡◌, ℕ, zero, suc, ◌+◌, ◌-◌, ◌<◌, ◌≤◌, true, false, cond, List, [], ◌∷◌, map}
use Rattle.std.specs.List.{filter, range_with_len}
use Rattle.std.proofs.Common.{arith, ap, sym, ◌∙◌}
use Rattle.fux_pitch.specs.declared.pitch.Pitch.{Pitch}
use Rattle.cantus_space.specs.declared.plan.CantusPlan.{CantusPlan}
use Rattle.cantus_space.specs.Cantus.{is_in_pool}
use Rattle.cantus_space.specs.Known.{IsFirstOfPool, pool_from}
use Rattle.cantus_space.specs.Numbers.{numbered_pitch}

module _ (plan : CantusPlan) (bar : ℕ) where
  -- the pitches of so many numbers that are of the pool
  pool_of_numbers : ℕ → ℕ → List Pitch
  pool_of_numbers from n = filter (is_in_pool plan bar) (map (numbered_pitch plan) (range_with_len from n))

  pub pool-step : (from : ℕ) → from < 73
      → pool_from plan bar from
      ≡ cond (is_in_pool plan bar (numbered_pitch plan from)) (numbered_pitch plan from ∷ pool_from plan bar (from + 1))
      (pool_from plan bar (from + 1))
  unfolding pool_from pool_of_numbers
  pool-step from h =
      let e : 73 - from ≡ suc (73 - (from + 1)) = omega (arith, h) in
      ap (pool_of_numbers from) e

  pub pool-end : (from : ℕ) → 73 ≤ from → pool_from plan bar from ≡ []
  unfolding pool_from pool_of_numbers
  pool-end from h =
      let e : 73 - from ≡ 0 = omega (arith, h) in
      ap (pool_of_numbers from) e

  -- numbers that are none of the pool may be passed
  pub pool-passed : (n from to : ℕ) → from + n ≡ to → to ≤ 73
      → ((k : ℕ) → from ≤ k → k < to → is_in_pool plan bar (numbered_pitch plan k) ≡ false)
      → pool_from plan bar from ≡ pool_from plan bar to
  pool-passed zero from to e few none = let same : from ≡ to = omega (arith, e) in ap (pool_from plan bar) same
  pool-passed (suc n) from to e few none =
      let low : from < to = omega (arith, e) in
      let here = none from (omega arith) low in
      pool-step from (omega (arith, low, few))
      ∙ ap (λ b. cond b (numbered_pitch plan from ∷ pool_from plan bar (from + 1)) (pool_from plan bar (from + 1))) here
      ∙ pool-passed n (from + 1) to (omega (arith, e)) few (λ k h below. none k (omega (arith, h)) below)

  pub pool-at : (from to : ℕ) → from ≤ to → to < 73
      → ((k : ℕ) → from ≤ k → k < to → is_in_pool plan bar (numbered_pitch plan k) ≡ false)
      → is_in_pool plan bar (numbered_pitch plan to) ≡ true → (p : Pitch) → p ≡ numbered_pitch plan to
      → IsFirstOfPool plan bar from to p
  pool-at from to h few none there p e = record {
    within = few;
    is = e;
    rest = pool-passed (to - from) from to (omega (arith, h)) (omega (arith, few)) none
        ∙ pool-step to few
        ∙ ap (λ b. cond b (numbered_pitch plan to ∷ pool_from plan bar (to + 1)) (pool_from plan bar (to + 1))) there
        ∙ ap (λ q. q ∷ pool_from plan bar (to + 1)) (sym e);
  }
