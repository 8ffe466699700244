-- The list of a pool has exactly its pitches, in order (`pool_is_listed`).
use Rattle.std.specs.Prelude.{◌≡◌, ◌⊎◌, ℕ, zero, suc, ◌+◌, ◌<◌, ◌≤◌, Bool, true, false, cond, List, [], ◌∷◌, map}
use Rattle.std.specs.List.{AllByRecursion, Contains, filter, range_with_len}
use Rattle.std.specs.declared.cmp.Ordering.TheVariants.{Less}
use Rattle.std.proofs.Common.{arith, inl, inr, ap, ◌∙◌}
use Rattle.std.proofs.lemmas.Bool.{cases_Bool}
use Rattle.std.proofs.lemmas.List.Elements.{All-contains, filter_passes}
use Rattle.std.proofs.lemmas.List.FromFn.{get_or-map-range_with_len, length-map-range_with_len}
use Rattle.fux_pitch.specs.declared.pitch.Pitch.{Pitch}
use Rattle.fux_grid.specs.Order.{pitch_order}
use Rattle.cantus_space.specs.declared.plan.CantusPlan.{CantusPlan}
use Rattle.cantus_space.specs.Cantus.{is_in_pool}
use Rattle.cantus_space.specs.Known.{pool_from}
use Rattle.cantus_space.specs.Numbers.{WIDTH, numbered_pitch}
use Rattle.cantus_space.specs.Order.{has_number, pitches_in_order}
use Rattle.cantus_check.specs.Claims.{pool_of}
use Rattle.cantus_check.specs.Pools.{AreAscending, ListsPool}

-- what passes is among what is filtered
contains-filter : (test : Pitch → Bool) (ps : List Pitch) (p : Pitch) → Contains ps p → test p ≡ true
    → Contains (filter test ps) p
contains-filter test [] p (k, h, e) passes = absurd (omega (arith, h))
contains-filter test (q ∷ ps) p (zero, h, e) passes =
    let here : test q ≡ true = ap test e ∙ passes in
    rw here (0, omega arith, e)
contains-filter test (q ∷ ps) p (suc k, h, e) passes =
    at (cases_Bool (test q)) (contains-filter test ps p (k, omega (arith, h), e) passes)
  where
    at : (test q ≡ true) ⊎ (test q ≡ false) → Contains (filter test ps) p → Contains (filter test (q ∷ ps)) p
    at (inl t) later = rw t (suc later.0, omega (arith, later.1), later.2)
    at (inr f) later = rw f later

module _ (plan : CantusPlan) (test : Pitch → Bool) where
  -- those of greater numbers are higher
  above : (j from n : ℕ) → j < from → from + n ≤ 73
      → AllByRecursion (λ q. pitch_order (numbered_pitch plan j) q ≡ Less)
      (filter test (map (numbered_pitch plan) (range_with_len from n)))
  above j from zero low high = tt
  above j from (suc n) low high =
      at (test (numbered_pitch plan from)) (above j (from + 1) n (omega (arith, low)) (omega (arith, high)))
    where
      at : (b : Bool) → AllByRecursion (λ q. pitch_order (numbered_pitch plan j) q ≡ Less)
          (filter test (map (numbered_pitch plan) (range_with_len (from + 1) n)))
          → AllByRecursion (λ q. pitch_order (numbered_pitch plan j) q ≡ Less)
          (cond b (numbered_pitch plan from ∷ filter test (map (numbered_pitch plan) (range_with_len (from + 1) n)))
          (filter test (map (numbered_pitch plan) (range_with_len (from + 1) n))))
      at true later = (pitches_in_order plan j from low (omega (arith, high)), later)
      at false later = later

  ascending : (from n : ℕ) → from + n ≤ 73
      → AreAscending (filter test (map (numbered_pitch plan) (range_with_len from n)))
  ascending from zero high = tt
  ascending from (suc n) high =
      at (test (numbered_pitch plan from)) (ascending (from + 1) n (omega (arith, high)))
    where
      at : (b : Bool) → AreAscending (filter test (map (numbered_pitch plan) (range_with_len (from + 1) n)))
          → AreAscending
          (cond b (numbered_pitch plan from ∷ filter test (map (numbered_pitch plan) (range_with_len (from + 1) n)))
          (filter test (map (numbered_pitch plan) (range_with_len (from + 1) n))))
      at true later = (above from (from + 1) n (omega arith) (omega (arith, high)), later)
      at false later = later

pub pool_is_listed : (plan : CantusPlan) (bar : ℕ) → ListsPool plan bar (pool_of plan bar)
unfolding pool_from
pool_is_listed plan bar = record {
  each = λ p. (
    λ there. All-contains (λ q. is_in_pool plan bar q ≡ true) (filter (is_in_pool plan bar) all) p
        (filter_passes (is_in_pool plan bar) all) there,
    λ pool.
        let own = has_number plan bar p pool in
        contains-filter (is_in_pool plan bar) all p (
          own.number,
          omega (arith, own.small, length-map-range_with_len (numbered_pitch plan) 0 WIDTH),
          get_or-map-range_with_len (numbered_pitch plan) 0 WIDTH own.number own.number p own.small (omega arith) ∙ own.is,
        ) pool,
  );
  order = ascending plan (is_in_pool plan bar) 0 WIDTH (omega arith);
}
  where
    all : List Pitch
    all = map (numbered_pitch plan) (range_with_len 0 WIDTH)
