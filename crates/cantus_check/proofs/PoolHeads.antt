-- What is left of a pool begins with the pitch of a number just where that is of the pool
-- (`pool_head`, `head_is_of`).
use Rattle.std.specs.Prelude.{◌≡◌, ℕ, suc, ◌+◌, ◌-◌, ◌<◌, Bool, true, false, cond, List, [], ◌∷◌, map, refl}
use Rattle.std.specs.List.{filter, range_with_len}
use Rattle.std.proofs.Common.{arith, ap, ◌∙◌, true≢false}
use Rattle.fux_pitch.specs.declared.pitch.Pitch.{Pitch}
use Rattle.cantus_space.specs.declared.plan.CantusPlan.{CantusPlan}
use Rattle.cantus_space.specs.Cantus.{is_in_pool}
use Rattle.cantus_space.specs.Known.{pool_from}
use Rattle.cantus_space.specs.Numbers.{numbered_pitch}

module _ (plan : CantusPlan) (bar : ℕ) where
  pitches_of_numbers : ℕ → ℕ → List Pitch
  pitches_of_numbers from n = filter (is_in_pool plan bar) (map (numbered_pitch plan) (range_with_len from n))

  pub pool_head : (k : ℕ) → k < 73 → is_in_pool plan bar (numbered_pitch plan k) ≡ true
      → pool_from plan bar k ≡ numbered_pitch plan k ∷ pool_from plan bar (k + 1)
  unfolding pool_from pitches_of_numbers
  pool_head k h is =
      let e : 73 - k ≡ suc (73 - (k + 1)) = omega (arith, h) in
      ap (pitches_of_numbers k) e
      ∙ ap (λ b. cond b (numbered_pitch plan k ∷ pool_from plan bar (k + 1)) (pool_from plan bar (k + 1))) is

  first_passes : (test : Pitch → Bool) (ps rest : List Pitch) (p : Pitch) → filter test ps ≡ p ∷ rest → test p ≡ true
  first_passes test [] rest p e = cc
  first_passes test (q ∷ ps) rest p e = at (test q) refl e (first_passes test ps rest p)
    where
      at : (b : Bool) → test q ≡ b → cond b (q ∷ filter test ps) (filter test ps) ≡ p ∷ rest
          → (filter test ps ≡ p ∷ rest → test p ≡ true) → test p ≡ true
      at true t e later = let same : p ≡ q = cc in ap test same ∙ t
      at false t e later = later e

  pub head_is_of : (from : ℕ) (p : Pitch) (rest : List Pitch) → pool_from plan bar from ≡ p ∷ rest
      → is_in_pool plan bar p ≡ true
  unfolding pool_from
  head_is_of from p rest e =
      first_passes (is_in_pool plan bar) (map (numbered_pitch plan) (range_with_len from (73 - from))) rest p e

pub same_heads : (ps xs ys : List Pitch) (p q : Pitch) → ps ≡ p ∷ xs → ps ≡ q ∷ ys → p ≡ q
same_heads ps xs ys p q e f = cc

pub no_head : (ps ys : List Pitch) (q : Pitch) → ps ≡ [] → ps ≡ q ∷ ys → ⊥
no_head [] ys q e f = absurd (nil_is_none f)
  where
    nil_is_none : [] ≡ q ∷ ys → ⊥
    nil_is_none h = let clash : true ≡ false = cc in absurd (true≢false clash)
no_head (p ∷ ps) ys q e f = let clash : true ≡ false = cc in absurd (true≢false clash)
