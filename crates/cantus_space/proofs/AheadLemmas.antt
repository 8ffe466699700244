-- Whether a note may start in a bar, by trying each number.
use Rattle.std.specs.Prelude.{◌≡◌, ℕ, ◌<◌, true, false, replicate, slice_index}
use Rattle.std.specs.List.{range_with_len}
use Rattle.std.proofs.Common.{arith, sym, ap, ◌∙◌, inl, inr}
use Rattle.std.proofs.lemmas.Bool.{cases_lt, false_from_ne_true}
use Rattle.std.proofs.lemmas.List.{get_or-replicate, get_or_past, length-replicate}
use Rattle.std.proofs.lemmas.List.FromFn.{get_or-range_with_len, length-range_with_len}
use Rattle.rule_law.proofs.MenuStarts.{any_from, any_only}
use Rattle.cantus_space.specs.declared.plan.CantusPlan.{CantusPlan}
use Rattle.cantus_space.specs.Cantus.{may_sound}
use Rattle.cantus_space.specs.Numbers.{WIDTH, numbered_pitch}
use Rattle.cantus_space.specs.Rules.{can_start}

module _ (plan : CantusPlan) (bar : ℕ) where
  pub some_starts : (k : ℕ) → k < 73 → may_sound plan bar (numbered_pitch plan k) ≡ true → can_start plan bar ≡ true
  some_starts k h e =
      any_from (λ k. may_sound plan bar (numbered_pitch plan k)) (range_with_len 0 WIDTH) k
      (k, omega (arith, length-range_with_len 0 WIDTH, h), get_or-range_with_len 0 WIDTH k k h ∙ omega arith) e

  pub none_starts : ((k : ℕ) → k < 73 → may_sound plan bar (numbered_pitch plan k) ≡ false) → can_start plan bar ≡ false
  none_starts none =
      false_from_ne_true (can_start plan bar) (λ h.
      let found = any_only (λ k. may_sound plan bar (numbered_pitch plan k)) (range_with_len 0 WIDTH) h in
      let place = found.1.0 in
      let there : place < 73 = omega (arith, found.1.1, length-range_with_len 0 WIDTH) in
      let same : found.0 ≡ place = sym found.1.2 ∙ get_or-range_with_len 0 WIDTH place found.0 there ∙ omega arith in
      let clash : false ≡ true = sym (ap (λ k. may_sound plan bar (numbered_pitch plan k)) same ∙ none place there) ∙ found.2 in
      cc)

-- a table of nothing
pub nothing_kept : (n : ℕ) → slice_index (replicate 25 0) n ≡ 0
nothing_kept n =
    elim (cases_lt n 25) [
      | inl within ↦ get_or-replicate 25 n 0 0 within
      | inr beyond ↦ get_or_past (replicate 25 0) n 0 (omega (arith, beyond, length-replicate {A = ℕ} 25 0))
    ]
