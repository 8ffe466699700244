-- A free voice more (`one_voice_more`), and an array of nothing (`nothing_charged`).
use Rattle.std.specs.Prelude.{◌≡◌, ℕ, replicate, slice_index}
use Rattle.std.proofs.Common.{arith, inl, inr}
use Rattle.std.proofs.lemmas.Bool.{cases_lt}
use Rattle.std.proofs.lemmas.List.{get_or-replicate, get_or_past, length-replicate}

pub nothing_charged : (n k : ℕ) → slice_index (replicate n 0) k ≡ 0
nothing_charged n k =
    elim (cases_lt k n) [
      | inl within ↦ get_or-replicate n k 0 0 within
      | inr beyond ↦ get_or_past (replicate n 0) k 0 (omega (arith, beyond, length-replicate {A = ℕ} n 0))
    ]
