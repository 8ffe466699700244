-- A rule added to a set, and the union of two sets.
use Rattle.std.proofs.Common.{◌≡◌, ℕ, ◌*◌, ◌%◌, ◌^◌, ◌<◌, ◌≤◌, max, ◌==◌, ◌||◌, Bool, true, false, bit_or, refl, ap, sym, ◌∙◌, subst, w32, arith}
use Rattle.std.proofs.Math.Bool.{or-false, or-true}
use Rattle.std.proofs.lemmas.Bool.{eqb-true, eq-eqb}
use Rattle.std.proofs.lemmas.Nat.Bits.{bit_at_set_same, bit_at_set_other, bit_at_above, bit_at_or, bit_at-lt}
use Rattle.std.proofs.lemmas.Bool.Decides.{nat_tests}
use Rattle.std.specs.Int.{bit_at}
use Rattle.rule_law.specs.Voices.{has_rule}

by_test : (b : Bool) (P : Bool → Type 0) → (b ≡ true → P true) → ((b ≡ true → ⊥) → P false) → P b
by_test true P f g = f refl
by_test false P f g = g (λ e. cc)

pub with_rule : (bits rule r : ℕ) → rule < 32 → has_rule (bit_or bits (1 * 2 ^ rule % 4294967296)) r
    ≡ (has_rule bits r || (r == rule))
with_rule bits rule r h =
    by_test (r == rule) (λ b. has_rule (bit_or bits (1 * 2 ^ rule % 4294967296)) r ≡ (has_rule bits r || b))
    (λ e. let same : r ≡ rule = eqb-true r rule e in
    let P : ℕ → Type 0 = λ k. has_rule (bit_or bits (1 * 2 ^ rule % 4294967296)) k ≡ true in
    subst P (sym same) (ap (λ n. n == 1) (bit_at_set_same w32 bits rule h)) ∙ sym (or-true (has_rule bits r)))
    (λ n. ap (λ k. k == 1) (bit_at_set_other w32 bits rule h r (λ e. n (eq-eqb r rule e)))
    ∙ sym (or-false (has_rule bits r)))

-- a number of 32 bits has no rule from 32 on
pub no_rule_above : (bits rule : ℕ) → bits < 2 ^ 32 → 32 ≤ rule → has_rule bits rule ≡ false
no_rule_above bits rule h k = ap (λ n. n == 1) (bit_at_above bits 32 rule h k)

either_has : (x y : ℕ) → x < 2 → y < 2 → (max x y == 1) ≡ ((x == 1) || (y == 1))
either_has x y h k = grind (arith, nat_tests)

-- the union of two sets has the rules of both
pub union_has : (a b rule : ℕ) → has_rule (bit_or a b) rule ≡ (has_rule a rule || has_rule b rule)
union_has a b rule = ap (λ n. n == 1) (bit_at_or a b rule)
    ∙ either_has (bit_at a rule) (bit_at b rule) (bit_at-lt a rule) (bit_at-lt b rule)
