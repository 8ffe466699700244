-- Numbers that are read lie within their bounds.
use Rattle.std.proofs.Common.{◌≡◌, ◌≢◌, ℕ, zero, suc, ◌-◌, ◌^◌, ◌<◌, ◌≤◌, Bool, true, false, List, Option, Some, None, refl, arith}
use Rattle.std.specs.Prelude.{◌==◌, ◌&&◌, nat_le, if◌then◌else◌}
use Rattle.std.specs.Option.{option_and_then}
use Rattle.std.proofs.lemmas.Bool.{leb-true}
use Rattle.fux_text.specs.declared.fault.TextKind.{TextKind}
use Rattle.text_lines.specs.Numbers.{if_within, number_of, number_within}
use Rattle.text_lines.specs.Rows.{Stands, number_place}
use Rattle.text_lines.specs.Words.{LineWords}
use Rattle.text_lines.proofs.Binds.{ok_or_ok}
use Rattle.fux_text.specs.Head.{other_voice, unless}

-- a number lies within bounds
pub record IsWithin (least most n : ℕ) : Type 0 where
  pub above : least ≤ n
  pub below : n ≤ most

if_within-bounds : (least most m n : ℕ) → if_within least most m ≡ Some n → IsWithin least most n
if_within-bounds least most m n e = by (nat_le least m) refl (nat_le m most) refl e
  where
    by : (a : Bool) → nat_le least m ≡ a → (b : Bool) → nat_le m most ≡ b → (if a && b then Some m else None) ≡ Some n
        → IsWithin least most n
    by true d true f e =
        let same : m ≡ n = grind (arith, e) in
        record { above = omega (arith, same, leb-true least m d); below = omega (arith, same, leb-true m most f) }
    by true d false f e = absurd (grind (arith, e))
    by false d b f e = absurd (grind (arith, e))

pub within-bounds : (least most : ℕ) (o : Option ℕ) (n : ℕ) → option_and_then (if_within least most) o ≡ Some n
    → IsWithin least most n
within-bounds least most None n e = absurd (grind (arith, e))
within-bounds least most (Some m) n e = if_within-bounds least most m n e

pub number-bounds : (kind : TextKind) (least most n : ℕ) (at rest : LineWords)
    → Stands (number_place kind least most) n at rest → IsWithin least most n
number-bounds kind least most n at rest s =
    within-bounds least most (number_of s.word.text) n (ok_or_ok (number_within least most s.word.text) kind n s.right)

-- another voice than this one
pub record IsOther (other voices v : ℕ) : Type 0 where
  pub within : v ≤ voices - 1
  pub differs : v ≢ other

other-voice : (other voices : ℕ) (o : Option ℕ) (v : ℕ) → option_and_then (unless other) o ≡ Some v
    → ((n : ℕ) → o ≡ Some n → n ≤ voices - 1) → IsOther other voices v
other-voice other voices None v e most = absurd (grind (arith, e))
other-voice other voices (Some n) v e most = by (n == other) refl e
  where
    by : (b : Bool) → (n == other) ≡ b → (if b then None else Some n) ≡ Some v → IsOther other voices v
    by true d e = absurd (grind (arith, e))
    by false d e =
        let same : n ≡ v = grind (arith, e) in
        record { within = omega (arith, same, most n refl); differs = λ vo. grind (arith, d, same, vo) }

pub other-bounds : (other voices : ℕ) (text : List ℕ) (v : ℕ) → other_voice other voices text ≡ Some v
    → IsOther other voices v
other-bounds other voices text v e =
    other-voice other voices (number_within 0 (voices - 1) text) v e
    (λ n e. (within-bounds 0 (voices - 1) (number_of text) n e).below)

-- the bits of a set of so few voices
pub few-bits : (voices bits : ℕ) → voices ≤ 4 → bits < 2 ^ voices → bits ≤ 15
few-bits zero bits few lt = omega (arith, lt)
few-bits (suc zero) bits few lt = omega (arith, lt)
few-bits (suc (suc zero)) bits few lt = omega (arith, lt)
few-bits (suc (suc (suc zero))) bits few lt = omega (arith, lt)
few-bits (suc (suc (suc (suc zero)))) bits few lt = omega (arith, lt)
few-bits (suc (suc (suc (suc (suc n))))) bits few lt = absurd (omega (arith, few))
