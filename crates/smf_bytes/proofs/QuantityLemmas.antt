-- One byte more of a quantity (`digits_last`, `digits_more`, `digits_short`), and the end of it
-- (`digits_over`).
use Rattle.std.proofs.Common.{◌≡◌, ℕ, suc, ◌+◌, ◌-◌, ◌*◌, ◌<◌, ◌≤◌, List, [], ◌∷◌, Ok, Err, refl, subst, arith}
use Rattle.std.proofs.lemmas.Bool.{le-ltb, lt-ltb}
use Rattle.smf_bytes.specs.declared.fault.ByteFault.{ByteFault}
use Rattle.smf_bytes.specs.declared.fault.ByteFault.TheVariants.{LongNumber}
use Rattle.smf_bytes.specs.Numbers.{digits_in, byte_in}
use Rattle.smf_bytes.specs.Rows.{IsByte, LacksBytes}
use Rattle.smf_bytes.proofs.PartLemmas.{PartTold, byte_tells}

-- the first byte stands in front of the others
first_is : (end : ℕ) (bytes : List ℕ) (b : ℕ) (rest : List ℕ) → byte_in end bytes ≡ Ok (b, rest) → IsByte bytes b rest
first_is end bytes b rest e = subst (PartTold (IsByte bytes) (LacksBytes 1 end bytes)) e (byte_tells end bytes).told

-- a byte below 128 is the last
pub digits_last : (n begin high end : ℕ) (bytes : List ℕ) (b : ℕ) (rest : List ℕ) → n < 4
    → byte_in end bytes ≡ Ok (b, rest) → b < 128
    → digits_in (4 - n) begin high end bytes ≡ Ok (128 * high + b, rest)
unfolding digits_in
digits_last n begin high end bytes b rest few e last =
    let k : 4 - n ≡ suc (4 - (n + 1)) = omega arith in
    rw (k, first_is end bytes b rest e, lt-ltb b 128 last) refl

-- another follows one from 128 on
pub digits_more : (n begin high end : ℕ) (bytes : List ℕ) (b : ℕ) (rest : List ℕ) → n < 4
    → byte_in end bytes ≡ Ok (b, rest) → 128 ≤ b
    → digits_in (4 - n) begin high end bytes ≡ digits_in (4 - (n + 1)) begin (128 * high + (b - 128)) end rest
unfolding digits_in
digits_more n begin high end bytes b rest few e more =
    let k : 4 - n ≡ suc (4 - (n + 1)) = omega arith in
    rw (k, first_is end bytes b rest e, le-ltb b 128 more) refl

-- no byte is there
pub digits_short : (n begin high end : ℕ) (bytes : List ℕ) (f : ByteFault) → n < 4 → byte_in end bytes ≡ Err f
    → digits_in (4 - n) begin high end bytes ≡ Err f
unfolding digits_in
digits_short n begin high end [] f few e =
    let k : 4 - n ≡ suc (4 - (n + 1)) = omega arith in
    rw k e
digits_short n begin high end (c ∷ cs) f few e = absurd cc

-- four bytes were not enough
pub digits_over : (n begin high end : ℕ) (bytes : List ℕ) → 4 ≤ n → digits_in (4 - n) begin high end bytes
    ≡ Err (LongNumber begin)
unfolding digits_in
digits_over n begin high end bytes many =
    let k : 4 - n ≡ 0 = omega arith in
    rw k refl

-- what a byte does to a quantity
pub ruleset digit_steps = (digits_last, digits_more, digits_short, digits_over)
