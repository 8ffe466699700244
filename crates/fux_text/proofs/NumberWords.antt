-- The digits of a number are read as that number (`number-own`).
use Rattle.std.proofs.Common.{◌≡◌, ℕ, zero, suc, ◌+◌, ◌*◌, ◌/◌, ◌%◌, ◌<◌, ◌≤◌, Bool, true, false, List, [], ◌∷◌, ◌++◌, get_or, length, Some, None, refl, sym, ap, subst, ◌∙◌, arith}
use Rattle.std.specs.Prelude.{◌-◌, ◌^◌, ◌==◌, ◌&&◌, not, nat_le, if◌then◌else◌}
use Rattle.std.specs.Fmt.{decimal}
use Rattle.std.specs.Option.{option_and_then}
use Rattle.std.proofs.lemmas.Bool.{le-leb, and_from}
use Rattle.std.proofs.lemmas.Fmt.{decimal_by_steps, decimal_digit, first_decimal}
use Rattle.text_lines.specs.Numbers.{digits_after, if_within, is_digit, number_of, number_within}

digit_is : (d : ℕ) → d < 10 → is_digit (48 + d) ≡ true
digit_is d h =
    and_from (nat_le 48 (48 + d)) (nat_le (48 + d) 57) (le-leb 48 (48 + d) (omega arith))
    (le-leb (48 + d) 57 (omega (arith, h)))

-- one digit more
more-digits : (m : ℕ) (ds : List ℕ) (k d : ℕ) → digits_after m ds ≡ Some k → k ≤ 999999 → d < 10
    → digits_after m (ds ++ (48 + d) ∷ []) ≡ Some (10 * k + d)
more-digits m [] k d e few h =
    let same : m ≡ k = grind (arith, e) in
    let step : digits_after m ((48 + d) ∷ []) ≡ Some (10 * m + d) =
    rw (digit_is d h, le-leb m 999999 (omega (arith, same, few))) (ap Some (omega arith)) in
    step ∙ ap (λ n. Some (10 * n + d)) same
more-digits m (b ∷ bs) k d e few h =
    by (is_digit b && nat_le m 999999) (λ f. more-digits (10 * m + (b - 48)) bs k d f few h) e
  where
    by : (t : Bool) → (digits_after (10 * m + (b - 48)) bs ≡ Some k
        → digits_after (10 * m + (b - 48)) (bs ++ (48 + d) ∷ []) ≡ Some (10 * k + d))
        → (if t then digits_after (10 * m + (b - 48)) bs else None) ≡ Some k
        → (if t then digits_after (10 * m + (b - 48)) (bs ++ (48 + d) ∷ []) else None) ≡ Some (10 * k + d)
    by true rest e = rest e
    by false rest e = absurd (grind (arith, e))

digits-own : (n : ℕ) → n < 2 ^ 64 → n ≤ 9999999 → digits_after 0 (decimal n) ≡ Some n
digits-own =
    decimal_by_steps (λ m ds. m ≤ 9999999 → digits_after 0 ds ≡ Some m)
    (λ m h few. more-digits 0 [] 0 m refl (omega arith) h ∙ ap Some (omega arith))
    (λ m ds h so_far few. more-digits 0 ds (m / 10) (m % 10) (so_far (omega arith)) (omega arith) (omega arith)
    ∙ ap Some (omega arith))

first-not_zero : (n : ℕ) (ds : List ℕ) → digits_after 0 ds ≡ Some n → 48 < get_or ds 0 0 → number_of ds ≡ Some n
unfolding number_of
first-not_zero n [] e first = absurd (omega (arith, first))
first-not_zero n (b ∷ bs) e first = by (b == 48) refl
  where
    by : (t : Bool) → (b == 48) ≡ t → (if t && not (length bs == 0) then None else digits_after 0 (b ∷ bs)) ≡ Some n
    by true f = absurd (grind (arith, f, first))
    by false f = e

zero-own : number_of (48 ∷ []) ≡ Some 0
unfolding number_of
zero-own = refl

pub number-own : (n : ℕ) → n ≤ 9999999 → number_of (decimal n) ≡ Some n
number-own zero h = subst (λ ds. number_of ds ≡ Some 0) (sym (decimal_digit 0 (omega arith))) zero-own
number-own (suc n) h =
    first-not_zero (suc n) (decimal (suc n)) (digits-own (suc n) (omega arith) h)
    (first_decimal (suc n) (omega arith) (omega arith))

pub if_within-own : (least most n : ℕ) → least ≤ n → n ≤ most → if_within least most n ≡ Some n
if_within-own least most n low high = rw (le-leb least n low, le-leb n most high) refl

-- and where it lies within bounds, so does what is read
pub within-own : (least most n : ℕ) → n ≤ 9999999 → least ≤ n → n ≤ most → number_within least most (decimal n) ≡ Some n
within-own least most n few low high =
    ap (option_and_then (if_within least most)) (number-own n few) ∙ if_within-own least most n low high
