-- Numbers: `0`, or up to seven digits of which the first isn't 0.
use Rattle.std.specs.Prelude.{ℕ, ◌+◌, ◌-◌, ◌*◌, ◌==◌, ◌&&◌, not, Bool, List, [], ◌∷◌, Option, Some, None, length, nat_le, if◌then◌else◌}
use Rattle.std.specs.Option.{option_and_then}

abbrev pub is_digit : ℕ → Bool
is_digit b = nat_le 48 b && nat_le b 57

-- the number whose digits stand behind those of another one; the seventh digit is the last
abbrev pub digits_after : ℕ → List ℕ → Option ℕ
digits_after n [] = Some n
digits_after n (b ∷ bs) =
    if is_digit b && nat_le n 999999 then digits_after (10 * n + (b - 48)) bs else None

-- the number that a word writes, if it writes one
unfoldable pub number_of : List ℕ → Option ℕ
number_of [] = None
number_of (b ∷ bs) = if (b == 48) && not (length bs == 0) then None else digits_after 0 (b ∷ bs)

-- the number, where it lies within two bounds
abbrev pub if_within : ℕ → ℕ → ℕ → Option ℕ
if_within least most n = if nat_le least n && nat_le n most then Some n else None

abbrev pub number_within : ℕ → ℕ → List ℕ → Option ℕ
number_within least most text = option_and_then (if_within least most) (number_of text)
