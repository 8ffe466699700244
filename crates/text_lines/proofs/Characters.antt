-- The bytes of a character of several bytes (`two`, `three`, `four`), and that some character
-- begins with bytes in the ranges of one (`first_begins`, `second_begins`, `third_begins`).
use Rattle.std.proofs.Common.{◌≡◌, ℕ, ◌+◌, ◌-◌, ◌*◌, ◌/◌, ◌%◌, ◌<◌, ◌≤◌, ◌⊎◌, inl, inr, true, List, [], ◌∷◌, refl, ◌∙◌, subst, arith}
use Rattle.std.specs.Prelude.{nat_le}
use Rattle.std.specs.Int.{is_in_range}
use Rattle.std.specs.Str.{IsUtf8}
use Rattle.std.specs.Str.Lossy.{second_byte_max, second_byte_min}
use Rattle.std.proofs.Math.Utf8.{encode, scalar, low_scalar}
use Rattle.std.proofs.lemmas.Bool.{and_parts, cases_eq, cases_lt, le-leb, le-ltb, leb-true, lt-ltb}
use Rattle.std.proofs.lemmas.Str.{IsUtf8-encode}
use Rattle.text_lines.specs.Fronts.{Begins}

pub in_range : (lo hi b : ℕ) → is_in_range lo hi b ≡ true → (lo ≤ b) × (b ≤ hi)
in_range lo hi b e =
    let parts = and_parts (nat_le lo b) (nat_le b hi) e in
    (leb-true lo b parts.0, leb-true b hi parts.1)

pub to_range : (lo hi b : ℕ) → lo ≤ b → b ≤ hi → is_in_range lo hi b ≡ true
to_range lo hi b low high = rw (le-leb lo b low, le-leb b hi high) refl

-- a second byte behind a first one
pub record IsSecond (x y : ℕ) : Type 0 where
  pub low : 128 ≤ y
  pub high : y ≤ 191
  pub least_three : x ≡ 224 → 160 ≤ y
  pub no_surrogate : x ≡ 237 → y ≤ 159
  pub least_four : x ≡ 240 → 144 ≤ y
  pub most_four : x ≡ 244 → y ≤ 143

pub second_from : (x y : ℕ) → second_byte_min x ≤ y → y ≤ second_byte_max x → IsSecond x y
second_from x y low high = record {
  low = grind (arith, low);
  high = grind (arith, high);
  least_three = λ e. grind (arith, low, e);
  no_surrogate = λ e. grind (arith, high, e);
  least_four = λ e. grind (arith, low, e);
  most_four = λ e. grind (arith, high, e);
}

pub second_least : (x y : ℕ) → IsSecond x y → second_byte_min x ≤ y
second_least x y second = grind (arith, second.low, second.least_three, second.least_four)

pub second_most : (x y : ℕ) → IsSecond x y → y ≤ second_byte_max x
second_most x y second = grind (arith, second.high, second.no_surrogate, second.most_four)

pub one : (c : ℕ) → c < 128 → encode c ≡ c ∷ []
unfolding encode
one c high = rw (lt-ltb c 128 high) refl

pub two : (c : ℕ) → 128 ≤ c → c < 2048 → encode c ≡ (192 + c / 64) ∷ (128 + c % 64) ∷ []
unfolding encode
two c low high = rw (le-ltb c 128 low, lt-ltb c 2048 high) refl

pub three : (c : ℕ) → 2048 ≤ c → c < 65536
    → encode c ≡ (224 + c / 4096) ∷ (128 + c / 64 % 64) ∷ (128 + c % 64) ∷ []
unfolding encode
three c low high = rw (le-ltb c 128 (omega arith), le-ltb c 2048 low, lt-ltb c 65536 high) refl

pub four : (c : ℕ) → 65536 ≤ c
    → encode c ≡ (240 + c / 262144) ∷ (128 + c / 4096 % 64) ∷ (128 + c / 64 % 64) ∷ (128 + c % 64) ∷ []
unfolding encode
four c low = rw (le-ltb c 128 (omega arith), le-ltb c 2048 (omega arith), le-ltb c 65536 low) refl

char_text : (c : ℕ) (bytes : List ℕ) → scalar c ≡ true → encode c ≡ bytes → IsUtf8 bytes
char_text c bytes is e = subst IsUtf8 e (IsUtf8-encode c is)

pub two_text : (x y : ℕ) → 194 ≤ x → x < 224 → 128 ≤ y → y ≤ 191 → IsUtf8 (x ∷ y ∷ [])
two_text x y low high least most =
    let c : ℕ = (x - 192) * 64 + (y - 128) in
    let a : 192 + c / 64 ≡ x = omega arith in
    let b : 128 + c % 64 ≡ y = omega arith in
    char_text c (x ∷ y ∷ []) (low_scalar c (omega arith)) (two c (omega arith) (omega arith) ∙ rw (a, b) refl)

high_scalar : (c : ℕ) → 57344 ≤ c → c < 1114112 → scalar c ≡ true
high_scalar c low high = rw (le-ltb c 55296 (omega arith), le-leb 57344 c low, lt-ltb c 1114112 high) refl

three_text : (x y z : ℕ) → 224 ≤ x → x < 240 → IsSecond x y → 128 ≤ z → z ≤ 191 → IsUtf8 (x ∷ y ∷ z ∷ [])
three_text x y z low high second least most =
    let first : 128 ≤ y = second.low in
    let last : y ≤ 191 = second.high in
    let c : ℕ = (x - 224) * 4096 + (y - 128) * 64 + (z - 128) in
    let a : 224 + c / 4096 ≡ x = omega arith in
    let b : 128 + c / 64 % 64 ≡ y = omega arith in
    let d : 128 + c % 64 ≡ z = omega arith in
    char_text c (x ∷ y ∷ z ∷ []) (is (cases_eq x 237) (cases_lt x 237))
    (three c (long (cases_eq x 224)) (omega arith) ∙ rw (a, b, d) refl)
  where
    c : ℕ
    c = (x - 224) * 4096 + (y - 128) * 64 + (z - 128)

    long : (x ≡ 224) ⊎ (x ≡ 224 → ⊥) → 2048 ≤ c
    long (inl same) = omega (arith, second.least_three same)
    long (inr other) =
        let more : 225 ≤ x = omega (arith, other, low) in omega (arith, second.low)

    is : (x ≡ 237) ⊎ (x ≡ 237 → ⊥) → (x < 237) ⊎ (237 ≤ x) → scalar c ≡ true
    is (inl same) other = low_scalar c (omega (arith, same, second.low, second.no_surrogate same, most))
    is (inr other) (inl less) = low_scalar c (omega (arith, less, second.low, second.high, most))
    is (inr other) (inr past) =
        let more : 238 ≤ x = omega (arith, other, past) in
        high_scalar c (omega (arith, more)) (omega (arith, high, second.low, second.high, most))

four_text : (x y z w : ℕ) → 240 ≤ x → x ≤ 244 → IsSecond x y → 128 ≤ z → z ≤ 191 → 128 ≤ w → w ≤ 191
    → IsUtf8 (x ∷ y ∷ z ∷ w ∷ [])
four_text x y z w low high second least most lowest highest =
    let first : 128 ≤ y = second.low in
    let last : y ≤ 191 = second.high in
    let c : ℕ = (x - 240) * 262144 + (y - 128) * 4096 + (z - 128) * 64 + (w - 128) in
    let a : 240 + c / 262144 ≡ x = omega arith in
    let b : 128 + c / 4096 % 64 ≡ y = omega arith in
    let d : 128 + c / 64 % 64 ≡ z = omega arith in
    let e : 128 + c % 64 ≡ w = omega arith in
    char_text c (x ∷ y ∷ z ∷ w ∷ []) (high_scalar c (omega (arith, long (cases_eq x 240))) (short (cases_eq x 244)))
    (four c (long (cases_eq x 240)) ∙ rw (a, b, d, e) refl)
  where
    c : ℕ
    c = (x - 240) * 262144 + (y - 128) * 4096 + (z - 128) * 64 + (w - 128)

    long : (x ≡ 240) ⊎ (x ≡ 240 → ⊥) → 65536 ≤ c
    long (inl same) = omega (arith, second.least_four same)
    long (inr other) = let more : 241 ≤ x = omega (arith, other, low) in omega (arith, more)

    short : (x ≡ 244) ⊎ (x ≡ 244 → ⊥) → c < 1114112
    short (inl same) = omega (arith, same, second.low, second.most_four same, most, highest)
    short (inr other) =
        let less : x ≤ 243 = omega (arith, other, high) in omega (arith, less, second.low, second.high, most, highest)

-- ---- texts that begin so

pub third_begins : (x y z : ℕ) → 224 ≤ x → x ≤ 244 → IsSecond x y → 128 ≤ z → z ≤ 191 → Begins IsUtf8 (x ∷ y ∷ z ∷ [])
third_begins x y z low high second least most = at (cases_lt x 240)
  where
    at : (x < 240) ⊎ (240 ≤ x) → Begins IsUtf8 (x ∷ y ∷ z ∷ [])
    at (inl less) = ([], three_text x y z low less second least most)
    at (inr more) = (128 ∷ [], four_text x y z 128 more high second least most (omega arith) (omega arith))

pub second_begins : (x y : ℕ) → 194 ≤ x → x ≤ 244 → IsSecond x y → Begins IsUtf8 (x ∷ y ∷ [])
second_begins x y low high second = at (cases_lt x 224)
  where
    at : (x < 224) ⊎ (224 ≤ x) → Begins IsUtf8 (x ∷ y ∷ [])
    at (inl less) = ([], two_text x y low less second.low second.high)
    at (inr more) = let found = third_begins x y 128 more high second (omega arith) (omega arith) in (128 ∷ found.0, found.1)

pub first_begins : (x : ℕ) → 194 ≤ x → x ≤ 244 → Begins IsUtf8 (x ∷ [])
first_begins x low high =
    let y = second_byte_min x in
    let found = second_begins x y low high (second_from x y (omega arith) (grind arith)) in
    (y ∷ found.0, found.1)
