-- What the library tells of bytes that are no UTF-8 is the longest front by which UTF-8 goes on
-- (`longest_front`); there is one such front (`one_front`).
use Rattle.std.proofs.Common.{◌≡◌, ℕ, zero, suc, ◌+◌, ◌-◌, ◌/◌, ◌%◌, ◌<◌, ◌≤◌, ◌⊎◌, inl, inr, Bool, true, false, List, [], ◌∷◌, ◌++◌, length, take, drop, get_or, Option, Some, None, refl, sym, ap, ◌∙◌, subst, arith, append_assoc, ne_eqb}
use Rattle.std.specs.Prelude.{nat_lt, if◌then◌else◌, slice_index}
use Rattle.std.specs.Int.{is_in_range}
use Rattle.std.specs.Str.{IsUtf8, is_utf8}
use Rattle.std.specs.Str.Lossy.{utf8_error_len, utf8_valid_len, error_len_after_one, error_len_after_two, error_len_of_some, second_byte_max, second_byte_min, valid_len_up_to}
use Rattle.std.proofs.Math.ListN.{get_or-append}
use Rattle.std.proofs.Math.Seq.{drop-append_seam, take-add, take-append_seam, take-length}
use Rattle.std.proofs.Math.Utf8.{encode, encodes, scalar, scalars, scalar_cases}
use Rattle.std.proofs.lemmas.Bool.{and_parts, cases_lt, ltb-false, ltb-true}
use Rattle.std.proofs.lemmas.List.{get_or-take, length-append, length-drop, length-take-le, take-append-le, take-take}
use Rattle.std.proofs.lemmas.Str.{IsCharBoundary-from_take, IsUtf8-append, IsUtf8-drop, IsUtf8-encode, IsUtf8-from_is_utf8, IsUtf8-nil, is_utf8-from_IsUtf8, len_utf8_bounds, length-encode, utf8_valid_len_le}
use Rattle.text_lines.specs.Fronts.{Begins, LongestFront}
use Rattle.text_lines.specs.Utf8.{begun, begun_text}
use Rattle.text_lines.proofs.Characters.{IsSecond, first_begins, four, in_range, one, second_begins, second_from, second_least, second_most, third_begins, three, to_range, two, two_text}

pub one_front : (IsText : List ℕ → Type 0) (bytes : List ℕ) (a b : ℕ) → LongestFront IsText bytes a
    → LongestFront IsText bytes b → a ≡ b
one_front IsText bytes a b first second =
    let up = second.longest a first.within first.begins in
    let down = first.longest b second.within second.begins in
    omega (arith, up, down)

-- ---- where bytes stop that begin with no character

abbrev is_first : List ℕ → Bool
is_first rest = is_in_range 0xC2 0xF4 (slice_index rest 0)

abbrev is_second : List ℕ → Bool
is_second rest =
    is_in_range (second_byte_min (slice_index rest 0)) (second_byte_max (slice_index rest 0)) (slice_index rest 1)

abbrev is_third : List ℕ → Bool
is_third rest = is_in_range 0x80 0xBF (slice_index rest 2)

-- so many bytes may begin a character of several bytes, and no more
data Stops (rest : List ℕ) (k : ℕ) : Type 0 where
  at_first : k ≡ 0 → is_first rest ≡ false → Stops rest k
  at_second : k ≡ 1 → is_first rest ≡ true → 1 ≤ length rest → (2 ≤ length rest → is_second rest ≡ false) → Stops rest k
  at_third : k ≡ 2 → is_first rest ≡ true → 2 ≤ length rest → is_second rest ≡ true
      → (3 ≤ length rest → is_third rest ≡ false) → Stops rest k
  behind : k ≡ 3 → is_first rest ≡ true → 3 ≤ length rest → is_second rest ≡ true → is_third rest ≡ true → Stops rest k

-- a count of bytes at fault, where the first byte is one of a character
counted : (rest : List ℕ) (n : ℕ) → is_first rest ≡ true → begun rest (Some n) ≡ n
counted rest n first = rw first refl

after_two : (rest : List ℕ) → is_first rest ≡ true → 2 ≤ length rest → is_second rest ≡ true
    → Stops rest (begun rest (error_len_after_two rest))
after_two rest first some second =
    at (nat_lt (length rest) 3) refl (is_third rest) refl (nat_lt (length rest) 4) refl
  where
    at : (a : Bool) → nat_lt (length rest) 3 ≡ a → (b : Bool) → is_third rest ≡ b → (d : Bool) → nat_lt (length rest) 4 ≡ d
        → Stops rest (begun rest (if a then None else (if b then (if d then None else Some 3) else Some 2)))
    at true e b f d g =
        let few = ltb-true (length rest) 3 e in
        Stops.at_third (omega (arith, few, some)) first some second (λ more. absurd (omega (arith, few, more)))
    at false e true f true g =
        let many = ltb-false (length rest) 3 e in
        Stops.behind (omega (arith, many, ltb-true (length rest) 4 g)) first many second f
    at false e true f false g = Stops.behind (counted rest 3 first) first (ltb-false (length rest) 3 e) second f
    at false e false f d g = Stops.at_third (counted rest 2 first) first some second (λ more. f)

after_one : (rest : List ℕ) → is_first rest ≡ true → 1 ≤ length rest → Stops rest (begun rest (error_len_after_one rest))
after_one rest first some = at (nat_lt (length rest) 2) refl (is_second rest) refl
  where
    at : (a : Bool) → nat_lt (length rest) 2 ≡ a → (b : Bool) → is_second rest ≡ b
        → Stops rest (begun rest (if a then None else (if b then error_len_after_two rest else Some 1)))
    at true e b f =
        let few = ltb-true (length rest) 2 e in
        Stops.at_second (omega (arith, few, some)) first some (λ more. absurd (omega (arith, few, more)))
    at false e true f = after_two rest first (ltb-false (length rest) 2 e) f
    at false e false f = Stops.at_second (counted rest 1 first) first some (λ more. f)

of_some : (rest : List ℕ) → 1 ≤ length rest → Stops rest (begun rest (error_len_of_some rest))
of_some rest some = at (is_first rest) refl
  where
    at : (b : Bool) → is_first rest ≡ b → Stops rest (begun rest (if b then error_len_after_one rest else Some 1))
    at true e = after_one rest e some
    at false e = Stops.at_first (rw e refl) e

stops : (rest : List ℕ) → 1 ≤ length rest → Stops rest (begun rest (utf8_error_len rest))
unfolding utf8_error_len
stops [] some = absurd (omega arith)
stops (b ∷ rest) some = rw (ne_eqb (length (b ∷ rest)) 0 (λ e. absurd (omega (arith, e)))) (of_some (b ∷ rest) some)

within : (rest : List ℕ) (k : ℕ) → Stops rest k → k ≤ length rest
within rest k (Stops.at_first e first) = omega (arith, e)
within rest k (Stops.at_second e first some second) = omega (arith, e, some)
within rest k (Stops.at_third e first some second third) = omega (arith, e, some)
within rest k (Stops.behind e first some second third) = omega (arith, e, some)

-- what may begin a character lies within the bytes
pub begun_bound : (rest : List ℕ) (o : Option ℕ) → o ≡ utf8_error_len rest → begun rest o ≤ length rest
unfolding utf8_error_len
begun_bound rest o e = subst (λ p. begun rest p ≤ length rest) (sym e) (at rest)
  where
    at : (bytes : List ℕ) → begun bytes (utf8_error_len bytes) ≤ length bytes
    at [] = omega arith
    at (b ∷ bytes) = within (b ∷ bytes) (begun (b ∷ bytes) (utf8_error_len (b ∷ bytes))) (stops (b ∷ bytes) (omega arith))

-- no front of the bytes is a text
abbrev NoFront : List ℕ → Type 0
NoFront rest = (m : ℕ) → 1 ≤ m → m ≤ length rest → IsUtf8 (take m rest) → ⊥

begins_at : (rest : List ℕ) (k : ℕ) → NoFront rest → Stops rest k → Begins IsUtf8 (take k rest)
begins_at rest k none (Stops.at_first e first) =
    subst (λ n. Begins IsUtf8 (take n rest)) (sym e) ([], IsUtf8-nil)
begins_at [] k none (Stops.at_second e first some second) = absurd (omega (arith, some))
begins_at (x ∷ rest) k none (Stops.at_second e first some second) =
    let b = in_range 0xC2 0xF4 x first in
    subst (λ n. Begins IsUtf8 (take n (x ∷ rest))) (sym e) (first_begins x b.0 b.1)
begins_at [] k none (Stops.at_third e first some second third) = absurd (omega (arith, some))
begins_at (x ∷ []) k none (Stops.at_third e first some second third) = absurd (omega (arith, some))
begins_at (x ∷ y ∷ rest) k none (Stops.at_third e first some second third) =
    let b = in_range 0xC2 0xF4 x first in
    let s = in_range (second_byte_min x) (second_byte_max x) y second in
    subst (λ n. Begins IsUtf8 (take n (x ∷ y ∷ rest))) (sym e) (second_begins x y b.0 b.1 (second_from x y s.0 s.1))
begins_at [] k none (Stops.behind e first some second third) = absurd (omega (arith, some))
begins_at (x ∷ []) k none (Stops.behind e first some second third) = absurd (omega (arith, some))
begins_at (x ∷ y ∷ []) k none (Stops.behind e first some second third) = absurd (omega (arith, some))
begins_at (x ∷ y ∷ z ∷ rest) k none (Stops.behind e first some second third) =
    subst (λ n. Begins IsUtf8 (take n (x ∷ y ∷ z ∷ rest))) (sym e) (at (cases_lt x 224))
  where
    is : IsSecond x y
    is = let s = in_range (second_byte_min x) (second_byte_max x) y second in second_from x y s.0 s.1

    at : (x < 224) ⊎ (224 ≤ x) → Begins IsUtf8 (x ∷ y ∷ z ∷ [])
    at (inl less) =
        absurd (none 2 (omega arith) (omega arith) (two_text x y (in_range 0xC2 0xF4 x first).0 less is.low is.high))
    at (inr more) =
        let t = in_range 0x80 0xBF z third in
        third_begins x y z more (in_range 0xC2 0xF4 x first).1 is t.0 t.1

-- ---- the bytes by which a text goes on

-- so many bytes at the front may begin a character of several bytes
record MayBegin (rest : List ℕ) (j : ℕ) : Type 0 where
  pub few : j ≤ 3
  pub first : 1 ≤ j → is_first rest ≡ true
  pub second : 2 ≤ j → is_second rest ≡ true
  pub third : 3 ≤ j → is_third rest ≡ true

at_most : (rest : List ℕ) (k j : ℕ) → Stops rest k → MayBegin rest j → j ≤ length rest → j ≤ k
at_most rest k j (Stops.at_first e first) may long = at (cases_lt j 1)
  where
    at : (j < 1) ⊎ (1 ≤ j) → j ≤ k
    at (inl less) = omega (arith, less, e)
    at (inr more) = let other = may.first more in absurd cc
at_most rest k j (Stops.at_second e first some second) may long = at (cases_lt j 2)
  where
    at : (j < 2) ⊎ (2 ≤ j) → j ≤ k
    at (inl less) = omega (arith, less, e)
    at (inr more) =
        let own = may.second more in
        let other = second (omega (arith, more, long)) in
        absurd cc
at_most rest k j (Stops.at_third e first some second third) may long = at (cases_lt j 3)
  where
    at : (j < 3) ⊎ (3 ≤ j) → j ≤ k
    at (inl less) = omega (arith, less, e)
    at (inr more) =
        let own = may.third more in
        let other = third (omega (arith, more, long)) in
        absurd cc
at_most rest k j (Stops.behind e first some second third) may long = omega (arith, may.few, e)

-- a first byte, a second and a third one
first_is : (rest : List ℕ) (x : ℕ) → get_or rest 0 0 ≡ x → 194 ≤ x → x ≤ 244 → is_first rest ≡ true
first_is rest x e low high = rw e (to_range 0xC2 0xF4 x low high)

second_is : (rest : List ℕ) (x y : ℕ) → get_or rest 0 0 ≡ x → get_or rest 1 0 ≡ y → IsSecond x y → is_second rest ≡ true
second_is rest x y e f is =
    rw (e, f) (to_range (second_byte_min x) (second_byte_max x) y (second_least x y is) (second_most x y is))

third_is : (rest : List ℕ) (z : ℕ) → get_or rest 2 0 ≡ z → 128 ≤ z → z ≤ 191 → is_third rest ≡ true
third_is rest z e low high = rw e (to_range 0x80 0xBF z low high)

-- a front that is shorter than a character with whose bytes it agrees
front_of : (c : ℕ) (rest : List ℕ) (j : ℕ) → scalar c ≡ true → j < length (encode c)
    → ((i : ℕ) → i < j → get_or rest i 0 ≡ get_or (encode c) i 0) → MayBegin rest j
front_of c rest j is short same = at (cases_lt c 128) (cases_lt c 2048) (cases_lt c 65536) (scalar_cases c is)
  where
    byte : (bytes : List ℕ) → encode c ≡ bytes → (i : ℕ) → i < j → get_or rest i 0 ≡ get_or bytes i 0
    byte bytes e i less = same i less ∙ ap (λ (b : List ℕ). get_or b i 0) e

    at : (c < 128) ⊎ (128 ≤ c) → (c < 2048) ⊎ (2048 ≤ c) → (c < 65536) ⊎ (65536 ≤ c)
        → (c < 55296) ⊎ ((57344 ≤ c) × (c < 1114112)) → MayBegin rest j
    at (inl low) b d s =
        let few : j < 1 = omega (arith, short, ap length (one c low)) in
        record {
          few = omega arith;
          first = λ h. absurd (omega arith);
          second = λ h. absurd (omega arith);
          third = λ h. absurd (omega arith);
        }
    at (inr past) (inl low) d s =
        let e = two c past low in
        let few : j < 2 = omega (arith, short, ap length e) in
        record {
          few = omega arith;
          first = λ h. first_is rest (192 + c / 64) (byte _ e 0 h) (omega arith) (omega arith);
          second = λ h. absurd (omega arith);
          third = λ h. absurd (omega arith);
        }
    at (inr past) (inr more) (inl low) s =
        let e = three c more low in
        let few : j < 3 = omega (arith, short, ap length e) in
        record {
          few = omega arith;
          first = λ h. first_is rest (224 + c / 4096) (byte _ e 0 (omega arith)) (omega arith) (omega arith);
          second = λ h. second_is rest (224 + c / 4096) (128 + c / 64 % 64) (byte _ e 0 (omega arith))
              (byte _ e 1 (omega arith)) (record {
                low = omega arith;
                high = omega arith;
                least_three = λ f. omega (arith, f, more);
                no_surrogate = λ f. surrogate s f;
                least_four = λ f. absurd (omega (arith, f, low));
                most_four = λ f. absurd (omega (arith, f, low));
              });
          third = λ h. absurd (omega arith);
        }
      where
        surrogate : (c < 55296) ⊎ ((57344 ≤ c) × (c < 1114112)) → 224 + c / 4096 ≡ 237 → 128 + c / 64 % 64 ≤ 159
        surrogate (inl under) f = omega (arith, under, f)
        surrogate (inr over) f = absurd (omega (arith, over.0, f))
    at (inr past) (inr more) (inr most) s =
        let e = four c most in
        let top : c < 1114112 = under s in
        let few : j < 4 = omega (arith, short, ap length e) in
        record {
          few = omega arith;
          first = λ h. first_is rest (240 + c / 262144) (byte _ e 0 (omega arith)) (omega arith) (omega arith);
          second = λ h. second_is rest (240 + c / 262144) (128 + c / 4096 % 64) (byte _ e 0 (omega arith))
              (byte _ e 1 (omega arith)) (record {
                low = omega arith;
                high = omega arith;
                least_three = λ f. absurd (omega (arith, f));
                no_surrogate = λ f. absurd (omega (arith, f));
                least_four = λ f. omega (arith, f, most);
                most_four = λ f. omega (arith, f, top);
              });
          third = λ h. third_is rest (128 + c / 64 % 64) (byte _ e 2 (omega arith)) (omega arith) (omega arith);
        }
      where
        under : (c < 55296) ⊎ ((57344 ≤ c) × (c < 1114112)) → c < 1114112
        under (inl low) = omega (arith, low)
        under (inr high) = high.1

-- so may a front by which a text goes on, where no front is a text
goes_on : (rest more : List ℕ) (j : ℕ) → NoFront rest → 1 ≤ j → j ≤ length rest → IsUtf8 (take j rest ++ more)
    → MayBegin rest j
goes_on rest more j none some long ([], (is, e)) =
    absurd (omega (arith, ap length e, length-append (take j rest) more, length-take-le j rest long, some))
goes_on rest more j none some long (c ∷ cs, (is, e)) = at (cases_lt j (length (encode c)))
  where
    own : scalar c ≡ true
    own = (and_parts (scalar c) (scalars cs) is).0

    size : 1 ≤ length (encode c)
    size = omega (arith, length-encode c, (len_utf8_bounds c).0)

    at : (j < length (encode c)) ⊎ (length (encode c) ≤ j) → MayBegin rest j
    at (inl short) =
        front_of c rest j own short (λ i less.
        sym (get_or-take j rest i 0 less)
        ∙ sym (get_or-append (take j rest) more 0 i (omega (arith, less, length-take-le j rest long)))
        ∙ ap (λ (b : List ℕ). get_or b i 0) (sym e)
        ∙ get_or-append (encode c) (encodes cs) 0 i (omega (arith, less, short)))
    at (inr fits) =
        let n = length (encode c) in
        absurd (none n size (omega (arith, fits, long)) (subst IsUtf8
        (sym (take-append_seam (encode c) (encodes cs)) ∙ ap (take n) e
        ∙ take-append-le n (take j rest) more (omega (arith, fits, length-take-le j rest long))
        ∙ take-take n j rest fits) (IsUtf8-encode c own)))

-- ---- the longest front

valid_front : (bytes : List ℕ) (n : ℕ) → IsUtf8 (take (valid_len_up_to bytes n) bytes)
valid_front bytes zero = IsUtf8-nil
valid_front bytes (suc n) = at (is_utf8 (take (suc n) bytes)) refl (valid_front bytes n)
  where
    at : (b : Bool) → is_utf8 (take (suc n) bytes) ≡ b → IsUtf8 (take (valid_len_up_to bytes n) bytes)
        → IsUtf8 (take (if b then suc n else valid_len_up_to bytes n) bytes)
    at true e before = IsUtf8-from_is_utf8 (take (suc n) bytes) e
    at false e before = before

valid_longest : (bytes : List ℕ) (n m : ℕ) → valid_len_up_to bytes n < m → m ≤ n → IsUtf8 (take m bytes) → ⊥
valid_longest bytes zero m more within text = absurd (omega (arith, more, within))
valid_longest bytes (suc n) m more within text =
    at (is_utf8 (take (suc n) bytes)) refl more (cases_lt m (suc n)) (λ later less. valid_longest bytes n m later less text)
  where
    at : (b : Bool) → is_utf8 (take (suc n) bytes) ≡ b → (if b then suc n else valid_len_up_to bytes n) < m
        → (m < suc n) ⊎ (suc n ≤ m) → (valid_len_up_to bytes n < m → m ≤ n → ⊥) → ⊥
    at true e past other none = omega (arith, past, within)
    at false e past (inl less) none = none past (omega (arith, less))
    at false e past (inr last) none =
        let same : m ≡ suc n = omega (arith, last, within) in
        let whole = is_utf8-from_IsUtf8 (take (suc n) bytes) (subst (λ k. IsUtf8 (take k bytes)) same text) in
        absurd cc

-- what stands behind a text within a text
behind_text : (front bytes : List ℕ) → IsUtf8 (front ++ bytes) → IsUtf8 front → IsUtf8 bytes
behind_text front bytes text first =
    subst IsUtf8 (drop-append_seam front bytes) (IsUtf8-drop (front ++ bytes) (length front) text
    (IsCharBoundary-from_take (front ++ bytes) (length front) text (omega (arith, length-append front bytes))
    (subst IsUtf8 (sym (take-append_seam front bytes)) first)))

pub longest_front : (bytes : List ℕ) → (IsUtf8 bytes → ⊥) → LongestFront IsUtf8 bytes (begun_text bytes)
unfolding begun_text utf8_valid_len
longest_front bytes no_text = record {
  within = omega (arith, within rest k stop, length-drop v bytes, few);
  begins = (
    found.0,
    subst IsUtf8 (sym (append_assoc front (take k rest) found.0)
        ∙ ap (λ (b : List ℕ). b ++ found.0) (sym (take-add v k bytes))) (IsUtf8-append front (take k rest ++ found.0) text
        found.1),
  );
  longest = λ n long begins. at n long begins (cases_lt v n);
}
  where
    v : ℕ
    v = valid_len_up_to bytes (length bytes)

    front : List ℕ
    front = take v bytes

    rest : List ℕ
    rest = drop v bytes

    k : ℕ
    k = begun rest (utf8_error_len rest)

    text : IsUtf8 front
    text = valid_front bytes (length bytes)

    few : v ≤ length bytes
    few = utf8_valid_len_le bytes

    more : v < length bytes
    more = at (cases_lt v (length bytes))
      where
        at : (v < length bytes) ⊎ (length bytes ≤ v) → v < length bytes
        at (inl less) = less
        at (inr past) =
            let same : v ≡ length bytes = omega (arith, past, few) in
            absurd (no_text (subst IsUtf8 (ap (λ n. take n bytes) same ∙ take-length bytes) text))

    stop : Stops rest k
    stop = stops rest (omega (arith, more, length-drop v bytes))

    none : NoFront rest
    none m some within own =
        valid_longest bytes (length bytes) (v + m) (omega (arith, some)) (omega (arith, within, length-drop v bytes, few))
        (subst IsUtf8 (sym (take-add v m bytes)) (IsUtf8-append front (take m rest) text own))

    found : Begins IsUtf8 (take k rest)
    found = begins_at rest k none stop

    at : (n : ℕ) → n ≤ length bytes → Begins IsUtf8 (take n bytes) → (v < n) ⊎ (n ≤ v) → n ≤ v + k
    at n long begins (inr low) = omega (arith, low)
    at n long (after, whole) (inl past) =
        let j : ℕ = n - v in
        let split : take n bytes ≡ front ++ take j rest =
        ap (λ i. take i bytes) (omega (arith, past)) ∙ take-add v j bytes in
        let fits : j ≤ length rest = omega (arith, long, length-drop v bytes) in
        let own : IsUtf8 (take j rest ++ after) =
        behind_text front (take j rest ++ after)
        (subst IsUtf8 (ap (λ (b : List ℕ). b ++ after) split ∙ append_assoc front (take j rest) after) whole) text in
        omega (arith, at_most rest k j stop (goes_on rest after j none (omega (arith, past)) fits own) fits, past)
