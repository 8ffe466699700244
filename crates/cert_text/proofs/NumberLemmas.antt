-- Digits are those of a number as long as one more can stand behind them (`digits-more`), and
-- reading stops where it can't (`digits-stop`). No number's line begins another one
-- (`numbers-alone`).
use Rattle.std.proofs.Common.{◌≡◌, ◌≢◌, ◌⊎◌, inl, inr, ℕ, ◌+◌, ◌-◌, ◌*◌, ◌/◌, ◌%◌, ◌<◌, ◌≤◌, ◌^◌, Bool, true, false, List, [], ◌∷◌, ◌++◌, Option, Some, None, length, length-append, length-drop, take, drop, get_or, refl, sym, ap, subst, ◌∙◌, append_assoc, append-nil, arith}
use Rattle.std.specs.Prelude.{◌==◌, ◌&&◌, not, nat_le, nat_lt, if◌then◌else◌}
use Rattle.std.specs.Option.{option_and_then}
use Rattle.text_lines.specs.Numbers.{is_digit}
use Rattle.std.specs.Fmt.{decimal}
use Rattle.std.proofs.lemmas.Bool.{and_parts}
use Rattle.std.proofs.lemmas.Bool.Decides.{nat_tests}
use Rattle.std.proofs.lemmas.Fmt.{decimal_by_steps, decimal_digit, decimal_nonempty, decimal_step}
use Rattle.std.proofs.lemmas.List.{drop_more, take-append-drop, take_all, take_more}
use Rattle.cert_text.specs.HeadRows.{AreDigits, NumberLine, digit_after}
use Rattle.cert_text.specs.Pieces.{Begins, Stops, StopsAt}
use Rattle.cert_text.proofs.PieceLemmas.{Alone, Plain, stops-at, two_fronts}

-- what digits make of those before them
abbrev digits_from : Option ℕ → List ℕ → Option (Option ℕ)
digits_from s [] = Some s
digits_from s (b ∷ bs) = option_and_then (λ n. digits_from (Some n) bs) (digit_after s b)

-- ---- a number's digits are read as the number

abbrev ReadsNumber : ℕ → List ℕ → Type 0
ReadsNumber n digits = n < 2 ^ 64 → (y : List ℕ) → digits_from None (digits ++ y) ≡ digits_from (Some n) y

one-digit : (n : ℕ) → n < 10 → ReadsNumber n ((48 + n) ∷ [])
one-digit n small fits y =
    let digit : is_digit (48 + n) ≡ true = grind (arith, nat_tests) in
    let value : 48 + n - 48 ≡ n = omega arith in
    rw digit (ap (λ k. digits_from (Some k) y) value)

more-digits : (n : ℕ) (ds : List ℕ) → 10 ≤ n → ReadsNumber (n / 10) ds → ReadsNumber n (ds ++ (48 + n % 10) ∷ [])
more-digits n ds large before fits y =
    let digit : is_digit (48 + n % 10) ≡ true = grind (arith, nat_tests) in
    let some : (n / 10 == 0) ≡ false = grind (arith, nat_tests) in
    let value : 10 * (n / 10) + (48 + n % 10 - 48) ≡ n = omega arith in
    let below : nat_lt (10 * (n / 10) + (48 + n % 10 - 48)) (2 ^ 64) ≡ true = grind (arith, nat_tests) in
    ap (digits_from None) (append_assoc ds ((48 + n % 10) ∷ []) y)
    ∙ before (omega (arith, fits)) ((48 + n % 10) ∷ y)
    ∙ rw (digit, some, below) (ap (λ k. digits_from (Some k) y) value)

digits-read : (s : Option ℕ) (ds y : List ℕ) → AreDigits s ds → digits_from None (ds ++ y) ≡ digits_from s y
digits-read None ds y are = ap (λ d. digits_from None (d ++ y)) are
digits-read (Some n) ds y are =
    ap (λ d. digits_from None (d ++ y)) are.1 ∙ decimal_by_steps ReadsNumber one-digit more-digits n are.0 are.0 y

-- nothing but a digit stands behind digits
fails : (s : Option ℕ) (ds more : List ℕ) (b : ℕ) (t : Option ℕ) (whole : List ℕ) → AreDigits s ds
    → digit_after s b ≡ None → AreDigits t whole → whole ≡ ds ++ b ∷ more → ⊥
fails s ds more b t whole are none also e =
    let one : digits_from None whole ≡ Some t =
    ap (digits_from None) (sym (append-nil whole)) ∙ digits-read t whole [] also in
    let two : digits_from None whole ≡ None =
    ap (digits_from None) e ∙ digits-read s ds (b ∷ more) are
    ∙ ap (option_and_then (λ n. digits_from (Some n) more)) none in
    let both : Some t ≡ None = sym one ∙ two in
    absurd (grind (arith, both))

-- ---- the lines of numbers

pub numbers-alone : Alone NumberLine
numbers-alone n m f g a b s t e =
    by (two_fronts (decimal n) (10 ∷ a) (decimal m) (10 ∷ b) whole)
  where
    whole : decimal n ++ 10 ∷ a ≡ decimal m ++ 10 ∷ b
    whole =
        sym (append_assoc (decimal n) (10 ∷ []) a) ∙ ap (λ w. w ++ a) (sym s.1) ∙ e ∙ ap (λ w. w ++ b) t.1
        ∙ append_assoc (decimal m) (10 ∷ []) b

    same : decimal n ≡ decimal m → (n ≡ m) × (f ≡ g)
    same d =
        let number : n ≡ m = number_of d in (number, s.1 ∙ ap (λ w. w ++ 10 ∷ []) d ∙ sym t.1)
      where
        number_of : decimal n ≡ decimal m → n ≡ m
        number_of d =
            let one = digits-read (Some n) (decimal n) [] (s.0, refl) in
            let two = digits-read (Some m) (decimal m) [] (t.0, refl) in
            let both : Some (Some n) ≡ Some (Some m) = sym one ∙ ap (λ w. digits_from None (w ++ [])) d ∙ two in
            cc

    by : ((k : List ℕ) × (decimal m ≡ decimal n ++ k) × (10 ∷ a ≡ k ++ 10 ∷ b))
        ⊎ ((k : List ℕ) × (decimal n ≡ decimal m ++ k) × (10 ∷ b ≡ k ++ 10 ∷ a))
        → (n ≡ m) × (f ≡ g)
    by (inl ([], d, r)) = same (sym (d ∙ append-nil (decimal n)))
    by (inr ([], d, r)) = same (d ∙ append-nil (decimal m))
    by (inl (c ∷ k, d, r)) =
        let feed : c ≡ 10 = cc in
        absurd (fails (Some n) (decimal n) k 10 (Some m) (decimal m) (s.0, refl) refl (t.0, refl)
        (d ∙ ap (λ x. decimal n ++ x ∷ k) feed))
    by (inr (c ∷ k, d, r)) =
        let feed : c ≡ 10 = cc in
        absurd (fails (Some m) (decimal m) k 10 (Some n) (decimal n) (t.0, refl) refl (s.0, refl)
        (d ∙ ap (λ x. decimal m ++ x ∷ k) feed))

-- one more digit
pub digits-more : (s : Option ℕ) (ds : List ℕ) (b n : ℕ) → AreDigits s ds → digit_after s b ≡ Some n
    → AreDigits (Some n) (ds ++ b ∷ [])
digits-more None ds b n are e = by (is_digit b) refl e
  where
    by : (t : Bool) → is_digit b ≡ t → (if t then Some (b - 48) else None) ≡ Some n → AreDigits (Some n) (ds ++ b ∷ [])
    by false f g = absurd (grind (arith, g))
    by true f g =
        let d = and_parts (nat_le 48 b) (nat_le b 57) f in
        let least : 48 ≤ b = let t = d.0 in grind (arith, nat_tests) in
        let most : b ≤ 57 = let t = d.1 in grind (arith, nat_tests) in
        let same : b - 48 ≡ n = cc in
        let value : 48 + n ≡ b = omega (arith, least, same) in (
          omega (arith, most, same),
          ap (λ w. w ++ b ∷ []) are ∙ sym (decimal_digit n (omega (arith, most, same)) ∙ ap (λ c. c ∷ []) value),
        )
digits-more (Some k) ds b n are e =
    by (is_digit b && (not (k == 0) && nat_lt (10 * k + (b - 48)) (2 ^ 64))) refl e
  where
    by : (t : Bool) → (is_digit b && (not (k == 0) && nat_lt (10 * k + (b - 48)) (2 ^ 64))) ≡ t
        → (if t then Some (10 * k + (b - 48)) else None) ≡ Some n → AreDigits (Some n) (ds ++ b ∷ [])
    by false f g = absurd (grind (arith, g))
    by true f g =
        let p = and_parts (is_digit b) (not (k == 0) && nat_lt (10 * k + (b - 48)) (2 ^ 64)) f in
        let q = and_parts (not (k == 0)) (nat_lt (10 * k + (b - 48)) (2 ^ 64)) p.1 in
        let d = and_parts (nat_le 48 b) (nat_le b 57) p.0 in
        let least : 48 ≤ b = let t = d.0 in grind (arith, nat_tests) in
        let most : b ≤ 57 = let t = d.1 in grind (arith, nat_tests) in
        let some : k ≢ 0 = let t = q.0 in grind (arith, nat_tests) in
        let below : 10 * k + (b - 48) < 2 ^ 64 = let t = q.1 in grind (arith, nat_tests) in
        let same : 10 * k + (b - 48) ≡ n = cc in
        let tens : n / 10 ≡ k = omega (arith, least, most, same) in
        let ones : 48 + n % 10 ≡ b = omega (arith, least, most, same) in (
          omega (arith, below, same),
          ap (λ w. w ++ b ∷ []) are.1
              ∙ sym (decimal_step n (omega (arith, some, same)) (omega (arith, below, same))
              ∙ ap (λ j. decimal j ++ (48 + n % 10) ∷ []) tens ∙ ap (λ c. decimal k ++ c ∷ []) ones),
        )

-- digits begin a number's line, and none of the bytes that may come next goes on with them
pub digits-stop : (s : Option ℕ) (ds rest : List ℕ) → AreDigits s ds
    → ((b : ℕ) (more : List ℕ) → rest ≡ b ∷ more → (digit_after s b ≡ None) × (b ≡ 10 → s ≡ None))
    → StopsAt NumberLine ds rest
digits-stop s ds rest are stops = record {
  begins = begins s are;
  open_ = λ m text. fails (Some m) (decimal m) [] 10 s ds (text.0, refl) refl are text.1;
  longest = λ b more e (m, r, text). longer b (stops b more e) m r text
      (two_fronts ds (b ∷ r) (decimal m) (10 ∷ []) (sym (append_assoc ds (b ∷ []) r) ∙ text.1));
}
  where
    begins : (s : Option ℕ) → AreDigits s ds → Begins NumberLine ds
    begins None are = (0, decimal 0 ++ 10 ∷ [], (omega arith, ap (λ w. w ++ (decimal 0 ++ 10 ∷ [])) are))
    begins (Some n) are = (n, 10 ∷ [], (are.0, ap (λ w. w ++ 10 ∷ []) are.1))

    -- no number's line is a line feed alone
    no_feed : (m : ℕ) → m < 2 ^ 64 → s ≡ None → (k : List ℕ) → ds ≡ decimal m ++ k → ⊥
    no_feed m fits e k d =
        let none : ds ≡ [] = subst (λ o. AreDigits o ds) e are in
        omega (arith, decimal_nonempty m fits, ap length none, ap length d, length-append (decimal m) k)

    longer : (b : ℕ) → (digit_after s b ≡ None) × (b ≡ 10 → s ≡ None) → (m : ℕ) (r : List ℕ)
        → NumberLine m ((ds ++ b ∷ []) ++ r)
        → ((k : List ℕ) × (decimal m ≡ ds ++ k) × (b ∷ r ≡ k ++ 10 ∷ []))
        ⊎ ((k : List ℕ) × (ds ≡ decimal m ++ k) × (10 ∷ [] ≡ k ++ b ∷ r))
        → ⊥
    longer b stop m r text (inl ([], d, e)) =
        let feed : b ≡ 10 = cc in
        no_feed m text.0 (stop.1 feed) [] (sym (d ∙ append-nil ds) ∙ sym (append-nil (decimal m)))
    longer b stop m r text (inl (c ∷ k, d, e)) =
        let byte : c ≡ b = cc in
        fails s ds k b (Some m) (decimal m) are stop.0 (text.0, refl) (d ∙ ap (λ x. ds ++ x ∷ k) byte)
    longer b stop m r text (inr ([], d, e)) =
        let feed : b ≡ 10 = cc in no_feed m text.0 (stop.1 feed) [] d
    longer b stop m r text (inr (c ∷ k, d, e)) =
        omega (arith, ap length e, length-append k (b ∷ r))

-- ---- in bytes

pub number-stops : (s : Option ℕ) (bytes : List ℕ) (i : ℕ) → i < length bytes → AreDigits s (take i bytes)
    → digit_after s (get_or bytes i 0) ≡ None → (get_or bytes i 0 ≡ 10 → s ≡ None)
    → Stops NumberLine bytes (length bytes - i)
number-stops s bytes i within are none feed =
    stops-at NumberLine bytes (take i bytes) (drop i bytes) (length bytes - i) (sym (take-append-drop i bytes))
    (length-drop i bytes)
    (digits-stop s (take i bytes) (drop i bytes) are
    (λ b more e.
    let whole : get_or bytes i 0 ∷ drop (i + 1) bytes ≡ b ∷ more = sym (drop_more bytes i 0 within) ∙ e in
    let first : get_or bytes i 0 ≡ b = cc in
    (ap (digit_after s) (sym first) ∙ none, λ f. feed (first ∙ f))))

pub number-ends : (s : Option ℕ) (bytes : List ℕ) (i : ℕ) → length bytes ≤ i → AreDigits s (take i bytes)
    → Stops NumberLine bytes 0
number-ends s bytes i all are =
    stops-at NumberLine bytes bytes [] 0 (sym (append-nil bytes)) refl
    (digits-stop s bytes [] (subst (AreDigits s) (take_all i bytes all) are) (λ b more e. absurd (grind (arith, e))))

pub number-more : (s : Option ℕ) (bytes : List ℕ) (i n : ℕ) → i < length bytes → AreDigits s (take i bytes)
    → digit_after s (get_or bytes i 0) ≡ Some n → AreDigits (Some n) (take (i + 1) bytes)
number-more s bytes i n within are e =
    subst (AreDigits (Some n)) (sym (take_more bytes i 0 within)) (digits-more s (take i bytes) (get_or bytes i 0) n are e)

pub numbers-plain : Plain NumberLine
numbers-plain = record { alone = numbers-alone; live = (0, decimal 0 ++ 10 ∷ [], (omega arith, refl)) }
