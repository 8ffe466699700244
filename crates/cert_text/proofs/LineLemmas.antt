-- Which bytes begin a claim's line (`digit_begun`, `rule_ends`), and how the number of a rule is
-- written (`longer_rule`). A claim's line has no line feed before its end (`word_has_no_feed`).
use Rattle.std.proofs.Common.{◌≡◌, ◌≢◌, ℕ, Bool, true, false, nat_lt, ◌+◌, ◌*◌, ◌/◌, ◌%◌, ◌<◌, ◌≤◌, List, [], ◌∷◌, ◌++◌, ◌⊎◌, inl, inr, ⊎_elim, refl, sym, ap, ◌∙◌, subst, arith, append_assoc}
use Rattle.std.specs.Fmt.{decimal}
use Rattle.std.proofs.lemmas.Bool.Decides.{nat_tests}
use Rattle.std.proofs.lemmas.Fmt.{decimal_digit, decimal_step}
use Rattle.fux_grid.specs.Exercises.{greatest_rule}
use Rattle.cert_text.specs.declared.claim.Claim.{Claim}
use Rattle.cert_text.specs.declared.claim.Claim.TheVariants.{Open, Broken, NoChain, Floor, TheScore}
use Rattle.cert_text.specs.Lines.{BeginsClaim, HasNoFeed, IsClaim, claim_line, claim_word}

-- a number of two digits
pub two_digits : (n : ℕ) → 10 ≤ n → n ≤ greatest_rule → decimal n ≡ (48 + n / 10) ∷ (48 + n % 10) ∷ []
two_digits n low high =
    decimal_step n low (omega arith) ∙ ap (λ tens. tens ++ (48 + n % 10) ∷ []) (decimal_digit (n / 10) (omega arith))

-- a number and one more digit
pub longer_rule : (rule byte longer : ℕ) → longer + 48 ≡ 10 * rule + byte → 10 ≤ longer → longer ≤ greatest_rule
    → 48 ≤ byte → byte ≤ 57
    → decimal longer ≡ decimal rule ++ byte ∷ []
longer_rule rule byte longer same low high least most =
    let tens : longer / 10 ≡ rule = omega arith in
    let ones : 48 + longer % 10 ≡ byte = omega arith in
    decimal_step longer low (omega arith) ∙ ap (λ n. decimal n ++ (48 + longer % 10) ∷ []) tens
    ∙ ap (λ b. decimal rule ++ b ∷ []) ones

-- a number is written with one digit or with two
digits_of : (n : ℕ) → n ≤ greatest_rule
    → ((n < 10) × (decimal n ≡ (48 + n) ∷ [])) ⊎ ((10 ≤ n) × (decimal n ≡ (48 + n / 10) ∷ (48 + n % 10) ∷ []))
digits_of n high = at (nat_lt n 10) refl
  where
    at : (small : Bool) → nat_lt n 10 ≡ small
        → ((n < 10) × (decimal n ≡ (48 + n) ∷ [])) ⊎ ((10 ≤ n) × (decimal n ≡ (48 + n / 10) ∷ (48 + n % 10) ∷ []))
    at true test = let h : n < 10 = grind (arith, nat_tests) in inl (h, decimal_digit n h)
    at false test = let h : 10 ≤ n = grind (arith, nat_tests) in inr (h, two_digits n h high)

-- the first byte behind `b ` is a digit
pub digit_begun : (byte : ℕ) → BeginsClaim (98 ∷ 32 ∷ byte ∷ []) → (49 ≤ byte) × (byte ≤ 57)
digit_begun byte b = at b.claim b.fits b.rest b.whole
  where
    at : (claim : Claim) → IsClaim claim → (rest : List ℕ) → 98 ∷ 32 ∷ byte ∷ rest ≡ claim_line claim
        → (49 ≤ byte) × (byte ≤ 57)
    at Open fits rest whole = cc
    at NoChain fits rest whole = cc
    at Floor fits rest whole = cc
    at TheScore fits rest whole = cc
    at (Broken n) (low, high) rest whole =
        let tail : byte ∷ rest ≡ decimal n ++ 10 ∷ [] = cc in
        ⊎_elim
        (λ (small, one). let e : byte ∷ rest ≡ (48 + n) ∷ 10 ∷ [] = tail
        ∙ ap (λ ds. ds ++ 10 ∷ []) one in let first : byte ≡ 48 + n = cc in (omega arith, omega arith))
        (λ (large, two). let e : byte ∷ rest ≡ (48 + n / 10) ∷ (48 + n % 10) ∷ 10 ∷ [] = tail
        ∙ ap (λ ds. ds ++ 10 ∷ []) two in let first : byte ≡ 48 + n / 10 = cc in (omega arith, omega arith))
        (digits_of n high)

-- two numbers of rules, of which one is followed by a byte that doesn't end the line
rules_differ : (rule n byte : ℕ) (rest : List ℕ) → 1 ≤ rule → rule ≤ greatest_rule → n ≤ greatest_rule → byte ≢ 10
    → ((digit : ℕ) → digit < 10 → byte ≡ 48 + digit → greatest_rule < 10 * rule + digit)
    → decimal rule ++ byte ∷ rest ≡ decimal n ++ 10 ∷ [] → ⊥
rules_differ rule n byte rest low high most other none same =
    ⊎_elim
    (λ (small, one). ⊎_elim
    (λ (small', one'). let e : (48 + rule) ∷ byte ∷ rest ≡ (48 + n) ∷ 10 ∷ [] = ap
    (λ ds. ds ++ byte ∷ rest) (sym one) ∙ same ∙ ap (λ ds. ds ++ 10 ∷ []) one' in other cc)
    (λ (large', two').
    let e : (48 + rule) ∷ byte ∷ rest ≡ (48 + n / 10) ∷ (48 + n % 10) ∷ 10 ∷ [] = ap
    (λ ds. ds ++ byte ∷ rest) (sym one) ∙ same ∙ ap (λ ds. ds ++ 10 ∷ []) two' in
    let tens : 48 + rule ≡ 48 + n / 10 = cc in
    let ones : byte ≡ 48 + n % 10 = cc in
    let above : greatest_rule < 10 * rule + n % 10 = none (n % 10) (omega arith) ones in
    absurd (omega arith))
    (digits_of n most))
    (λ (large, two). ⊎_elim
    (λ (small', one').
    let e : (48 + rule / 10) ∷ (48 + rule % 10) ∷ byte ∷ rest ≡ (48 + n) ∷ 10 ∷ [] = ap
    (λ ds. ds ++ byte ∷ rest) (sym two) ∙ same ∙ ap (λ ds. ds ++ 10 ∷ []) one' in
    let second : 48 + rule % 10 ≡ 10 = cc in
    absurd (omega arith))
    (λ (large', two').
    let e : (48 + rule / 10) ∷ (48 + rule % 10) ∷ byte ∷ rest ≡ (48 + n / 10) ∷
    (48 + n % 10) ∷ 10 ∷ [] = ap (λ ds. ds ++ byte ∷ rest) (sym two) ∙ same
    ∙ ap (λ ds. ds ++ 10 ∷ []) two' in
    other cc)
    (digits_of n most))
    (digits_of rule high)

-- behind the number of a rule stands a line feed, or a digit that makes a further rule's number
pub rule_ends : (rule byte : ℕ) → 1 ≤ rule → rule ≤ greatest_rule → byte ≢ 10 → ((digit : ℕ) → digit < 10
    → byte ≡ 48 + digit → greatest_rule < 10 * rule + digit)
    → BeginsClaim (98 ∷ 32 ∷ (decimal rule ++ byte ∷ [])) → ⊥
rule_ends rule byte low high other none b = at b.claim b.fits b.rest b.whole
  where
    at : (claim : Claim) → IsClaim claim → (rest : List ℕ)
        → (98 ∷ 32 ∷ (decimal rule ++ byte ∷ [])) ++ rest ≡ claim_line claim → ⊥
    at Open fits rest whole = cc
    at NoChain fits rest whole = cc
    at Floor fits rest whole = cc
    at TheScore fits rest whole = cc
    at (Broken n) (least, most) rest whole =
        let tail : (decimal rule ++ byte ∷ []) ++ rest ≡ decimal n ++ 10 ∷ [] = cc in
        rules_differ rule n byte rest low high most other none
        (sym (append_assoc (decimal rule) (byte ∷ []) rest) ∙ tail)

-- the number of a rule has no line feed
digits_have_no_feed : (n : ℕ) → n ≤ greatest_rule → HasNoFeed (decimal n)
digits_have_no_feed n high = ⊎_elim
    (λ (small, one). subst HasNoFeed (sym one) ((λ e. omega (arith, e)), tt))
    (λ (large, two). subst HasNoFeed (sym two) ((λ e. omega (arith, e)), ((λ e. omega (arith, e)), tt)))
    (digits_of n high)

-- nor has a claim's line before its end
pub word_has_no_feed : (claim : Claim) → IsClaim claim → HasNoFeed (claim_word claim)
word_has_no_feed Open fits = ((λ e. cc), tt)
word_has_no_feed NoChain fits = ((λ e. cc), tt)
word_has_no_feed Floor fits = ((λ e. cc), tt)
word_has_no_feed TheScore fits = ((λ e. cc), tt)
word_has_no_feed (Broken n) fits = ((λ e. cc), ((λ e. cc), digits_have_no_feed n fits.1))
