-- Which bytes begin a line that is owed behind `p ` (`digit_begun`, `number_ends`), and how a
-- number with one more digit is written (`longer_number`). The line has no line feed before its end
-- (`stated_has_no_feed`), and begins one that is owed (`stated_begins`).
use Rattle.std.proofs.Common.{◌≡◌, ◌≢◌, ℕ, zero, suc, ◌+◌, ◌*◌, ◌/◌, ◌%◌, ◌^◌, ◌<◌, ◌≤◌, ◌⊎◌, inl, inr, ⊎_elim, true, List, [], ◌∷◌, ◌++◌, length, take, drop, get_or, refl, sym, ap, ◌∙◌, subst, arith, append_assoc, length-append}
use Rattle.std.specs.Fmt.{decimal}
use Rattle.std.proofs.lemmas.Bool.{cases_lt}
use Rattle.std.proofs.lemmas.Fmt.{decimal_by_steps, decimal_digit, decimal_injective, decimal_nonempty, decimal_step}
use Rattle.std.proofs.lemmas.List.{append_cancel_right, take-append-drop, take-append-le, take-take, take_all, take_more}
use Rattle.std.proofs.Math.ListN.{get_or-append}
use Rattle.std.proofs.Math.Seq.{get_or-append_seam, take-append_seam}
use Rattle.cert_text.specs.declared.potential.Potential.{Potential}
use Rattle.cert_text.specs.declared.potential.Potential.TheVariants.{Least, NoChain}
use Rattle.cert_text.specs.Potentials.{BeginsOwed, IsPotential, last_line, potential_line}
use Rattle.cert_text.specs.Lines.{HasNoFeed}
use Rattle.cert_text.specs.StatedLines.{IsStatedLine, is_of_potential, stated_bytes}
use Rattle.cert_text.specs.declared.stated_line.StatedLine.{StatedLine}
use Rattle.cert_text.specs.declared.stated_line.StatedLine.TheVariants as lines

-- ---- digits

-- a number begins with a digit
abbrev BeginsWithDigit : ℕ → List ℕ → Type 0
BeginsWithDigit n ds = (b : ℕ) × (bs : List ℕ) × (ds ≡ b ∷ bs) × (48 ≤ b) × (b ≤ 57)

decimal_begins : (n : ℕ) → n < 2 ^ 64 → BeginsWithDigit n (decimal n)
decimal_begins n small =
    decimal_by_steps BeginsWithDigit (λ k few. (48 + k, [], refl, omega arith, omega (arith, few)))
    (λ k ds large (b, bs, e, low, high). (b, bs ++ (48 + k % 10) ∷ [], ap (λ xs. xs ++ (48 + k % 10) ∷ []) e, low, high))
    n small

pub digit_begun : (byte : ℕ) → BeginsOwed true (112 ∷ 32 ∷ byte ∷ []) → (48 ≤ byte) × (byte ≤ 57)
digit_begun byte b = at b.whole.0 b.whole.1 b.rest b.whole.2
  where
    at : (p : Potential) → IsPotential p → (rest : List ℕ) → 112 ∷ 32 ∷ byte ∷ rest ≡ potential_line p
        → (48 ≤ byte) × (byte ≤ 57)
    at (Least n) small rest e =
        let (b, bs, same, low, high) = decimal_begins n (omega (arith, small)) in
        let tail : byte ∷ rest ≡ decimal n ++ 10 ∷ [] = cc in
        let first : byte ∷ rest ≡ b ∷ (bs ++ 10 ∷ []) = tail ∙ ap (λ xs. xs ++ 10 ∷ []) same in
        let is : byte ≡ b = cc in
        (omega (arith, is, low), omega (arith, is, high))
    at NoChain small rest e = cc

-- a number and one more digit
pub longer_number : (number byte longer : ℕ) → 1 ≤ number → longer + 48 ≡ 10 * number + byte → longer < 2 ^ 64
    → 48 ≤ byte → byte ≤ 57 → decimal longer ≡ decimal number ++ byte ∷ []
longer_number number byte longer some same small least most =
    let tens : longer / 10 ≡ number = omega (arith, same, least, most) in
    let ones : 48 + longer % 10 ≡ byte = omega (arith, same, least, most) in
    decimal_step longer (omega (arith, some, same, least)) small ∙ ap (λ n. decimal n ++ (48 + longer % 10) ∷ []) tens
    ∙ ap (λ b. decimal number ++ b ∷ []) ones

-- the first digits of a number are those of a number that is no greater
record HasFronts (m : ℕ) (ds : List ℕ) : Type 0 where
  pub own : m < 2 ^ 64 → ds ≡ decimal m
  pub fronts : m < 2 ^ 64 → (k : ℕ) → 0 < k → k ≤ length ds → (q : ℕ) × (q ≤ m) × (take k ds ≡ decimal q)

fronts_of : (m : ℕ) → m < 2 ^ 64 → HasFronts m (decimal m)
fronts_of m small = decimal_by_steps HasFronts one more m small
  where
    one : (n : ℕ) → n < 10 → HasFronts n ((48 + n) ∷ [])
    one n few = record {
      own = λ _. sym (decimal_digit n few);
      fronts = λ _ k some within.
          let same : k ≡ 1 = omega (arith, some, within) in
          (n, omega arith, ap (λ i. take i ((48 + n) ∷ [])) same ∙ sym (decimal_digit n few));
    }

    more : (n : ℕ) (ds : List ℕ) → 10 ≤ n → HasFronts (n / 10) ds → HasFronts n (ds ++ (48 + n % 10) ∷ [])
    more n ds large before = record { own = whole; fronts = fronts }
      where
        whole : n < 2 ^ 64 → ds ++ (48 + n % 10) ∷ [] ≡ decimal n
        whole below =
            ap (λ xs. xs ++ (48 + n % 10) ∷ []) (before.own (omega (arith, below))) ∙ sym (decimal_step n large below)

        fronts : n < 2 ^ 64 → (k : ℕ) → 0 < k → k ≤ length (ds ++ (48 + n % 10) ∷ [])
            → (q : ℕ) × (q ≤ n) × (take k (ds ++ (48 + n % 10) ∷ []) ≡ decimal q)
        fronts below k some within = ⊎_elim
            (λ (short : k < length ds + 1).
            let (q, low, is) = before.fronts (omega (arith, below)) k some (omega (arith, short)) in
            (q, omega (arith, low), take-append-le k ds ((48 + n % 10) ∷ []) (omega (arith, short)) ∙ is))
            (λ (long : length ds + 1 ≤ k). (
              n,
              omega arith,
              take_all k (ds ++ (48 + n % 10) ∷ [])
                  (omega (arith, long, length-append ds ((48 + n % 10) ∷ []))) ∙ whole below,
            ))
            (cases_lt k (length ds + 1))

-- behind the digits of a number stands a digit that makes a greater one, or the line's end
module _ (n m byte : ℕ) (rest : List ℕ) (small : n < 2 ^ 64) (below : m < 2 ^ 64) (other : byte ≢ 10)
    (same : decimal n ++ byte ∷ rest ≡ decimal m ++ 10 ∷ []) where
  at_seam : byte ≡ get_or (decimal m ++ 10 ∷ []) (length (decimal n)) 0
  at_seam = sym (get_or-append_seam (decimal n) byte rest 0) ∙ ap (λ xs. get_or xs (length (decimal n)) 0) same

  sizes : length (decimal n) + suc (length rest) ≡ length (decimal m) + 1
  sizes = sym (length-append (decimal n) (byte ∷ rest)) ∙ ap length same ∙ length-append (decimal m) (10 ∷ [])

  within : length (decimal n) < length (decimal m)
  within = ⊎_elim (λ less. less)
      (λ most.
      let here : length (decimal n) ≡ length (decimal m) = omega (arith, most, sizes) in
      absurd (other (at_seam ∙ ap (λ k. get_or (decimal m ++ 10 ∷ []) k 0) here
      ∙ get_or-append_seam (decimal m) 10 [] 0)))
      (cases_lt (length (decimal n)) (length (decimal m)))

  front : take (length (decimal n)) (decimal m) ≡ decimal n
  front =
      sym (take-append-le (length (decimal n)) (decimal m) (10 ∷ []) (omega (arith, within)))
      ∙ ap (λ xs. take (length (decimal n)) xs) (sym same) ∙ take-append_seam (decimal n) (byte ∷ rest)

  digit : byte ≡ get_or (decimal m) (length (decimal n)) 0
  digit = at_seam ∙ get_or-append (decimal m) (10 ∷ []) 0 (length (decimal n)) within

  pub next_digit : (1 ≤ n) × ((d : ℕ) × (d < 10) × (byte ≡ 48 + d) × (10 * n + d ≤ m))
  next_digit =
      let (q, low, is) = (fronts_of m below).fronts below (length (decimal n) + 1) (omega arith) (omega (arith, within)) in
      let all : decimal q ≡ decimal n ++ byte ∷ [] =
      sym is ∙ take_more (decimal m) (length (decimal n)) 0 within
      ∙ ap (λ xs. xs ++ get_or (decimal m) (length (decimal n)) 0 ∷ []) front
      ∙ ap (λ b. decimal n ++ b ∷ []) (sym digit) in
      by q low all (cases_lt q 10)
    where
      by : (q : ℕ) → q ≤ m → decimal q ≡ decimal n ++ byte ∷ [] → (q < 10) ⊎ (10 ≤ q)
          → (1 ≤ n) × ((d : ℕ) × (d < 10) × (byte ≡ 48 + d) × (10 * n + d ≤ m))
      by q low all (inl few) =
          absurd (omega (
            arith,
            decimal_nonempty n small,
            ap length (sym (decimal_digit q few) ∙ all),
            length-append (decimal n) (byte ∷ []),
          ))
      by q low all (inr large) =
          let step : decimal (q / 10) ++ (48 + q % 10) ∷ [] ≡ decimal n ++ byte ∷ [] =
          sym (decimal_step q large (omega (arith, low, below))) ∙ all in
          let long : length (decimal (q / 10)) ≡ length (decimal n) =
          omega (
            arith,
            ap length step,
            length-append (decimal (q / 10)) ((48 + q % 10) ∷ []),
            length-append (decimal n) (byte ∷ []),
          ) in
          let last : 48 + q % 10 ≡ byte =
          sym (get_or-append_seam (decimal (q / 10)) (48 + q % 10) [] 0)
          ∙ ap (λ xs. get_or xs (length (decimal (q / 10))) 0) step
          ∙ ap (λ k. get_or (decimal n ++ byte ∷ []) k 0) long ∙ get_or-append_seam (decimal n) byte [] 0 in
          let first : decimal (q / 10) ≡ decimal n =
          append_cancel_right (decimal (q / 10)) (decimal n) (byte ∷ [])
          (ap (λ b. decimal (q / 10) ++ b ∷ []) (sym last) ∙ step) in
          let tens : q / 10 ≡ n = decimal_injective (q / 10) n (omega (arith, low, below)) small first in
          (omega (arith, tens, large), (q % 10, omega arith, sym last, omega (arith, tens, low)))

pub number_ends : (number byte : ℕ) → number < 2 ^ 32 → byte ≢ 10
    → ((digit : ℕ) → digit < 10 → byte ≡ 48 + digit → 1 ≤ number → 2 ^ 32 ≤ 10 * number + digit)
    → BeginsOwed true (112 ∷ 32 ∷ (decimal number ++ byte ∷ [])) → ⊥
number_ends number byte small other none b = at b.whole.0 b.whole.1 b.rest b.whole.2
  where
    at : (p : Potential) → IsPotential p → (rest : List ℕ)
        → (112 ∷ 32 ∷ (decimal number ++ byte ∷ [])) ++ rest ≡ potential_line p → ⊥
    at (Least m) below rest e =
        let tail : (decimal number ++ byte ∷ []) ++ rest ≡ decimal m ++ 10 ∷ [] = cc in
        let (some, (d, few, is, low)) = next_digit number m byte rest (omega (arith, small)) (omega (arith, below)) other
        (sym (append_assoc (decimal number) (byte ∷ []) rest) ∙ tail) in
        omega (arith, none d few is some, low, below)
    at NoChain below rest e = cc

-- ---- lines that were begun

no_feed_more : (xs ys : List ℕ) → HasNoFeed xs → HasNoFeed ys → HasNoFeed (xs ++ ys)
no_feed_more [] ys p q = q
no_feed_more (x ∷ xs) ys p q = (p.0, no_feed_more xs ys p.1 q)

digits_have_no_feed : (n : ℕ) → n < 2 ^ 64 → HasNoFeed (decimal n)
digits_have_no_feed n small =
    decimal_by_steps (λ k ds. HasNoFeed ds) (λ k few. ((λ e. omega (arith, e)), tt))
    (λ k ds large none. no_feed_more ds ((48 + k % 10) ∷ []) none ((λ e. omega (arith, e)), tt)) n small

claims_have_no_feed : (read : ℕ) → read ≤ 6 → HasNoFeed (take read last_line)
claims_have_no_feed read within = by (take 6 last_line) refl
  where
    front : (k : ℕ) (xs : List ℕ) → HasNoFeed xs → HasNoFeed (take k xs)
    front zero xs none = tt
    front (suc k) [] none = tt
    front (suc k) (x ∷ xs) none = (none.0, front k xs none.1)

    by : (xs : List ℕ) → take 6 last_line ≡ xs → HasNoFeed (take read last_line)
    by xs e =
        subst HasNoFeed (take-take read 6 last_line within)
        (front read (take 6 last_line) ((λ e. cc), ((λ e. cc), ((λ e. cc), ((λ e. cc), ((λ e. cc), ((λ e. cc), tt)))))))

pub stated_has_no_feed : (line : StatedLine) → IsStatedLine line → HasNoFeed (stated_bytes line)
stated_has_no_feed lines.Nothing is = tt
stated_has_no_feed lines.NoChain is = ((λ e. cc), tt)
stated_has_no_feed lines.Letter is = ((λ e. cc), tt)
stated_has_no_feed lines.Blank is = ((λ e. cc), ((λ e. cc), tt))
stated_has_no_feed (lines.Number n) is = ((λ e. cc), ((λ e. cc), digits_have_no_feed n (omega (arith, is))))
stated_has_no_feed (lines.Claims read) is = claims_have_no_feed read is

pub stated_begins : (line : StatedLine) → IsStatedLine line → BeginsOwed (is_of_potential line) (stated_bytes line)
stated_begins lines.Nothing is = record { rest = potential_line NoChain; whole = (NoChain, tt, refl) }
stated_begins lines.NoChain is = record { rest = 10 ∷ []; whole = (NoChain, tt, refl) }
stated_begins lines.Letter is = record { rest = 32 ∷ (decimal 0 ++ 10 ∷ []); whole = (Least 0, omega arith, refl) }
stated_begins lines.Blank is = record { rest = decimal 0 ++ 10 ∷ []; whole = (Least 0, omega arith, refl) }
stated_begins (lines.Number n) is = record { rest = 10 ∷ []; whole = (Least n, is, refl) }
stated_begins (lines.Claims read) is = record { rest = drop read last_line; whole = take-append-drop read last_line }
