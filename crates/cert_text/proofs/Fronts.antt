-- What is read stands at the front (`reads-stand`), where reading stops no text goes on
-- (`goes-to`), and one text at most stands at the front (`stands-one`), for each set of texts none
-- of which begins another one.
use Rattle.std.proofs.Common.{◌≡◌, ◌⊎◌, inl, inr, ⊎_elim, ℕ, ◌+◌, ◌-◌, ◌<◌, ◌≤◌, List, [], ◌∷◌, ◌++◌, length, take, drop, refl, sym, ap, subst, ◌∙◌, append_assoc, append-nil, length-append, arith}
use Rattle.std.proofs.lemmas.Bool.{cases_lt}
use Rattle.std.proofs.lemmas.List.{length-take, length-take-le, take-append-drop, take-take}
use Rattle.std.proofs.Math.Seq.{take-append-add, take-append_seam}
use Rattle.cert_text.specs.Pieces.{Begins, GoesTo, Reads, Stands, Stops}
use Rattle.cert_text.proofs.PieceLemmas.{Alone, none_before, two_fronts}

-- what stands before the rest of bytes
pub front-taken : (bytes front rest : List ℕ) → bytes ≡ front ++ rest → take (length bytes - length rest) bytes ≡ front
front-taken bytes front rest e =
    let count : length bytes - length rest ≡ length front = omega (arith, ap length e, length-append front rest) in
    ap (λ k. take k bytes) count ∙ ap (take (length front)) e ∙ take-append_seam front rest

module _ {A : Type 0} (L : A → List ℕ → Type 0) where
  pub reads-stand : (bytes rest : List ℕ) (x : A) → Reads L bytes x rest → Stands L bytes x (length bytes - length rest)
  reads-stand bytes rest x (front, parts, text) =
      record { within = omega arith; text = subst (L x) (sym (front-taken bytes front rest parts)) text }

  pub stands-one : Alone L → (bytes : List ℕ) (x y : A) (n m : ℕ) → Stands L bytes x n → Stands L bytes y m
      → (x ≡ y) × (n ≡ m)
  stands-one alone bytes x y n m one two =
      let same = alone x y (take n bytes) (take m bytes) (drop n bytes) (drop m bytes) one.text two.text
      (take-append-drop n bytes ∙ sym (take-append-drop m bytes)) in (
        same.0,
        sym (length-take-le n bytes one.within) ∙ ap length same.1 ∙ length-take-le m bytes two.within,
      )

  -- a text that a front is stands at the front of all bytes
  pub at_front : (x : A) (bytes front rest : List ℕ) → bytes ≡ front ++ rest → L x front → Stands L bytes x (length front)
  at_front x bytes front rest e text = record {
    within = omega (arith, ap length e, length-append front rest);
    text = subst (L x) (sym (ap (take (length front)) e ∙ take-append_seam front rest)) text;
  }

-- a longer front goes on with the next byte
longer : (front rest bytes : List ℕ) (n : ℕ) → bytes ≡ front ++ rest → length front < n → n ≤ length bytes
    → (b : ℕ) × (more k : List ℕ) × (rest ≡ b ∷ more) × (take n bytes ≡ (front ++ b ∷ []) ++ k)
longer front [] bytes n parts lt within =
    absurd (omega (arith, ap length parts, length-append front [], lt, within))
longer front (b ∷ more) bytes n parts lt within = (
  b,
  more,
  take (n - length (front ++ b ∷ [])) more,
  refl,
  ap (take n) (parts ∙ sym (append_assoc front (b ∷ []) more))
      ∙ cut (front ++ b ∷ []) more n (omega (arith, length-append front (b ∷ []), lt)),
)
  where
    cut : (xs ys : List ℕ) (k : ℕ) → length xs ≤ k → take k (xs ++ ys) ≡ xs ++ take (k - length xs) ys
    cut xs ys k h =
        let all : k ≡ length xs + (k - length xs) = omega (arith, h) in
        ap (λ j. take j (xs ++ ys)) all ∙ take-append-add xs ys (k - length xs)

module _ {A : Type 0} (L : A → List ℕ → Type 0) (alone : Alone L) (bytes : List ℕ) (left : ℕ) (stop : Stops L bytes left)
  where
    size : length bytes ≡ length stop.front + length stop.rest
    size = ap length stop.parts ∙ length-append stop.front stop.rest

    at : length bytes - left ≡ length stop.front
    at = omega (arith, size, stop.count)

    here : take (length bytes - left) bytes ≡ stop.front
    here =
        ap (λ k. take k bytes) at ∙ ap (take (length stop.front)) stop.parts
        ∙ take-append_seam stop.front stop.rest

    -- no longer front goes on
    none : (n : ℕ) → n ≤ length bytes → Begins L (take n bytes) → length stop.front < n → ⊥
    none n within (x, rest, text) lt =
        let more = longer stop.front stop.rest bytes n stop.parts lt within in
        stop.here.longest more.0 more.1 more.3 (
          x,
          more.2 ++ rest,
          subst (L x) (ap (λ w. w ++ rest) more.4 ∙ append_assoc (stop.front ++ more.0 ∷ []) more.2 rest) text,
        )

    -- and no shorter one is a text
    before : (n : ℕ) (x : A) → L x (take n bytes)
        → ((m : List ℕ) × (stop.front ≡ take n bytes ++ m) × (drop n bytes ≡ m ++ stop.rest))
        ⊎ ((m : List ℕ) × (take n bytes ≡ stop.front ++ m) × (stop.rest ≡ m ++ drop n bytes))
        → length (take n bytes) ≤ length stop.front → ⊥
    before n x text (inl (m, e, _)) few = none_before L stop.front stop.rest alone stop.here x (take n bytes) m text e
    before n x text (inr ([], e, _)) few =
        none_before L stop.front stop.rest alone stop.here x (take n bytes) [] text
        (sym (append-nil (take n bytes) ∙ e ∙ append-nil stop.front))
    before n x text (inr (b ∷ m, e, _)) few = omega (arith, ap length e, length-append stop.front (b ∷ m), few)

    pub goes-to : GoesTo L bytes (length bytes - left)
    goes-to = record {
      within = omega (arith, size, stop.count);
      begins = let begun = stop.here.begins in
          (begun.0, begun.1, subst (λ w. L begun.0 (w ++ begun.1)) (sym here) begun.2);
      longest = λ n within begins. ⊎_elim
          (λ lt. absurd (none n within begins (omega (arith, lt, at))))
          (λ h. h) (cases_lt (length bytes - left) n);
      unfinished = λ x n stands. ⊎_elim
          (λ lt. none n stands.within (x, [], subst (L x) (sym (append-nil (take n bytes))) stands.text)
          (omega (arith, lt, at)))
          (λ h. before n x stands.text
          (two_fronts (take n bytes) (drop n bytes) stop.front stop.rest (take-append-drop n bytes ∙ stop.parts))
          (omega (arith, length-take-le n bytes stands.within, h, at)))
          (cases_lt (length bytes - left) n);
    }

    pub few-left : left ≤ length bytes
    few-left = omega (arith, size, stop.count)

-- ---- a front that is longer than each text

module _ {A : Type 0} (L : A → List ℕ → Type 0) (limit : ℕ) (short : (x : A) (text : List ℕ) → L x text → length text < limit)
    (bytes : List ℕ) where
  begun-short : (n : ℕ) → n ≤ length bytes → Begins L (take n bytes) → n < limit
  begun-short n within (x, rest, text) =
      omega (
        arith,
        short x (take n bytes ++ rest) text,
        length-append (take n bytes) rest,
        length-take-le n bytes within,
      )

  whole-short : (x : A) (n : ℕ) → Stands L bytes x n → n < limit
  whole-short x n stands =
      omega (arith, short x (take n bytes) stands.text, length-take-le n bytes stands.within)

  -- no text goes on farther by all of the bytes
  pub goes_to-whole : (at : ℕ) → GoesTo L (take limit bytes) at → GoesTo L bytes at
  goes_to-whole at goes =
      let size = length-take limit bytes in
      let same = λ (n : ℕ) (few : n ≤ limit). take-take n limit bytes few in
      record {
        within = omega (arith, size, goes.within);
        begins = subst (Begins L) (same at (omega (arith, size, goes.within))) goes.begins;
        longest = λ n within begins.
            let few : n < limit = begun-short n within begins in
            goes.longest n (omega (arith, size, within, few))
            (subst (Begins L) (sym (same n (omega (arith, few)))) begins);
        unfinished = λ x n stands.
            let few : n < limit = whole-short x n stands in
            goes.unfinished x n record {
              within = omega (arith, size, stands.within, few);
              text = subst (L x) (sym (same n (omega (arith, few)))) stands.text;
            };
      }
