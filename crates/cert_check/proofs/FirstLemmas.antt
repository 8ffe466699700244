-- The first answer that is no stands at the first test that fails (`first_of_answers`), and two
-- answers to that are one (`first_is_one`); the answers of a chain of numbers say which tests are
-- passed (`answers_are`).
use Rattle.std.proofs.Common.{◌≡◌, ◌⊎◌, inl, inr, ℕ, zero, suc, ◌+◌, ◌<◌, ◌≤◌, true, Bool, List, [], ◌∷◌, Option, Some, None, length, get_or, sym, ap, refl, ◌∙◌, subst, arith}
use Rattle.std.specs.Prelude.{◌↔◌, IsTrue}
use Rattle.std.specs.List.{AllZip, range_with_len}
use Rattle.std.proofs.lemmas.Bool.{cases_lt}
use Rattle.std.proofs.lemmas.List.FromFn.{get_or-range_with_len, length-range_with_len}
use Rattle.std.proofs.lemmas.Slice.Zip.{AllZip-long}
use Rattle.cert_check.specs.First.{AreAnswers, FirstFailingIsOne, IsFirstFailing, IsFirstNo}

pub first_of_answers : (passes : ℕ → Type 0) (count : ℕ) (answers : List Bool) (found : Option ℕ)
    → AreAnswers passes count answers → IsFirstNo answers found → IsFirstFailing passes count found
first_of_answers passes count answers None are h =
    λ n within. (are.each n within).0 (h n (omega (arith, are.whole, within)))
first_of_answers passes count answers (Some first) are h =
    let within : first < count = omega (arith, are.whole, h.0) in (
      within,
      λ is. h.1 ((are.each first within).1 is),
      λ n before. let low : n < count = omega (arith, within, before) in (are.each n low).0 (h.2 n before),
    )

pub first_is_one : (passes : ℕ → Type 0) (count : ℕ) → FirstFailingIsOne passes count
first_is_one passes count None None h g = refl
first_is_one passes count None (Some m) h g = absurd (g.1 (h m g.0))
first_is_one passes count (Some n) None h g = absurd (h.1 (g n h.0))
first_is_one passes count (Some n) (Some m) h g = at (cases_lt n m)
  where
    less : (m ≡ n) ⊎ (m < n) → Some n ≡ Some m
    less (inl same) = ap Some (sym same)
    less (inr before) = absurd (g.1 (h.2 m before))

    at : (n < m) ⊎ (m ≤ n) → Some n ≡ Some m
    at (inl before) = absurd (h.1 (g.2 n before))
    at (inr behind) = by (cases_lt m n)
      where
        by : (m < n) ⊎ (n ≤ m) → Some n ≡ Some m
        by (inl before) = less (inr before)
        by (inr most) = less (inl (omega (arith, behind, most)))

-- answers that go with the numbers from 0, each with the test of its number, say which tests are
-- passed
at_each : (R : ℕ → Bool → Type 0) (numbers : List ℕ) (answers : List Bool) (n d : ℕ) (e : Bool) → AllZip R numbers answers
    → n < length numbers → R (get_or numbers n d) (get_or answers n e)
at_each R [] answers n d e h short = absurd (omega (arith, short))
at_each R (x ∷ numbers) [] n d e h short = absurd h
at_each R (x ∷ numbers) (y ∷ answers) zero d e h short = h.0
at_each R (x ∷ numbers) (y ∷ answers) (suc n) d e h short =
    at_each R numbers answers n d e h.1 (omega (arith, short))

pub answers_are : (passes : ℕ → Type 0) (count : ℕ) (numbers : List ℕ) (given answers : List Bool)
    → numbers ≡ range_with_len 0 count → answers ≡ given → AllZip (λ n answer. IsTrue answer ↔ passes n) numbers given
    → AreAnswers passes count answers
answers_are passes count numbers given answers all same each = record {
  whole = ap length same ∙ AllZip-long (λ n answer. IsTrue answer ↔ passes n) numbers given each ∙ long;
  each = λ n within.
      subst (λ (bits : List Bool). IsTrue (get_or bits n true) ↔ passes n) (sym same)
      (subst (λ (m : ℕ). IsTrue (get_or given n true) ↔ passes m) (number n within)
      (at_each (λ m answer. IsTrue answer ↔ passes m) numbers given n 0 true each (omega (arith, long, within))));
}
  where
    long : length numbers ≡ count
    long = ap length all ∙ length-range_with_len 0 count

    number : (n : ℕ) → n < count → get_or numbers n 0 ≡ n
    number n within =
        let plain : 0 + n ≡ n = omega arith in
        ap (λ xs. get_or xs n 0) all ∙ get_or-range_with_len 0 count n 0 within ∙ plain
