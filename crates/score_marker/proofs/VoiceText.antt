-- What is written for the voices of a set, voice by voice (`voice_written`).
use Rattle.std.proofs.Common.{◌≡◌, ℕ, ◌+◌, ◌-◌, ◌<◌, suc, Bool, true, false, List, [], ◌∷◌, ◌++◌, refl, sym, ap, ◌∙◌, append_assoc, arith}
use Rattle.std.specs.Prelude.{filter}
use Rattle.std.specs.List.{flat_map, range_with_len}
use Rattle.std.proofs.lemmas.List.{append-nil}

-- the numbers from one on that pass a test, before the end of a range
abbrev pub kept_from : (ℕ → Bool) → ℕ → ℕ → List ℕ
kept_from test a b = filter test (range_with_len a (b - a))

kept_from-first : (test : ℕ → Bool) (text : ℕ → List ℕ) (a b : ℕ) → a < b
    → flat_map text (kept_from test a b) ≡ flat_map text (filter test (a ∷ []))
    ++ flat_map text (kept_from test (a + 1) b)
kept_from-first test text a b h = at (test a) refl
  where
    first : range_with_len a (b - a) ≡ a ∷ range_with_len (a + 1) (b - (a + 1))
    first = let k : b - a ≡ suc (b - (a + 1)) = omega arith in rw k refl

    at : (passes : Bool) → test a ≡ passes
        → flat_map text (kept_from test a b) ≡ flat_map text (filter test (a ∷ []))
        ++ flat_map text (kept_from test (a + 1) b)
    at true t = rw (first, t) (ap (λ x. x ++ flat_map text (kept_from test (a + 1) b)) (sym (append-nil (text a))))
    at false t = rw (first, t) refl

-- where the text for a voice was appended, the rest of the range is still to be written
pub voice_written : (test : ℕ → Bool) (text : ℕ → List ℕ) (before after whole : List ℕ) (a b : ℕ) → a < b
    → after ≡ before ++ flat_map text (filter test (a ∷ [])) → before ++ flat_map text (kept_from test a b) ≡ whole
    → after ++ flat_map text (kept_from test (a + 1) b) ≡ whole
voice_written test text before after whole a b h e so_far =
    ap (λ t. t ++ flat_map text (kept_from test (a + 1) b)) e
    ∙ append_assoc before (flat_map text (filter test (a ∷ []))) (flat_map text (kept_from test (a + 1) b))
    ∙ ap (λ t. before ++ t) (sym (kept_from-first test text a b h))
    ∙ so_far
