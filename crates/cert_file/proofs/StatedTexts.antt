-- Lines that state something read one way only (`same_potential`, `same_entries`), and a line that
-- is owed is neither wrong nor unended (`owed_not_wrong`, `owed_not_unended`); no line is both
-- (`wrong_not_unended`).
use Rattle.std.proofs.Common.{◌≡◌, ℕ, suc, ◌+◌, ◌<◌, ◌≤◌, Bool, true, false, List, [], ◌∷◌, ◌++◌, length, get_or, decimal, codes, refl, sym, ap, subst, ◌∙◌, arith, append_assoc, append-nil}
use Rattle.std.specs.List.{AllByRecursion, flat_map}
use Rattle.std.proofs.lemmas.Fmt.{decimal_injective}
use Rattle.std.proofs.lemmas.List.{append_cancel_left}
use Rattle.cert_text.specs.declared.potential.Potential.{Potential}
use Rattle.cert_text.specs.declared.potential.Potential.TheVariants.{Least, NoChain}
use Rattle.cert_text.specs.declared.stated_line.StatedLine.TheVariants as lines
use Rattle.cert_text.specs.Lines.{HasNoFeed, line_part}
use Rattle.cert_text.specs.Potentials.{BeginsOwed, IsOwedLine, IsPotential, potential_line, potential_word}
use Rattle.cert_text.proofs.StatedLemmas.{stated_has_no_feed}
use Rattle.cert_file.specs.Readings.{BeginsLine, IsUnendedLine, IsWrongLine, Owed, Stated}
use Rattle.cert_file.proofs.LineLemmas.{line_part-unended}
use Rattle.cert_file.proofs.TextLemmas.{feed_splits, first_line, has_feed}

-- ---- potentials

has_no_feed : (p : Potential) → IsPotential p → HasNoFeed (potential_word p)
has_no_feed (Least n) fits = stated_has_no_feed (lines.Number n) fits
has_no_feed NoChain fits = stated_has_no_feed lines.NoChain tt

same_word : (p q : Potential) → IsPotential p → IsPotential q → potential_word p ≡ potential_word q → p ≡ q
same_word (Least m) (Least n) f g e =
    let numbers : decimal m ≡ decimal n = append_cancel_left (codes "p ") (decimal m) (decimal n) e in
    ap (λ (k : ℕ). Least k) (decimal_injective m n (omega (arith, f)) (omega (arith, g)) numbers)
same_word (Least m) NoChain f g e = let no : 112 ≡ 110 = ap (λ xs. get_or xs 0 0) e in absurd (omega (arith, no))
same_word NoChain (Least n) f g e = let no : 110 ≡ 112 = ap (λ xs. get_or xs 0 0) e in absurd (omega (arith, no))
same_word NoChain NoChain f g e = refl

-- a potential's line, and what stands behind it
line_split : (p : Potential) (xs : List ℕ) → potential_line p ++ xs ≡ potential_word p ++ 10 ∷ xs
line_split p xs = append_assoc (potential_word p) (10 ∷ []) xs

pub same_potential : (p q : Potential) (xs ys : List ℕ) → IsPotential p → IsPotential q
    → potential_line p ++ xs ≡ potential_line q ++ ys → (p ≡ q) × (xs ≡ ys)
same_potential p q xs ys f g e =
    let both = feed_splits (potential_word p) xs (potential_word q) ys (has_no_feed p f) (has_no_feed q g)
    (sym (line_split p xs) ∙ e ∙ line_split q ys) in
    (same_word p q f g both.0, both.1)

-- no potential's line stands first
abbrev pub HasNoPotential : List ℕ → Type 0
HasNoPotential xs = (p : Potential) (more : List ℕ) → IsPotential p → xs ≡ potential_line p ++ more → ⊥

-- the lines of entries of which there are to be so many, where behind fewer none more stands
pub same_entries : (count at : ℕ) (es fs : List Potential) (xs ys : List ℕ) → AllByRecursion IsPotential es
    → AllByRecursion IsPotential fs → at + length es ≤ count → at + length fs ≤ count
    → (at + length es < count → HasNoPotential xs) → (at + length fs < count → HasNoPotential ys)
    → flat_map potential_line es ++ xs ≡ flat_map potential_line fs ++ ys → (es ≡ fs) × (xs ≡ ys)
same_entries count at [] [] xs ys f g few also none nor e = (refl, e)
same_entries count at [] (q ∷ fs) xs ys f g few also none nor e =
    absurd (none (omega (arith, also)) q (flat_map potential_line fs ++ ys) g.0
    (e ∙ append_assoc (potential_line q) (flat_map potential_line fs) ys))
same_entries count at (p ∷ es) [] xs ys f g few also none nor e =
    absurd (nor (omega (arith, few)) p (flat_map potential_line es ++ xs) f.0
    (sym e ∙ append_assoc (potential_line p) (flat_map potential_line es) xs))
same_entries count at (p ∷ es) (q ∷ fs) xs ys f g few also none nor e =
    let both = same_potential p q (flat_map potential_line es ++ xs) (flat_map potential_line fs ++ ys) f.0 g.0
    (sym (append_assoc (potential_line p) (flat_map potential_line es) xs) ∙ e
    ∙ append_assoc (potential_line q) (flat_map potential_line fs) ys) in
    let more = same_entries count (suc at) es fs xs ys f.1 g.1 (omega (arith, few)) (omega (arith, also))
    (λ less. none (omega (arith, less))) (λ less. nor (omega (arith, less))) both.1 in
    (ap (λ (k : Potential). k ∷ es) both.0 ∙ ap (λ (ks : List Potential). q ∷ ks) more.0, more.1)

-- ---- lines that are owed

-- what stands before its line feed
record HasWord (line : List ℕ) : Type 0 where
  pub word : List ℕ
  pub unended : HasNoFeed word
  pub is : line ≡ word ++ 10 ∷ []

word_of : (b : Bool) (line : List ℕ) → IsOwedLine b line → HasWord line
word_of true line owed = record { word = potential_word owed.0; unended = has_no_feed owed.0 owed.1; is = owed.2 }
word_of false line owed = record { word = codes "claims"; unended = stated_has_no_feed (lines.Claims 6) (omega arith); is = owed }

module _ (b : Bool) (line more : List ℕ) (owed : IsOwedLine b line) where
  has : HasWord line
  has = word_of b line owed

  split : line ++ more ≡ has.word ++ 10 ∷ more
  split = ap (λ xs. xs ++ more) has.is ∙ append_assoc has.word (10 ∷ []) more

  pub owed_not_wrong : IsWrongLine (Stated b) (line ++ more) → ⊥
  owed_not_wrong wrong =
      wrong (subst (BeginsOwed b) (has.is ∙ sym (first_line has.word more has.unended) ∙ ap line_part (sym split)) record {
        rest = [];
        whole = subst (IsOwedLine b) (sym (append-nil line)) owed;
      })

  pub owed_not_unended : IsUnendedLine (Stated b) (line ++ more) → ⊥
  owed_not_unended begun = has_feed has.word more (subst HasNoFeed split begun.unended)

pub wrong_not_unended : (owed : Owed) (rest : List ℕ) → IsWrongLine owed rest → IsUnendedLine owed rest → ⊥
wrong_not_unended owed rest wrong begun =
    wrong (subst (BeginsLine owed) (sym (line_part-unended rest begun.unended)) begun.begins)
