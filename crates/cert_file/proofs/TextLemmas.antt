-- The lines of claims read one way only (`same_line`), and begin no other line (`line_begins`,
-- `has_feed`).
use Rattle.std.proofs.Common.{◌≡◌, inl, inr, ℕ, List, [], ◌∷◌, ◌++◌, get_or, decimal, codes, refl, sym, ap, subst, ◌∙◌, arith, append_assoc, append-nil}
use Rattle.std.proofs.lemmas.Fmt.{decimal_injective}
use Rattle.std.proofs.lemmas.List.{append_cancel_left}
use Rattle.cert_file.specs.Readings.{Files, MayBe}
use Rattle.cert_text.specs.declared.claim.Claim.{Claim}
use Rattle.cert_text.specs.declared.claim.Claim.TheVariants.{Open, Broken, NoChain, Floor, TheScore}
use Rattle.cert_text.specs.Lines.{BeginsClaim, HasNoFeed, IsClaim, claim_line, claim_word, line_part}
use Rattle.cert_text.proofs.LineLemmas.{word_has_no_feed}
use Rattle.cert_text.proofs.PartLemmas.{line_part-goes}
use Rattle.fux_port.specs.Files.{HasFile, MayHave}

-- the first line feed splits bytes in one way
pub feed_splits : (xs ys us vs : List ℕ) → HasNoFeed xs → HasNoFeed us → xs ++ 10 ∷ ys ≡ us ++ 10 ∷ vs → (xs ≡ us)
    × (ys ≡ vs)
feed_splits [] ys [] vs p q e = (refl, cc)
feed_splits [] ys (u ∷ us) vs p q e = let feed : u ≡ 10 = cc in absurd (q.0 feed)
feed_splits (x ∷ xs) ys [] vs p q e = let feed : x ≡ 10 = cc in absurd (p.0 feed)
feed_splits (x ∷ xs) ys (u ∷ us) vs p q e =
    let first : x ≡ u = cc in
    let more : xs ++ 10 ∷ ys ≡ us ++ 10 ∷ vs = cc in
    let both = feed_splits xs ys us vs p.1 q.1 more in
    (ap (λ z. z ∷ xs) first ∙ ap (λ zs. u ∷ zs) both.0, both.1)

same_word : (c d : Claim) → IsClaim c → IsClaim d → claim_word c ≡ claim_word d → c ≡ d
same_word Open Open p q e = refl
same_word Open (Broken n) p q e = let no : 111 ≡ 98 = ap (λ xs. get_or xs 0 0) e in absurd (omega (arith, no))
same_word Open NoChain p q e = let no : 111 ≡ 120 = ap (λ xs. get_or xs 0 0) e in absurd (omega (arith, no))
same_word Open Floor p q e = let no : 111 ≡ 102 = ap (λ xs. get_or xs 0 0) e in absurd (omega (arith, no))
same_word Open TheScore p q e = let no : 111 ≡ 115 = ap (λ xs. get_or xs 0 0) e in absurd (omega (arith, no))
same_word (Broken m) Open p q e = let no : 98 ≡ 111 = ap (λ xs. get_or xs 0 0) e in absurd (omega (arith, no))
same_word (Broken m) (Broken n) p q e =
    let numbers : decimal m ≡ decimal n = append_cancel_left (codes "b ") (decimal m) (decimal n) e in
    ap (λ (k : ℕ). Broken k) (decimal_injective m n (omega (arith, p.1)) (omega (arith, q.1)) numbers)
same_word (Broken m) NoChain p q e = let no : 98 ≡ 120 = ap (λ xs. get_or xs 0 0) e in absurd (omega (arith, no))
same_word (Broken m) Floor p q e = let no : 98 ≡ 102 = ap (λ xs. get_or xs 0 0) e in absurd (omega (arith, no))
same_word (Broken m) TheScore p q e = let no : 98 ≡ 115 = ap (λ xs. get_or xs 0 0) e in absurd (omega (arith, no))
same_word NoChain Open p q e = let no : 120 ≡ 111 = ap (λ xs. get_or xs 0 0) e in absurd (omega (arith, no))
same_word NoChain (Broken n) p q e = let no : 120 ≡ 98 = ap (λ xs. get_or xs 0 0) e in absurd (omega (arith, no))
same_word NoChain NoChain p q e = refl
same_word NoChain Floor p q e = let no : 120 ≡ 102 = ap (λ xs. get_or xs 0 0) e in absurd (omega (arith, no))
same_word NoChain TheScore p q e = let no : 120 ≡ 115 = ap (λ xs. get_or xs 0 0) e in absurd (omega (arith, no))
same_word Floor Open p q e = let no : 102 ≡ 111 = ap (λ xs. get_or xs 0 0) e in absurd (omega (arith, no))
same_word Floor (Broken n) p q e = let no : 102 ≡ 98 = ap (λ xs. get_or xs 0 0) e in absurd (omega (arith, no))
same_word Floor NoChain p q e = let no : 102 ≡ 120 = ap (λ xs. get_or xs 0 0) e in absurd (omega (arith, no))
same_word Floor Floor p q e = refl
same_word Floor TheScore p q e = let no : 102 ≡ 115 = ap (λ xs. get_or xs 0 0) e in absurd (omega (arith, no))
same_word TheScore Open p q e = let no : 115 ≡ 111 = ap (λ xs. get_or xs 0 0) e in absurd (omega (arith, no))
same_word TheScore (Broken n) p q e = let no : 115 ≡ 98 = ap (λ xs. get_or xs 0 0) e in absurd (omega (arith, no))
same_word TheScore NoChain p q e = let no : 115 ≡ 120 = ap (λ xs. get_or xs 0 0) e in absurd (omega (arith, no))
same_word TheScore Floor p q e = let no : 115 ≡ 102 = ap (λ xs. get_or xs 0 0) e in absurd (omega (arith, no))
same_word TheScore TheScore p q e = refl

-- a claim's line, and what stands behind it
pub line_split : (c : Claim) (xs : List ℕ) → claim_line c ++ xs ≡ claim_word c ++ 10 ∷ xs
line_split c xs = append_assoc (claim_word c) (10 ∷ []) xs

pub same_line : (c d : Claim) (xs ys : List ℕ) → IsClaim c → IsClaim d → claim_line c ++ xs ≡ claim_line d ++ ys → (c ≡ d)
    × (xs ≡ ys)
same_line c d xs ys p q e =
    let both = feed_splits (claim_word c) xs (claim_word d) ys (word_has_no_feed c p) (word_has_no_feed d q)
    (sym (line_split c xs) ∙ e ∙ line_split d ys) in
    (same_word c d p q both.0, both.1)

-- the first line of bytes through a feed
pub first_line : (xs ys : List ℕ) → HasNoFeed xs → line_part (xs ++ 10 ∷ ys) ≡ xs ++ 10 ∷ []
first_line [] ys none = refl
first_line (x ∷ xs) ys none = line_part-goes x (xs ++ 10 ∷ ys) none.0 ∙ ap (λ zs. x ∷ zs) (first_line xs ys none.1)

pub has_feed : (xs ys : List ℕ) → HasNoFeed (xs ++ 10 ∷ ys) → ⊥
has_feed [] ys none = none.0 refl
has_feed (x ∷ xs) ys none = has_feed xs ys none.1

-- a claim's line begins one
pub line_begins : (c : Claim) (xs : List ℕ) → IsClaim c → BeginsClaim (line_part (claim_line c ++ xs))
line_begins c xs fits =
    subst BeginsClaim (sym (ap line_part (line_split c xs) ∙ first_line (claim_word c) xs (word_has_no_feed c fits)))
    record { claim = c; fits = fits; rest = []; whole = append-nil (claim_line c) }

-- what the file of a name may be, it is, where the shelf tells it
pub such_of : (files : Files) (name bytes : List ℕ) → HasFile files name bytes → (Such : List ℕ → Type 0)
    → MayBe files name Such
    → Such bytes
such_of files name bytes has Such known = at known.had
  where
    at : MayHave files name known.bytes → Such bytes
    at (inl untold) = cc
    at (inr other) = let same : known.bytes ≡ bytes = cc in subst Such same known.such
