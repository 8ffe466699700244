-- The pool of a voice in a bar: which pitches, in which order, and key by key.
use Rattle.std.proofs.Common.{◌≡◌, ◌↔◌, inl, inr, ℕ, zero, suc, ◌+◌, ◌<◌, ◌≤◌, pos, ◌≤ℤ◌, ◌<ℤ◌, Bool, true, false, ◌&&◌, leb, List, [], ◌∷◌, length, filter, Option, Some, None, refl, ap, sym, ◌∙◌, arith, int_le}
use Rattle.std.specs.List.{All, AllPairs, Contains, cons_option, filter_map, range_with_len}
use Rattle.std.specs.Option.{option_map_or}
use Rattle.std.proofs.Math.Bool.{not, and-true, and-false}
use Rattle.std.proofs.lemmas.Bool.{and_parts, cases_eq}
use Rattle.std.proofs.lemmas.Bool.Decides.{nat_tests}
use Rattle.std.proofs.lemmas.Int.{ints}
use Rattle.std.proofs.lemmas.List.Elements.{All-nil, All-cons, All-filter, All-contains, All-weaker, filter_passes}
use Rattle.std.proofs.lemmas.List.Filters.{length-filter_both}
use Rattle.fux_pitch.specs.declared.pitch.Pitch.{Pitch}
use Rattle.fux_pitch.specs.Pitch.{key_of}
use Rattle.fux_pitch.specs.Modes.{is_in_gamut}
use Rattle.fux_pitch.specs.Spelling.{spelled}
use Rattle.fux_pitch.proofs.PitchLemmas.{key_of-number}
use Rattle.fux_pitch.proofs.SpellingLemmas.{spelled-own, key_of-spelled}
use Rattle.fux_grid.specs.declared.exercise.Exercise.{Exercise}
use Rattle.fux_grid.specs.Menus.{is_between, is_in_pool, is_in_range, pool_of, range_of}
use Rattle.fux_grid.proofs.Combinations.{AllPairs-cons, AllPairs-tail}

-- ---- lists

pub Contains-cons : {X : Type 0} (x : X) (xs : List X) (y : X) → Contains xs y → Contains (x ∷ xs) y
Contains-cons x xs y (k, h, e) = (suc k, omega arith, e)

Contains-filter : {X : Type 0} (p : X → Bool) (xs : List X) (x : X) → Contains xs x → p x ≡ true
    → Contains (filter p xs) x
Contains-filter p [] x (k, h, e) t = absurd (omega arith)
Contains-filter p (y ∷ ys) x (zero, h, e) t = let s : p y ≡ true = ap p e ∙ t in rw s (0, omega arith, e)
Contains-filter {X} p (y ∷ ys) x (suc k, h, e) t = by_test (p y) refl (Contains-filter p ys x (k, omega arith, e) t)
  where
    by_test : (b : Bool) → p y ≡ b → Contains (filter p ys) x → Contains (filter p (y ∷ ys)) x
    by_test true s below = rw s (Contains-cons y (filter p ys) x below)
    by_test false s below = rw s below

pub AllPairs-filter : {X : Type 0} (R : X → X → Type 0) (p : X → Bool) (xs : List X) → AllPairs R xs
    → AllPairs R (filter p xs)
AllPairs-filter R p [] h = h
AllPairs-filter {X} R p (x ∷ xs) h = by_test (p x) refl (AllPairs-filter R p xs (AllPairs-tail R x xs h))
  where
    by_test : (b : Bool) → p x ≡ b → AllPairs R (filter p xs) → AllPairs R (filter p (x ∷ xs))
    by_test true s below = rw s (AllPairs-cons R x (filter p xs)
        (All-filter p (R x) xs (λ k d b. h 0 (suc k) d (omega arith) (omega arith))) below)
    by_test false s below = rw s below

Contains-cons_option : {X : Type 0} (o : Option X) (xs : List X) (y : X) → Contains xs y → Contains (cons_option o xs) y
Contains-cons_option None xs y h = h
Contains-cons_option (Some x) xs y h = Contains-cons x xs y h

All-cons_option : {X : Type 0} (P : X → Type 0) (o : Option X) (xs : List X) → ((x : X) → o ≡ Some x → P x) → All P xs
    → All P (cons_option o xs)
All-cons_option P None xs f h = h
All-cons_option P (Some x) xs f h = All-cons P x xs (f x refl) h

AllPairs-cons_option : {X : Type 0} (R : X → X → Type 0) (o : Option X) (xs : List X)
    → ((x : X) → o ≡ Some x → All (R x) xs) → AllPairs R xs → AllPairs R (cons_option o xs)
AllPairs-cons_option R None xs f h = h
AllPairs-cons_option R (Some x) xs f h = AllPairs-cons R x xs (f x refl) h

-- ---- spelled keys

abbrev pitches_from : ℕ → ℕ → List Pitch
pitches_from key n = filter_map spelled (range_with_len key n)

pitches_from-contains : (key n k : ℕ) (p : Pitch) → key ≤ k → k < key + n → spelled k ≡ Some p
    → Contains (pitches_from key n) p
pitches_from-contains key zero k p h b e = absurd (omega arith)
pitches_from-contains key (suc n) k p h b e = elim (cases_eq key k) [
  | inl same ↦ let f : spelled key ≡ Some p = ap spelled same ∙ e in rw f (0, omega arith, refl)
  | inr other ↦ Contains-cons_option (spelled key) (pitches_from (key + 1) n) p
      (pitches_from-contains (key + 1) n k p (omega arith) (omega arith) e)
]

-- keys ascend
abbrev pub IsLower : Pitch → Pitch → Type 0
IsLower p q = key_of p <ℤ key_of q

pitches_from-above : (key n : ℕ) → All (λ q. pos key ≤ℤ key_of q) (pitches_from key n)
pitches_from-above key zero = All-nil _
pitches_from-above key (suc n) =
    All-cons_option (λ q. pos key ≤ℤ key_of q) (spelled key) (pitches_from (key + 1) n)
    (λ p e. let f : key_of p ≡ pos key = key_of-spelled key p e in rw f (omega (arith, ints)))
    (All-weaker (λ q. pos (key + 1) ≤ℤ key_of q) (λ q. pos key ≤ℤ key_of q) (λ q h. omega (arith, ints))
    (pitches_from (key + 1) n) (pitches_from-above (key + 1) n))

pitches_from-ascend : (key n : ℕ) → AllPairs IsLower (pitches_from key n)
pitches_from-ascend key zero = λ i j d a b. absurd (omega arith)
pitches_from-ascend key (suc n) =
    AllPairs-cons_option IsLower (spelled key) (pitches_from (key + 1) n)
    (λ p e. let f : key_of p ≡ pos key = key_of-spelled key p e in
    All-weaker (λ q. pos (key + 1) ≤ℤ key_of q) (IsLower p) (λ q h. rw f (omega (arith, ints)))
    (pitches_from (key + 1) n) (pitches_from-above (key + 1) n))
    (pitches_from-ascend (key + 1) n)

length-pitches_from : (key n : ℕ) → length (pitches_from key n) ≤ n
length-pitches_from key zero = omega arith
length-pitches_from key (suc n) = one_more (spelled key) (length-pitches_from (key + 1) n)
  where
    one_more : (o : Option Pitch) → length (pitches_from (key + 1) n) ≤ n
        → length (cons_option o (pitches_from (key + 1) n)) ≤ suc n
    one_more None h = omega arith
    one_more (Some p) h = omega arith

-- ---- the pool

-- exactly the pitches of the bar's gamut within the voice's range are in the pool
pub pool_of-contains : (ex : Exercise) (v bar : ℕ) (p : Pitch) → Contains (pool_of ex v bar) p
    ↔ (is_in_pool ex v bar p ≡ true)
unfolding pool_of
pool_of-contains ex v bar p =
    let spelt : is_in_gamut ex.mode bar ex.bars p ≡ true → Contains (pitches_from 24 73) p = λ h.
    let key = key_of-number p in
    pitches_from-contains 24 73 key.0 p key.2 (omega (arith, key.3)) (spelled-own ex.mode bar ex.bars p key.0 key.1 h) in (
      λ h. All-contains (λ q. is_in_pool ex v bar q ≡ true) (pool_of ex v bar) p
          (filter_passes (is_in_pool ex v bar) (pitches_from 24 73)) h,
      λ h. Contains-filter (is_in_pool ex v bar) (pitches_from 24 73) p
          (spelt (and_parts (is_in_gamut ex.mode bar ex.bars p) (is_in_range ex v bar p) h).0) h,
    )

-- its keys ascend, so that no two pitches of it have one key
pub pool_of-ascends : (ex : Exercise) (v bar : ℕ) → AllPairs IsLower (pool_of ex v bar)
unfolding pool_of
pool_of-ascends ex v bar =
    AllPairs-filter IsLower (is_in_pool ex v bar) (pitches_from 24 73) (pitches_from-ascend 24 73)

pub length-filter_le : {X : Type 0} (p : X → Bool) (xs : List X) → length (filter p xs) ≤ length xs
length-filter_le p xs = let both = length-filter_both p (λ x. not (p x)) (λ x. refl) xs in omega (arith, both)

pub length-pool_of : (ex : Exercise) (v bar : ℕ) → length (pool_of ex v bar) ≤ 73
unfolding pool_of
length-pool_of ex v bar =
    omega (arith, length-filter_le (is_in_pool ex v bar) (pitches_from 24 73), length-pitches_from 24 73)

-- ---- key by key

-- the pitches of the pool at so many keys from this one on
unfoldable pub pool_from : Exercise → ℕ → ℕ → ℕ → ℕ → List Pitch
pool_from ex v bar key n = filter (is_in_pool ex v bar) (pitches_from key n)

pub pool_from-all : (ex : Exercise) (v bar : ℕ) → pool_from ex v bar 24 73 ≡ pool_of ex v bar
unfolding pool_from pool_of
pool_from-all ex v bar = refl

-- a key that is spelled as a pitch of the pool
pub pool_from-more : (ex : Exercise) (v bar key n m : ℕ) (p : Pitch) → n ≡ suc m → spelled key ≡ Some p
    → is_in_pool ex v bar p ≡ true → pool_from ex v bar key n ≡ p ∷ pool_from ex v bar (key + 1) m
unfolding pool_from
pool_from-more ex v bar key n m p l e t = ap (pool_from ex v bar key) l ∙ (rw e (rw t refl))

-- any other key
pub pool_from-skip : (ex : Exercise) (v bar key n m : ℕ) → n ≡ suc m
    → ((p : Pitch) → spelled key ≡ Some p → is_in_pool ex v bar p ≡ false) → pool_from ex v bar key n
    ≡ pool_from ex v bar (key + 1) m
unfolding pool_from
pool_from-skip ex v bar key n m l f = ap (pool_from ex v bar key) l ∙ by_option (spelled key) f
  where
    by_option : (o : Option Pitch) → ((p : Pitch) → o ≡ Some p → is_in_pool ex v bar p ≡ false)
        → filter (is_in_pool ex v bar) (cons_option o (pitches_from (key + 1) m))
        ≡ filter (is_in_pool ex v bar) (pitches_from (key + 1) m)
    by_option None g = refl
    by_option (Some p) g = let t : is_in_pool ex v bar p ≡ false = g p refl in rw t refl

-- ---- the ends of a range

is_in_range-ends : (ex : Exercise) (v bar : ℕ) (ends : Pitch × Pitch) (p : Pitch) → range_of ex v bar ≡ Some ends
    → is_in_range ex v bar p ≡ is_between ends.0 ends.1 p
is_in_range-ends ex v bar ends p e = ap (λ o. option_map_or (λ ends. is_between ends.0 ends.1 p) o false) e

is_between-keys : (low high p : Pitch) (l h k : ℕ) → pos l ≡ key_of low → pos h ≡ key_of high → key_of p ≡ pos k
    → is_between low high p ≡ (leb l k && leb k h)
is_between-keys low high p l h k e f g =
    ap (λ z. int_le z (key_of p) && int_le (key_of p) (key_of high)) (sym e)
    ∙ ap (λ z. int_le (pos l) (key_of p) && int_le (key_of p) z) (sym f)
    ∙ ap (λ z. int_le (pos l) z && int_le z (pos h)) g

-- what is known of a range once its ends are
pub record HasEnds (ex : Exercise) (v bar l h : ℕ) : Type 0 where
  pub ends : Pitch × Pitch
  pub is : range_of ex v bar ≡ Some ends
  pub least : pos l ≡ key_of ends.0
  pub most : pos h ≡ key_of ends.1

is_in_range-key : (ex : Exercise) (v bar l h k : ℕ) (p : Pitch) → HasEnds ex v bar l h → spelled k ≡ Some p
    → is_in_range ex v bar p ≡ (leb l k && leb k h)
is_in_range-key ex v bar l h k p ends e = is_in_range-ends ex v bar ends.ends p ends.is
    ∙ is_between-keys ends.ends.0 ends.ends.1 p l h k ends.least ends.most (key_of-spelled k p e)

in_pool-in_range : (ex : Exercise) (v bar l h k : ℕ) (p : Pitch) → HasEnds ex v bar l h → spelled k ≡ Some p → l ≤ k
    → k ≤ h → is_in_pool ex v bar p ≡ is_in_gamut ex.mode bar ex.bars p
in_pool-in_range ex v bar l h k p ends e a b =
    let t : (leb l k && leb k h) ≡ true = grind (arith, nat_tests) in
    rw (is_in_range-key ex v bar l h k p ends e ∙ t) (and-true (is_in_gamut ex.mode bar ex.bars p))

in_pool-out_of_range : (ex : Exercise) (v bar l h k : ℕ) (p : Pitch) → HasEnds ex v bar l h → spelled k ≡ Some p
    → (leb l k && leb k h) ≡ false → is_in_pool ex v bar p ≡ false
in_pool-out_of_range ex v bar l h k p ends e t =
    rw (is_in_range-key ex v bar l h k p ends e ∙ t) (and-false (is_in_gamut ex.mode bar ex.bars p))

-- no pitch of the pool lies below the range
pub pool_from-low : (ex : Exercise) (v bar l h : ℕ) → HasEnds ex v bar l h → (d key n : ℕ) → key + d ≡ l
    → pool_from ex v bar key (d + n) ≡ pool_from ex v bar l n
pool_from-low ex v bar l h ends zero key n e = let same : key ≡ l = omega arith in let long : zero + n ≡ n = omega arith in
    ap (λ k. pool_from ex v bar k (zero + n)) same ∙ ap (pool_from ex v bar l) long
pool_from-low ex v bar l h ends (suc d) key n e =
    pool_from-skip ex v bar key (suc d + n) (d + n) (omega arith)
    (λ p s. in_pool-out_of_range ex v bar l h key p ends s (grind (arith, nat_tests)))
    ∙ pool_from-low ex v bar l h ends d (key + 1) n (omega arith)

-- nor above it
pub pool_from-high : (ex : Exercise) (v bar l h : ℕ) → HasEnds ex v bar l h → (n key : ℕ) → h < key
    → pool_from ex v bar key n ≡ []
unfolding pool_from
pool_from-high ex v bar l h ends zero key e = refl
pool_from-high ex v bar l h ends (suc n) key e =
    pool_from-skip ex v bar key (suc n) n refl
    (λ p s. in_pool-out_of_range ex v bar l h key p ends s (grind (arith, nat_tests)))
    ∙ pool_from-high ex v bar l h ends n (key + 1) (omega arith)

-- within it the pool takes what the gamut has
pub pool_from-pitch : (ex : Exercise) (v bar l h key n m : ℕ) (p : Pitch) → HasEnds ex v bar l h → n ≡ suc m → l ≤ key
    → key ≤ h → spelled key ≡ Some p → is_in_gamut ex.mode bar ex.bars p ≡ true → pool_from ex v bar key n ≡ p
    ∷ pool_from ex v bar (key + 1) m
pool_from-pitch ex v bar l h key n m p ends e a b s g =
    pool_from-more ex v bar key n m p e s (in_pool-in_range ex v bar l h key p ends s a b ∙ g)

pub pool_from-no_pitch : (ex : Exercise) (v bar l h key n m : ℕ) → HasEnds ex v bar l h → n ≡ suc m → l ≤ key → key ≤ h
    → ((p : Pitch) → spelled key ≡ Some p → is_in_gamut ex.mode bar ex.bars p ≡ false) → pool_from ex v bar key n
    ≡ pool_from ex v bar (key + 1) m
pool_from-no_pitch ex v bar l h key n m ends e a b f =
    pool_from-skip ex v bar key n m e (λ p s. in_pool-in_range ex v bar l h key p ends s a b ∙ f p s)
