-- A word that is written is read (`word-own`, `said-own`), and what is read is a word that is
-- written (`word-only`, `said-only`).
use Rattle.text_lines.specs.Faults.{◌>>=◌}
use Rattle.std.proofs.Common.{◌≡◌, ℕ, suc, ◌+◌, ◌<◌, Bool, true, false, List, [], ◌∷◌, ◌++◌, length, length-append, take, drop, get_or, Option, Some, None, option_map, Result, Ok, Err, refl, sym, ap, ◌∙◌, append_assoc, arith, if◌then◌else◌}
use Rattle.std.specs.Prelude.{◌==◌, ◌||◌, nat_lt}
use Rattle.std.specs.List.{join_with_byte, list_all, position, position_or_len}
use Rattle.std.specs.Option.{ok_or}
use Rattle.std.proofs.Math.ListN.{get_or-append}
use Rattle.std.proofs.Math.Seq.{drop-append-add, get_or-append_seam, take-append_seam}
use Rattle.std.proofs.lemmas.Bool.Decides.{nat_tests}
use Rattle.std.proofs.lemmas.List.{drop_more, take-append-drop}
use Rattle.std.proofs.lemmas.List.Quantifiers.{position-Some}
use Rattle.std.proofs.lemmas.List.Sums.{AllPass-from_list_all, position_or_len_is}
use Rattle.fux_text.proofs.PlainWords.{is_ink}
use Rattle.fux_text.specs.Words.{text_line}
use Rattle.price_check.specs.Reading.{Word, first_word, is_end, only_if, said, word_to}

-- ---- one step behind another

pub bound : {A B E : Type 0} (r : Result A E) (f : A → Result B E) (x : A) → r ≡ Ok x → (r >>= f) ≡ f x
bound r f x e = ap (λ q. q >>= f) e

-- both steps of two that end well
pub record AreSteps {A B E : Type 0} (r : Result A E) (f : A → Result B E) (y : B) : Type 0 where
  pub said : A
  pub first : r ≡ Ok said
  pub behind : f said ≡ Ok y

pub steps : {A B E : Type 0} (r : Result A E) (f : A → Result B E) (y : B) → (r >>= f) ≡ Ok y → AreSteps r f y
steps (Ok x) f y e = record { said = x; first = refl; behind = e }
steps (Err e') f y e = cc

-- pairs that are one
pub first_is : {A B : Type 0} {p q : A × B} → p ≡ q → p.0 ≡ q.0
first_is {A} {B} e = ap (λ (p : A × B). p.0) e

pub second_is : {A B : Type 0} {p q : A × B} → p ≡ q → p.1 ≡ q.1
second_is {A} {B} e = ap (λ (p : A × B). p.1) e

-- what holds where something is chosen
pub chosen : {A : Type 0} (holds : Bool) (x y : A) → only_if holds x ≡ Some y → (holds ≡ true) × (x ≡ y)
chosen true x y e = let same : x ≡ y = cc in (refl, same)
chosen false x y e = cc

pub choose : {A : Type 0} (holds : Bool) (x : A) → holds ≡ true → only_if holds x ≡ Some x
choose holds x e = ap (λ b. only_if b x) e

-- ---- the first word

ink_no_end : (b : ℕ) → is_ink b ≡ true → is_end b ≡ false
ink_no_end b e = grind (arith, nat_tests)

word_is : List ℕ → ℕ → List ℕ → Word
word_is text byte rest = record { text = text; ends = byte == 10; rest = rest }

-- a word of ink that ends with such a byte is the first word
pub word-own : (w : List ℕ) (t : ℕ) (rest : List ℕ) → list_all is_ink w ≡ true → is_end t ≡ true
    → first_word (w ++ t ∷ rest) ≡ Some (record { text = w; ends = t == 10; rest = rest })
unfolding first_word word_is
word-own w t rest ink end =
    let xs = w ++ t ∷ rest in
    let size : length xs ≡ length w + suc (length rest) = length-append w (t ∷ rest) in
    let at : position_or_len is_end xs ≡ length w =
    position_or_len_is is_end xs (length w) 0 (omega (arith, size))
    (λ k h. ap is_end (get_or-append w (t ∷ rest) 0 k h)
    ∙ ink_no_end (get_or w k 0) (AllPass-from_list_all is_ink w ink k 0 h))
    (λ h. ap is_end (get_or-append_seam w t rest 0) ∙ end) in
    let within : length w < length xs = omega (arith, size) in
    let test : nat_lt (length w) (length xs) ≡ true = grind (arith, nat_tests) in
    let found : position is_end xs ≡ Some (length w) =
    ap (λ n. if nat_lt n (length xs) then Some n else None) at ∙ ap (λ b. if b then Some (length w) else None) test in
    let behind : drop (length w + 1) xs ≡ rest = drop-append-add w (t ∷ rest) 1 in
    ap (option_map (word_to xs)) found
    ∙ ap Some (ap (λ a. word_is a (get_or xs (length w) 0) (drop (length w + 1) xs)) (take-append_seam w (t ∷ rest))
    ∙ ap (λ b. word_is w b (drop (length w + 1) xs)) (get_or-append_seam w t rest 0)
    ∙ ap (word_is w t) behind)

-- the byte that ends a word
abbrev pub end_byte : Bool → ℕ
end_byte ends = if ends then 10 else 32

end-is : (b : ℕ) → is_end b ≡ true → b ≡ end_byte (b == 10)
end-is b e = by (b == 10) refl e
  where
    by : (t : Bool) → (b == 10) ≡ t → ((b == 32) || t) ≡ true → b ≡ (if t then 10 else 32)
    by true f g = grind (arith, nat_tests)
    by false f g = at (b == 32) refl g
      where
        at : (s : Bool) → (b == 32) ≡ s → (s || false) ≡ true → b ≡ 32
        at true h i = grind (arith, nat_tests)
        at false h i = cc

-- the first word stands at the front, with the byte that ends it
pub word-only : (bytes : List ℕ) (w : Word) → first_word bytes ≡ Some w → bytes ≡ w.text ++ end_byte w.ends ∷ w.rest
unfolding first_word
word-only bytes w e = by (position is_end bytes) refl e
  where
    by : (o : Option ℕ) → position is_end bytes ≡ o → option_map (word_to bytes) o ≡ Some w
        → bytes ≡ w.text ++ end_byte w.ends ∷ w.rest
    by None f g = cc
    by (Some i) f g =
        let at = position-Some is_end bytes i 0 f in
        let same : word_to bytes i ≡ w = cc in
        let byte : get_or bytes i 0 ≡ end_byte (get_or bytes i 0 == 10) = end-is (get_or bytes i 0) at.1 in
        sym (take-append-drop i bytes)
        ∙ ap (λ r. take i bytes ++ r) (drop_more bytes i 0 at.0)
        ∙ ap (λ b. take i bytes ++ b ∷ drop (i + 1) bytes) byte
        ∙ ap (λ (v : Word). v.text ++ end_byte v.ends ∷ v.rest) same

-- ---- what it says

pub said-own : {A : Type 0} (says : Word → Option A) (w : List ℕ) (t : ℕ) (rest : List ℕ) (x : A)
    → list_all is_ink w ≡ true → is_end t ≡ true
    → says (record { text = w; ends = t == 10; rest = rest }) ≡ Some x → said says (w ++ t ∷ rest) ≡ Ok (x, rest)
unfolding said
said-own says w t rest x ink end e =
    let bytes = w ++ t ∷ rest in
    let word = word-own w t rest ink end in
    bound (ok_or (first_word bytes) (length bytes)) _ (record { text = w; ends = t == 10; rest = rest })
    (ap (λ o. ok_or o (length bytes)) word)
    ∙ ap (λ o. ok_or o (length bytes) >>= (λ y. Ok (y, rest))) e

-- what a word said that was read
pub record IsSaid {A : Type 0} (says : Word → Option A) (bytes : List ℕ) (x : A) (rest : List ℕ) : Type 0 where
  pub text : List ℕ
  pub ends : Bool
  pub says_so : says (record { text = text; ends = ends; rest = rest }) ≡ Some x
  pub stands : bytes ≡ text ++ end_byte ends ∷ rest

pub some_from : {A E : Type 0} (o : Option A) (e : E) (x : A) → ok_or o e ≡ Ok x → o ≡ Some x
some_from None e x h = cc
some_from (Some y) e x h = let same : y ≡ x = cc in ap (λ z. Some z) same

pub said-only : {A : Type 0} (says : Word → Option A) (bytes : List ℕ) (x : A) (rest : List ℕ)
    → said says bytes ≡ Ok (x, rest) → IsSaid says bytes x rest
unfolding said
said-only says bytes x rest e =
    let one = steps (ok_or (first_word bytes) (length bytes)) _ (x, rest) e in
    let two = steps (ok_or (says one.said) (length bytes)) _ (x, rest) one.behind in
    let same : (two.said, one.said.rest) ≡ (x, rest) = cc in
    let value : two.said ≡ x = first_is same in
    let left : one.said.rest ≡ rest = second_is same in
    let word = some_from (first_word bytes) (length bytes) one.said one.first in
    let own = some_from (says one.said) (length bytes) two.said two.first in
    record {
      text = one.said.text;
      ends = one.said.ends;
      says_so = ap (λ r. says (record { text = one.said.text; ends = one.said.ends; rest = r })) (sym left) ∙ own
          ∙ ap (λ y. Some y) value;
      stands = word-only bytes one.said word ∙ ap (λ r. one.said.text ++ end_byte one.said.ends ∷ r) left;
    }

-- ---- the words of a line

pub line-last : (w rest : List ℕ) → text_line (w ∷ []) ++ rest ≡ w ++ 10 ∷ rest
line-last w rest = append_assoc w (10 ∷ []) rest

pub line-more : (w v : List ℕ) (ws : List (List ℕ)) (rest : List ℕ)
    → text_line (w ∷ v ∷ ws) ++ rest ≡ w ++ 32 ∷ (text_line (v ∷ ws) ++ rest)
line-more w v ws rest =
    append_assoc (w ++ 32 ∷ join_with_byte 32 (v ∷ ws)) (10 ∷ []) rest
    ∙ append_assoc w (32 ∷ join_with_byte 32 (v ∷ ws)) (10 ∷ rest)
    ∙ ap (λ r. w ++ 32 ∷ r) (sym (append_assoc (join_with_byte 32 (v ∷ ws)) (10 ∷ []) rest))
