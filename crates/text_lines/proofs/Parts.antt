-- The parts of a text between line feeds, and those of a line between blanks.
use Rattle.std.proofs.Common.{◌≡◌, ℕ, zero, suc, ◌+◌, ◌-◌, ◌<◌, ◌≤◌, Bool, true, false, List, [], ◌∷◌, length, get_or, take, drop, Some, None, inl, inr, drop-cons, refl, sym, ap, ◌∙◌, arith, subst}
use Rattle.std.specs.Prelude.{nat_lt, ◌==◌, not, if◌then◌else◌, unwrap_or}
use Rattle.std.specs.List.{slice_split, position, position_or_len}
use Rattle.std.specs.Str.Lines.{lines, lines_of_parts, strip_carriage_return}
use Rattle.std.proofs.lemmas.Bool.{ltb-false, cases_lt, not-false}
use Rattle.std.proofs.lemmas.List.{length-take-le, length-drop, take_all, drop_all, get_or-drop}
use Rattle.std.proofs.lemmas.List.Quantifiers.{position-Some}
use Rattle.std.proofs.lemmas.List.Sums.{fails_before_first, prefix_len-le-length, prefix_len_stops}
use Rattle.std.proofs.lemmas.List.Splits.{slice_split_none, slice_split_first, slice_split-cons_yes, length-slice_split}
use Rattle.text_lines.specs.Words.{PlacedWord, LineWords, first_word, is_blank, placed, with_piece, words_from}

found : (n m : ℕ) (b : Bool) (i : ℕ) → nat_lt n m ≡ b → (if b then Some n else None) ≡ Some i → (n ≡ i) × (n < m)
found n m true i e h = grind arith
found n m false i e h = grind arith

missing : (n m : ℕ) (b : Bool) → nat_lt n m ≡ b → (if b then Some n else None) ≡ None → m ≤ n
missing n m true e h = grind arith
missing n m false e h = ltb-false n m e

-- where an element passes, the first part ends before it
pub first_part : (p : ℕ → Bool) (xs : List ℕ) (i : ℕ) → position p xs ≡ Some i
    → slice_split p xs ≡ take i xs ∷ slice_split p (drop (i + 1) xs)
first_part p xs i h =
    let at = found (position_or_len p xs) (length xs) _ i refl h in
    slice_split_first p xs 0 at.1
    ∙ ap (λ n. take n xs ∷ slice_split p (drop (n + 1) xs)) at.0

-- where none passes, the list is the one part
pub one_part : (p : ℕ → Bool) (xs : List ℕ) → length xs ≤ position_or_len p xs → slice_split p xs ≡ xs ∷ []
one_part p xs h = slice_split_none p xs (λ k d lt. fails_before_first p xs k d (omega arith))

pub lines_of_parts-more : (x : List ℕ) (parts : List (List ℕ)) → 0 < length parts
    → lines_of_parts (x ∷ parts) ≡ strip_carriage_return x ∷ lines_of_parts parts
lines_of_parts-more x [] some = absurd (omega arith)
lines_of_parts-more x (y ∷ more) some = refl

-- the lines of a text in which there is a line feed
pub lines-first : (xs : List ℕ) (i : ℕ) → position (λ b. b == 10) xs ≡ Some i
    → lines xs ≡ strip_carriage_return (take i xs) ∷ lines (drop (i + 1) xs)
lines-first xs i h =
    ap lines_of_parts (first_part (λ b. b == 10) xs i h)
    ∙ lines_of_parts-more (take i xs) (slice_split (λ b. b == 10) (drop (i + 1) xs))
    (omega (arith, length-slice_split (λ b. b == 10) (drop (i + 1) xs)))

alone : (xs : List ℕ) → 0 < length xs → lines_of_parts (xs ∷ []) ≡ xs ∷ []
alone [] some = absurd (omega arith)
alone (x ∷ xs) some = grind arith

-- a text without a line feed is one line
pub lines-one : (xs : List ℕ) → 0 < length xs → position (λ b. b == 10) xs ≡ None → lines xs ≡ xs ∷ []
lines-one xs some h =
    ap lines_of_parts (one_part (λ b. b == 10) xs
    (missing (position_or_len (λ b. b == 10) xs) (length xs) _ refl h))
    ∙ alone xs some

-- bytes that aren't blank begin a word
abbrev pub is_inked : ℕ → Bool
is_inked b = not (is_blank b)

more_blanks : (b : Bool) (n rest : ℕ) → n + 1 ≤ (if not (not b) then 1 + rest else 0) → (b ≡ true) × (n ≤ rest)
more_blanks true n rest h = (refl, omega (arith, h))
more_blanks false n rest h = absurd (omega (arith, h))

after_blank : (line column x : ℕ) (xs : List ℕ) → is_blank x ≡ true
    → words_from line column (x ∷ xs) ≡ words_from line (column + 1) xs
unfolding words_from
after_blank line column x xs e =
    ap (λ ps. placed line column ps) (slice_split-cons_yes is_blank x xs e)
    ∙ ap (λ c. placed line c (slice_split is_blank xs)) (omega arith)

-- without such a byte there is no word
pub no_words : (line column : ℕ) (xs : List ℕ) → length xs ≤ position_or_len is_inked xs → words_from line column xs
    ≡ []
unfolding words_from
no_words line column [] h = refl
no_words line column (x ∷ xs) h =
    let step = more_blanks (is_blank x) (length xs) (position_or_len is_inked xs) (omega (arith, h)) in
    after_blank line column x xs step.0 ∙ no_words line (column + 1) xs step.1

-- bytes before the first one that isn't blank are passed over
pub skip : (line column start : ℕ) (xs : List ℕ) → start ≤ position_or_len is_inked xs
    → words_from line column xs ≡ words_from line (column + start) (drop start xs)
skip line column zero xs h = ap (λ c. words_from line c xs) (omega arith)
skip line column (suc n) [] h = absurd (omega (arith, h))
skip line column (suc n) (x ∷ xs) h =
    let step = more_blanks (is_blank x) n (position_or_len is_inked xs) (omega (arith, h)) in
    after_blank line column x xs step.0
    ∙ skip line (column + 1) n xs step.1
    ∙ ap (λ c. words_from line c (drop n xs)) (omega arith)

-- a word has bytes
with_piece-some : (line column : ℕ) (piece : List ℕ) (words : List PlacedWord) → 0 < length piece
    → with_piece line column piece words ≡ record { line = line; column = column; text = piece } ∷ words
with_piece-some line column [] words some = absurd (omega arith)
with_piece-some line column (b ∷ bs) words some = refl

-- a blank stands where the first part ends
blank_next : (line column : ℕ) (xs : List ℕ) → position_or_len is_blank xs < length xs
    → words_from line column (drop (position_or_len is_blank xs) xs)
    ≡ words_from line (column + 1) (drop (position_or_len is_blank xs + 1) xs)
blank_next line column xs lt =
    let k = position_or_len is_blank xs in
    let same : suc k ≡ k + 1 = omega arith in
    let split : drop k xs ≡ get_or xs k 0 ∷ drop (suc k) xs = drop-cons xs k 0 lt in
    ap (λ ys. words_from line column ys) split
    ∙ after_blank line column (get_or xs k 0) (drop (suc k) xs)
    (not-false _ (prefix_len_stops (λ b. not (is_blank b)) xs 0 lt))
    ∙ ap (λ n. words_from line (column + 1) (drop n xs)) same

first_piece : (line column : ℕ) (piece : List ℕ) (pieces : List (List ℕ)) (xs : List ℕ) → 0 < length piece
    → slice_split is_blank xs ≡ piece ∷ pieces
    → words_from line column xs
    ≡ record { line = line; column = column; text = piece } ∷ placed line (column + length piece + 1) pieces
unfolding words_from
first_piece line column piece pieces xs some e =
    ap (λ ps. placed line column ps) e ∙ with_piece-some line column piece _ some

-- the word at the front ends before the first blank
pub word_here : (line column : ℕ) (xs : List ℕ) → 0 < position_or_len is_blank xs
    → words_from line column xs ≡ record { line = line; column = column; text = take (position_or_len is_blank xs) xs }
    ∷ words_from line (column + position_or_len is_blank xs) (drop (position_or_len is_blank xs) xs)
unfolding words_from
word_here line column xs some = elim (cases_lt k (length xs)) [ inl lt ↦ inside lt | inr le ↦ whole le ]
  where
    k : ℕ
    k = position_or_len is_blank xs

    word : List ℕ → PlacedWord
    word text = record { line = line; column = column; text = text }

    inside : k < length xs → words_from line column xs ≡ word (take k xs) ∷ words_from line (column + k) (drop k xs)
    inside lt =
        let long : length (take k xs) ≡ k = length-take-le k xs (omega arith) in
        first_piece line column (take k xs) _ xs (omega arith) (slice_split_first is_blank xs 0 lt)
        ∙ ap (λ n. word (take k xs) ∷ placed line (column + n + 1) (slice_split is_blank (drop (k + 1) xs))) long
        ∙ ap (λ ws. word (take k xs) ∷ ws) (sym (blank_next line (column + k) xs lt))

    whole : length xs ≤ k → words_from line column xs ≡ word (take k xs) ∷ words_from line (column + k) (drop k xs)
    whole le =
        first_piece line column xs [] xs (omega (arith, prefix_len-le-length (λ b. not (is_blank b)) xs))
        (one_part is_blank xs le)
        ∙ ap (λ text. word text ∷ []) (sym (take_all k xs le))
        ∙ ap (λ rest. word (take k xs) ∷ words_from line (column + k) rest) (sym (drop_all k xs le))

-- where no byte is found, the word goes on to the end
pub end_of : (p : ℕ → Bool) (xs : List ℕ) → unwrap_or (position p xs) (length xs) ≡ position_or_len p xs
end_of p xs = by (nat_lt (position_or_len p xs) (length xs)) refl
  where
    by : (b : Bool) → nat_lt (position_or_len p xs) (length xs) ≡ b
        → unwrap_or (if b then Some (position_or_len p xs) else None) (length xs) ≡ position_or_len p xs
    by true e = refl
    by false e =
        let least : length xs ≤ position_or_len p xs = ltb-false _ _ e in
        omega (arith, least, prefix_len-le-length (λ b. not (p b)) xs)

-- where nothing is found, the place is beyond
pub beyond : (p : ℕ → Bool) (xs : List ℕ) → position p xs ≡ None → length xs ≤ position_or_len p xs
beyond p xs h = missing (position_or_len p xs) (length xs) _ refl h

-- what is found is the first place
pub at_first : (p : ℕ → Bool) (xs : List ℕ) (i : ℕ) → position p xs ≡ Some i → (position_or_len p xs ≡ i)
    × (i < length xs)
at_first p xs i h =
    let at = found (position_or_len p xs) (length xs) _ i refl h in
    (at.0, omega arith)

inked_end : (k : ℕ) (xs : List ℕ) → position_or_len is_blank xs ≡ k → 0 < length xs → is_inked (get_or xs 0 0) ≡ true
    → 0 < k
inked_end zero xs e some inked =
    let blank : is_blank (get_or xs 0 0) ≡ true =
    not-false _ (subst (λ n. not (is_blank (get_or xs n 0)) ≡ false) e
    (prefix_len_stops (λ b. not (is_blank b)) xs 0 (omega (arith, e)))) in
    absurd (grind (arith, blank, inked))
inked_end (suc k) xs e some inked = omega arith

-- where no word is left
pub first-none : (at : LineWords) → at.words ≡ [] → None ≡ first_word at
first-none at e = rw e refl

pub first-some : (at : LineWords) (w : PlacedWord) (ws : List PlacedWord) → at.words ≡ w ∷ ws
    → first_word at ≡ Some (w, record at { past = w.column + length w.text; words = ws })
first-some at w ws e = rw e refl

-- what is left of a line, as the program keeps it
abbrev pub left : ℕ → ℕ → List ℕ → LineWords
left line column rest =
    record { line = line; past = column; end = column + length rest; words = words_from line column rest }

-- the first word of what is left, and what is left behind it
pub word_found : (line column start : ℕ) (rest tail : List ℕ) (k : ℕ) → position is_inked rest ≡ Some start → tail
    ≡ drop start rest
    → k ≡ position_or_len is_blank tail
    → Some (
      record { line = line; column = column + start; text = take k tail },
      left line (column + start + k)
          (drop k tail),
    )
    ≡ first_word (left line column rest)
word_found line column start rest tail k at t e =
    let here = position-Some is_inked rest start 0 at in
    let first = at_first is_inked rest start at in
    let long : length tail ≡ length rest - start = ap length t ∙ length-drop start rest in
    let inked : is_inked (get_or tail 0 0)
    ≡ true = rw (t, get_or-drop start rest 0 0) (ap (λ n. is_inked (get_or rest n 0)) (omega arith) ∙ here.1) in
    let some : 0 < k = inked_end k tail (sym e) (omega arith) inked in
    let c : ℕ = column + start + k in
    let w : PlacedWord = record { line = line; column = column + start; text = take k tail } in
    let ws : List PlacedWord = words_from line c (drop k tail) in
    let within : k ≤ length tail = omega (arith, e, prefix_len-le-length (λ b. not (is_blank b)) tail) in
    let past : c ≡ column + start + length (take k tail) = omega (arith, length-take-le k tail within) in
    let end : c + length (drop k tail) ≡ column + length rest = omega (arith, length-drop k tail) in
    let words : words_from line column rest ≡ w ∷ ws =
    skip line column start rest (omega arith)
    ∙ ap (λ ys. words_from line (column + start) ys) (sym t)
    ∙ word_here line (column + start) tail (omega arith)
    ∙ ap (λ n. record { line = line; column = column + start; text = take n tail }
    ∷ words_from line (column + start + n) (drop n tail)) (sym e) in
    ap (λ p. Some (w, record { line = line; past = p; end = c + length (drop k tail); words = ws })) past
    ∙ ap (λ n. Some (w, record { line = line; past = w.column + length w.text; end = n; words = ws })) end
    ∙ sym (first-some (left line column rest) w ws words)
