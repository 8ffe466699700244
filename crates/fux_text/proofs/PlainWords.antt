-- A text that is written of words has lines with these words in them (`words_in-own`).
use Rattle.std.proofs.Common.{◌≡◌, ℕ, ◌+◌, ◌-◌, ◌<◌, Bool, true, false, List, [], ◌∷◌, ◌++◌, get_or, length, map, refl, ap, ◌∙◌, append_assoc, arith}
use Rattle.std.specs.Prelude.{◌==◌, ◌&&◌, not, All, nat_lt, slice_index}
use Rattle.std.specs.List.{join_with_byte, list_all, slice_split}
use Rattle.std.specs.Str.{IsAscii, IsUtf8}
use Rattle.std.specs.Str.Lines.{lines, lines_of_parts, strip_carriage_return}
use Rattle.std.proofs.lemmas.Bool.{and_parts, and_from, not-true}
use Rattle.std.proofs.lemmas.List.Folds.{list_all-append}
use Rattle.std.proofs.lemmas.List.Splits.{length-slice_split, slice_split_at, slice_split_none}
use Rattle.std.proofs.lemmas.List.Sums.{AllPass-from_list_all}
use Rattle.std.proofs.lemmas.Str.{IsAscii-append, IsUtf8-from_ascii}
use Rattle.std.proofs.lemmas.Str.Ascii.{IsAscii-cons, IsAscii-from_all, IsAscii-nil}
use Rattle.text_lines.specs.Lines.{is_comment, is_skipped, line_words, lines_from, numbered}
use Rattle.text_lines.specs.Words.{is_blank, placed, words_from}
use Rattle.text_lines.proofs.Parts.{lines_of_parts-more}
use Rattle.fux_text.specs.Words.{texts, words_in, text_line, text_of}

-- a byte of a word: it is printed, and no blank
abbrev pub is_ink : ℕ → Bool
is_ink b = nat_lt 32 b && nat_lt b 127

abbrev pub is_word : List ℕ → Bool
is_word [] = false
is_word (b ∷ bs) = list_all is_ink (b ∷ bs)

-- words that make a line, and no comment
abbrev pub is_line : List (List ℕ) → Bool
is_line [] = false
is_line (w ∷ ws) = not (is_comment w) && list_all is_word (w ∷ ws)

-- a byte of a line
abbrev is_plain : ℕ → Bool
is_plain b = nat_lt 31 b && nat_lt b 127

plain_if_ink : (b : ℕ) → is_ink b ≡ true → is_plain b ≡ true
plain_if_ink b e = let p = and_parts (nat_lt 32 b) (nat_lt b 127) e in and_from (nat_lt 31 b) (nat_lt b 127)
    (grind (arith, p.0)) p.1

ink_no_blank : (b : ℕ) → is_ink b ≡ true → is_blank b ≡ false
ink_no_blank b e = let p = and_parts (nat_lt 32 b) (nat_lt b 127) e in grind (arith, p.0)

plain_no_end : (b : ℕ) → is_plain b ≡ true → (b == 10) ≡ false
plain_no_end b e = let p = and_parts (nat_lt 31 b) (nat_lt b 127) e in grind (arith, p.0)

plain_no_return : (b : ℕ) → is_plain b ≡ true → (b == 13) ≡ false
plain_no_return b e = let p = and_parts (nat_lt 31 b) (nat_lt b 127) e in grind (arith, p.0)

plain_ascii : (b : ℕ) → is_plain b ≡ true → b < 128
plain_ascii b e = let p = and_parts (nat_lt 31 b) (nat_lt b 127) e in grind (arith, p.1)

-- what holds of each byte that passes a test holds of all bytes of such a text
each : (test : ℕ → Bool) (P : ℕ → Type 0) (xs : List ℕ) → ((b : ℕ) → test b ≡ true → P b) → list_all test xs ≡ true
    → All P xs
each test P xs f e = λ k d lt. f (get_or xs k d) (AllPass-from_list_all test xs e k d lt)

all_plain : (xs : List ℕ) → list_all is_ink xs ≡ true → list_all is_plain xs ≡ true
all_plain [] e = refl
all_plain (b ∷ bs) e =
    let p = and_parts (is_ink b) (list_all is_ink bs) e in
    and_from (is_plain b) (list_all is_plain bs) (plain_if_ink b p.0) (all_plain bs p.1)

pub word_ink : (w : List ℕ) → is_word w ≡ true → list_all is_ink w ≡ true
word_ink [] e = absurd (grind (arith, e))
word_ink (b ∷ bs) e = e

words_plain : (ws : List (List ℕ)) → list_all is_word ws ≡ true → list_all is_plain (join_with_byte 32 ws) ≡ true
words_plain [] e = refl
words_plain (w ∷ []) e = all_plain w (word_ink w (and_parts (is_word w) true e).0)
words_plain (w ∷ next ∷ ws) e =
    let p = and_parts (is_word w) (list_all is_word (next ∷ ws)) e in
    list_all-append is_plain w (32 ∷ join_with_byte 32 (next ∷ ws))
    ∙ and_from (list_all is_plain w) (list_all is_plain (join_with_byte 32 (next ∷ ws))) (all_plain w (word_ink w p.0))
    (words_plain (next ∷ ws) p.1)

-- words that are joined by spaces split into these words again
words_split : (w : List ℕ) (ws : List (List ℕ)) → list_all is_word (w ∷ ws) ≡ true
    → slice_split is_blank (join_with_byte 32 (w ∷ ws)) ≡ w ∷ ws
words_split w [] e =
    slice_split_none is_blank w
    (each is_ink (λ b. is_blank b ≡ false) w ink_no_blank (word_ink w (and_parts (is_word w) true e).0))
words_split w (next ∷ ws) e =
    let p = and_parts (is_word w) (list_all is_word (next ∷ ws)) e in
    slice_split_at is_blank w 32 (join_with_byte 32 (next ∷ ws))
    (each is_ink (λ b. is_blank b ≡ false) w ink_no_blank (word_ink w p.0)) refl
    ∙ ap (λ parts. w ∷ parts) (words_split next ws p.1)

placed-own : (line column : ℕ) (ws : List (List ℕ)) → list_all is_word ws ≡ true
    → map (λ w. w.text) (placed line column ws) ≡ ws
placed-own line column [] e = refl
placed-own line column ([] ∷ ws) e = absurd (grind (arith, e))
placed-own line column ((b ∷ bs) ∷ ws) e =
    ap (λ more. (b ∷ bs) ∷ more)
    (placed-own line (column + length (b ∷ bs) + 1) ws (and_parts (is_word (b ∷ bs)) (list_all is_word ws) e).1)

words_from-own : (line : ℕ) (w : List ℕ) (ws : List (List ℕ)) → list_all is_word (w ∷ ws) ≡ true
    → map (λ x. x.text) (words_from line 1 (join_with_byte 32 (w ∷ ws))) ≡ w ∷ ws
unfolding words_from
words_from-own line w ws e =
    ap (λ parts. map (λ x. x.text) (placed line 1 parts)) (words_split w ws e) ∙ placed-own line 1 (w ∷ ws) e

-- a line is no comment and has words, so it isn't skipped
inked_kept : (b : ℕ) (bs : List ℕ) → not (b == 59) ≡ true → is_ink b ≡ true → is_skipped (b ∷ bs) ≡ false
inked_kept b bs n i = rw (not-true (b == 59) n, ink_no_blank b i) refl

line_kept : (w : List ℕ) (ws : List (List ℕ)) → not (is_comment w) ≡ true → is_word w ≡ true
    → is_skipped (join_with_byte 32 (w ∷ ws)) ≡ false
line_kept [] ws n e = absurd (grind (arith, e))
line_kept (b ∷ bs) [] n e = inked_kept b bs n (and_parts (is_ink b) (list_all is_ink bs) e).0
line_kept (b ∷ bs) (next ∷ ws) n e =
    inked_kept b (bs ++ 32 ∷ join_with_byte 32 (next ∷ ws)) n (and_parts (is_ink b) (list_all is_ink bs) e).0

-- lines that are written have these words
numbered-own : (number : ℕ) (ls : List (List (List ℕ))) → list_all is_line ls ≡ true
    → map texts (numbered number (map (join_with_byte 32) ls)) ≡ ls
numbered-own number [] e = refl
numbered-own number ([] ∷ ls) e = absurd (grind (arith, e))
numbered-own number ((w ∷ ws) ∷ ls) e =
    let p = and_parts (is_line (w ∷ ws)) (list_all is_line ls) e in
    let q = and_parts (not (is_comment w)) (list_all is_word (w ∷ ws)) p.0 in
    let r = and_parts (is_word w) (list_all is_word ws) q.1 in
    let kept : numbered number (map (join_with_byte 32) ((w ∷ ws) ∷ ls))
    ≡ line_words number (join_with_byte 32 (w ∷ ws)) ∷ numbered (number + 1) (map (join_with_byte 32) ls) =
    rw (line_kept w ws q.0 r.0) refl in
    ap (map texts) kept
    ∙ ap (λ first. first ∷ map texts (numbered (number + 1) (map (join_with_byte 32) ls)))
    (words_from-own number w ws q.1)
    ∙ ap (λ more. (w ∷ ws) ∷ more) (numbered-own (number + 1) ls p.1)

-- no carriage return ends a line
strip-plain : (xs : List ℕ) → list_all is_plain xs ≡ true → strip_carriage_return xs ≡ xs
strip-plain [] e = refl
strip-plain (b ∷ bs) e =
    let last : (slice_index (b ∷ bs) (length (b ∷ bs) - 1) == 13) ≡ false =
    each is_plain (λ c. (c == 13) ≡ false) (b ∷ bs) plain_no_return e (length (b ∷ bs) - 1) 0 (omega arith) in
    rw last refl

-- the first line, and the lines behind it
lines-first_own : (ws : List (List ℕ)) (rest : List ℕ) → list_all is_word ws ≡ true
    → lines (text_line ws ++ rest) ≡ join_with_byte 32 ws ∷ lines rest
lines-first_own ws rest e =
    let line = join_with_byte 32 ws in
    let plain = words_plain ws e in
    ap lines (append_assoc line (10 ∷ []) rest)
    ∙ ap lines_of_parts
    (slice_split_at (λ b. b == 10) line 10 rest (each is_plain (λ b. (b == 10) ≡ false) line plain_no_end plain) refl)
    ∙ lines_of_parts-more line (slice_split (λ b. b == 10) rest)
    (omega (arith, length-slice_split (λ b. b == 10) rest))
    ∙ ap (λ first. first ∷ lines rest) (strip-plain line plain)

line_words_of : (ws : List (List ℕ)) → is_line ws ≡ true → list_all is_word ws ≡ true
line_words_of [] e = refl
line_words_of (w ∷ ws) e = (and_parts (not (is_comment w)) (list_all is_word (w ∷ ws)) e).1

-- a text of lines splits at its line feeds into these lines
lines-own : (ls : List (List (List ℕ))) → list_all is_line ls ≡ true → lines (text_of ls) ≡ map (join_with_byte 32) ls
lines-own [] e = refl
lines-own (ws ∷ ls) e =
    let p = and_parts (is_line ws) (list_all is_line ls) e in
    lines-first_own ws (text_of ls) (line_words_of ws p.0)
    ∙ ap (λ more. join_with_byte 32 ws ∷ more) (lines-own ls p.1)

text-ascii : (ls : List (List (List ℕ))) → list_all is_line ls ≡ true → IsAscii (text_of ls)
text-ascii [] e = IsAscii-nil
text-ascii (ws ∷ ls) e =
    let p = and_parts (is_line ws) (list_all is_line ls) e in
    let line = join_with_byte 32 ws in
    IsAscii-append (text_line ws) (text_of ls)
    (IsAscii-append line (10 ∷ [])
    (IsAscii-from_all line (each is_plain (λ b. b < 128) line plain_ascii (words_plain ws (line_words_of ws p.0))))
    (IsAscii-cons 10 [] (omega arith) IsAscii-nil))
    (text-ascii ls p.1)

-- a text of lines is UTF-8, and has these lines with these words
pub text-utf8 : (ls : List (List (List ℕ))) → list_all is_line ls ≡ true → IsUtf8 (text_of ls)
text-utf8 ls e = IsUtf8-from_ascii (text_of ls) (text-ascii ls e)

pub words_in-own : (ls : List (List (List ℕ))) → list_all is_line ls ≡ true → words_in (text_of ls) ≡ ls
unfolding lines_from words_in
words_in-own ls e = ap (λ bytes. map texts (numbered 1 bytes)) (lines-own ls e) ∙ numbered-own 1 ls e
