-- A comment behind a note text changes nothing of what is read (`commented_text`): its lines are
-- those of the text, and then one that is skipped (`words_in-commented`).
use Rattle.std.proofs.Common.{◌≡◌, ℕ, zero, suc, ◌+◌, ◌-◌, ◌/◌, ◌%◌, ◌<◌, ◌≤◌, Bool, true, false, cond, List, [], ◌∷◌, ◌++◌, length, map, take, refl, ap, sym, ◌∙◌, append_assoc, arith, codes}
use Rattle.std.specs.Prelude.{◌==◌, ◌&&◌, nat_lt, not, slice_index, if◌then◌else◌}
use Rattle.std.specs.Fmt.{decimal, digit_glyph, digits, digits_onto}
use Rattle.std.specs.List.{AllByRecursion, join_with_byte, list_all, onto_first, slice_split}
use Rattle.std.specs.Str.{IsAscii}
use Rattle.std.specs.Str.Lines.{lines, lines_of_parts, strip_carriage_return}
use Rattle.std.proofs.lemmas.Bool.{and_parts, ne_eqb, not-true}
use Rattle.std.proofs.lemmas.Grind.{flat_map-append}
use Rattle.std.proofs.lemmas.List.Folds.{flat_map-map}
use Rattle.std.proofs.lemmas.List.Splits.{length-slice_split, slice_split-cons_no}
use Rattle.std.proofs.lemmas.Str.{IsAscii-append, IsUtf8-append, IsUtf8-from_ascii}
use Rattle.std.proofs.lemmas.Str.Ascii.{IsAscii-cons, IsAscii-nil}
use Rattle.fux_grid.specs.declared.cell.Cell.{Cell}
use Rattle.fux_grid.specs.declared.exercise.Exercise.{Exercise}
use Rattle.fux_text.specs.Lines.{exercise_lines, exercise_text, free_voices, setting_text, sing_text, sing_words}
use Rattle.fux_text.specs.Texts.{IsTextOf}
use Rattle.fux_text.specs.Words.{text_line, text_of, texts, words_in}
use Rattle.text_lines.specs.Lines.{is_skipped, line_words, lines_from, numbered}
use Rattle.text_lines.proofs.Parts.{lines_of_parts-more}
use Rattle.works.specs.Composed.{penalty_line}

-- ---- lines behind a line feed

onto_first-append : (x : ℕ) (ps qs : List (List ℕ)) → 0 < length ps → onto_first x (ps ++ qs) ≡ onto_first x ps ++ qs
onto_first-append x [] qs some = absurd (omega arith)
onto_first-append x (p ∷ ps) qs some = refl

split_feed : (xs ys : List ℕ) → slice_split (λ b. b == 10) (xs ++ 10 ∷ ys)
    ≡ slice_split (λ b. b == 10) xs ++ slice_split (λ b. b == 10) ys
split_feed [] ys = refl
split_feed (x ∷ xs) ys = by (x == 10) (split_feed xs ys) (omega (arith, length-slice_split (λ b. b == 10) xs))
  where
    by : (b : Bool) → slice_split (λ b. b == 10) (xs ++ 10 ∷ ys)
        ≡ slice_split (λ b. b == 10) xs ++ slice_split (λ b. b == 10) ys
        → 0 < length (slice_split (λ b. b == 10) xs)
        → cond b ([] ∷ slice_split (λ b. b == 10) (xs ++ 10 ∷ ys)) (onto_first x (slice_split (λ b. b == 10) (xs ++ 10 ∷ ys)))
        ≡ cond b ([] ∷ slice_split (λ b. b == 10) xs) (onto_first x (slice_split (λ b. b == 10) xs))
        ++ slice_split (λ b. b == 10) ys
    by true rest some = ap (λ parts. [] ∷ parts) rest
    by false rest some =
        ap (onto_first x) rest
        ∙ onto_first-append x (slice_split (λ b. b == 10) xs) (slice_split (λ b. b == 10) ys) some

parts-append : (ps qs : List (List ℕ)) → 0 < length qs
    → lines_of_parts (ps ++ qs) ≡ map strip_carriage_return ps ++ lines_of_parts qs
parts-append [] qs some = refl
parts-append (p ∷ []) qs some = lines_of_parts-more p qs some
parts-append (p ∷ q ∷ ps) qs some = ap (λ parts. strip_carriage_return p ∷ parts) (parts-append (q ∷ ps) qs some)

-- the lines of bytes through a line feed, and those behind it
lines_feed : (xs ys : List ℕ) → lines (xs ++ 10 ∷ ys) ≡ map strip_carriage_return (slice_split (λ b. b == 10) xs) ++ lines ys
lines_feed xs ys =
    ap lines_of_parts (split_feed xs ys)
    ∙ parts-append (slice_split (λ b. b == 10) xs) (slice_split (λ b. b == 10) ys)
    (omega (arith, length-slice_split (λ b. b == 10) ys))

-- lines of words, and those behind them
lines-behind : (ls : List (List (List ℕ))) (ys : List ℕ) → lines (text_of ls ++ ys) ≡ lines (text_of ls) ++ lines ys
lines-behind [] ys = refl
lines-behind (ws ∷ ls) ys =
    let line = join_with_byte 32 ws in
    let own = map strip_carriage_return (slice_split (λ b. b == 10) line) in
    ap lines
    (ap (λ bs. bs ++ ys) (append_assoc line (10 ∷ []) (text_of ls)) ∙ append_assoc line (10 ∷ text_of ls) ys)
    ∙ lines_feed line (text_of ls ++ ys) ∙ ap (λ more. own ++ more) (lines-behind ls ys)
    ∙ sym (append_assoc own (lines (text_of ls)) (lines ys))
    ∙ ap (λ all. all ++ lines ys)
    (sym (ap lines (append_assoc line (10 ∷ []) (text_of ls)) ∙ lines_feed line (text_of ls)))

-- a line that is skipped at the end gives nothing
numbered-skipped : (number : ℕ) (xss : List (List ℕ)) (last : List ℕ) → is_skipped last ≡ true
    → numbered number (xss ++ last ∷ []) ≡ numbered number xss
numbered-skipped number [] last skipped = rw skipped refl
numbered-skipped number (xs ∷ xss) last skipped =
    ap (λ more. if is_skipped xs then more else line_words number xs ∷ more)
    (numbered-skipped (number + 1) xss last skipped)

-- ---- the line of a penalty

-- a byte that ends no line, and is one of seven bits
abbrev IsInLine : ℕ → Type 0
IsInLine b = ((b == 10) ≡ false) × (b < 128)

in_line-digits : (k n : ℕ) (acc : List ℕ) → AllByRecursion IsInLine acc
    → AllByRecursion IsInLine (digits_onto k 10 false n acc)
in_line-digits zero n acc all = all
in_line-digits (suc k) n acc all =
    by (n / 10 == 0) (glyph (nat_lt (n % 10) 10)) (in_line-digits k (n / 10) (digit_glyph false (n % 10) ∷ acc))
  where
    small : n % 10 < 10
    small = omega arith

    glyph : (b : Bool) → IsInLine (if b then 48 + n % 10 else 87 + n % 10)
    glyph true = (ne_eqb (48 + n % 10) 10 (λ e. omega (arith, e)), omega (arith, small))
    glyph false = (ne_eqb (87 + n % 10) 10 (λ e. omega (arith, e)), omega (arith, small))

    by : (b : Bool) → IsInLine (digit_glyph false (n % 10))
        → (AllByRecursion IsInLine (digit_glyph false (n % 10) ∷ acc)
        → AllByRecursion IsInLine (digits_onto k 10 false (n / 10) (digit_glyph false (n % 10) ∷ acc)))
        → AllByRecursion IsInLine (if b then digit_glyph false (n % 10) ∷ acc
        else digits_onto k 10 false (n / 10) (digit_glyph false (n % 10) ∷ acc))
    by true first more = (first, all)
    by false first more = more (first, all)

in_line-decimal : (n : ℕ) → AllByRecursion IsInLine (decimal n)
unfolding digits
in_line-decimal n = in_line-digits 64 n [] tt

all_append : (xs ys : List ℕ) → AllByRecursion IsInLine xs → AllByRecursion IsInLine ys
    → AllByRecursion IsInLine (xs ++ ys)
all_append [] ys p q = q
all_append (x ∷ xs) ys p q = (p.0, all_append xs ys p.1 q)

-- the bytes of the line, but for its line feed
abbrev comment : ℕ → List ℕ
comment penalty = codes "; penalty " ++ decimal penalty

in_line-comment : (penalty : ℕ) → AllByRecursion IsInLine (comment penalty)
in_line-comment penalty = all_append (codes "; penalty ") (decimal penalty) (in_front (codes "; penalty ") refl) (in_line-decimal penalty)
  where
    in_front : (xs : List ℕ) → list_all (λ b. not (b == 10) && nat_lt b 128) xs ≡ true → AllByRecursion IsInLine xs
    in_front [] e = tt
    in_front (x ∷ xs) e =
        let p = and_parts (not (x == 10) && nat_lt x 128) (list_all (λ b. not (b == 10) && nat_lt b 128) xs) e in
        let q = and_parts (not (x == 10)) (nat_lt x 128) p.0 in
        ((not-true (x == 10) q.0, grind (arith, q.1)), in_front xs p.1)

no_feeds : (xs : List ℕ) → AllByRecursion IsInLine xs → slice_split (λ b. b == 10) xs ≡ xs ∷ []
no_feeds [] all = refl
no_feeds (x ∷ xs) all =
    slice_split-cons_no (λ b. b == 10) x xs all.0.0 ∙ ap (onto_first x) (no_feeds xs all.1)

ascii : (xs : List ℕ) → AllByRecursion IsInLine xs → IsAscii xs
ascii [] all = IsAscii-nil
ascii (x ∷ xs) all = IsAscii-cons x xs all.0.1 (ascii xs all.1)

lines-penalty_line : (penalty : ℕ) → lines (penalty_line penalty) ≡ strip_carriage_return (comment penalty) ∷ []
lines-penalty_line penalty =
    lines_feed (comment penalty) []
    ∙ ap (λ parts. map strip_carriage_return parts ++ []) (no_feeds (comment penalty) (in_line-comment penalty))

-- it is skipped
skipped-penalty_line : (penalty : ℕ) → is_skipped (strip_carriage_return (comment penalty)) ≡ true
skipped-penalty_line penalty =
    by (slice_index (comment penalty) (length (comment penalty) - 1) == 13)
  where
    taken : (n : ℕ) (bs : List ℕ) → is_skipped (take n (59 ∷ bs)) ≡ true
    taken zero bs = refl
    taken (suc n) bs = refl

    by : (b : Bool) → is_skipped (if b then take (length (comment penalty) - 1) (comment penalty) else comment penalty)
        ≡ true
    by true = taken (length (comment penalty) - 1) (codes " penalty " ++ decimal penalty)
    by false = refl

-- ---- texts

words_in-commented : (ls : List (List (List ℕ))) (penalty : ℕ)
    → words_in (text_of ls ++ penalty_line penalty) ≡ words_in (text_of ls)
unfolding lines_from words_in
words_in-commented ls penalty =
    ap (λ xss. map texts (numbered 1 xss))
    (lines-behind ls (penalty_line penalty) ∙ ap (λ more. lines (text_of ls) ++ more) (lines-penalty_line penalty))
    ∙ ap (map texts)
    (numbered-skipped 1 (lines (text_of ls)) (strip_carriage_return (comment penalty)) (skipped-penalty_line penalty))

setting_text-lines : (ex : Exercise) (columns : List (List Cell))
    → setting_text ex columns ≡ text_of (exercise_lines ex ++ map (λ v. sing_words v columns) (free_voices ex))
unfolding setting_text exercise_text sing_text
setting_text-lines ex columns =
    ap (λ more. text_of (exercise_lines ex) ++ more)
    (sym (flat_map-map text_line (λ v. sing_words v columns) (free_voices ex)))
    ∙ sym (flat_map-append text_line (exercise_lines ex) (map (λ v. sing_words v columns) (free_voices ex)))

pub commented_text : (ex other : Exercise) (columns : List (List Cell)) (penalty : ℕ)
    → IsTextOf (setting_text ex columns) other → length (setting_text ex columns ++ penalty_line penalty) ≤ 65536
    → IsTextOf (setting_text ex columns ++ penalty_line penalty) other
unfolding IsTextOf
commented_text ex other columns penalty t short =
    let ls = exercise_lines ex ++ map (λ v. sing_words v columns) (free_voices ex) in
    let text = setting_text-lines ex columns in
    record {
      short = short;
      utf8 =
          IsUtf8-append (setting_text ex columns) (penalty_line penalty) t.utf8
          (IsUtf8-from_ascii (penalty_line penalty)
          (IsAscii-append (comment penalty) (10 ∷ []) (ascii (comment penalty) (in_line-comment penalty))
          (IsAscii-cons 10 [] (omega arith) IsAscii-nil)));
      version = t.version;
      fixed = t.fixed;
      sung = t.sung;
      lines =
          ap (λ bs. words_in (bs ++ penalty_line penalty)) text ∙ words_in-commented ls penalty
          ∙ ap words_in (sym text) ∙ t.lines;
      newer = t.newer;
      given = t.given;
      unmixed = t.unmixed;
      valid = t.valid;
      setting = t.setting;
    }
