-- The text of an exercise and of a `sing` line, part by part.
use Rattle.std.proofs.Common.{◌≡◌, ℕ, zero, suc, ◌-◌, ◌/◌, ◌<◌, List, [], ◌∷◌, ◌++◌, map, length, codes, refl, ap, ◌∙◌, append_assoc, arith}
use Rattle.std.specs.Fmt.{decimal}
use Rattle.std.specs.List.{flat_map, range_with_len}
use Rattle.std.proofs.lemmas.List.Concat.{flat_map-append}
use Rattle.std.proofs.lemmas.Simd.{map-map}
use Rattle.fux_grid.specs.declared.cell.Cell.{Cell}
use Rattle.fux_grid.specs.declared.exercise.Exercise.{Exercise}
use Rattle.fux_grid.specs.Letters.{bar_columns}
use Rattle.fux_text.specs.Lines.{bar_words, bars_of, between_bar_lines, cantus_words, exercise_text, given_words, head_lines, lines_before_given, range_words, relax_words, sing_text, text_before_given, version_of, version_words}
use Rattle.fux_text.specs.Words.{text_line, text_of, spaced}
use Rattle.fux_text.proofs.WordLemmas.{text_line-cons}

-- what four calls appended
pub appended : (a b c d e x y z w : List ℕ) → b ≡ a ++ x → c ≡ b ++ y → d ≡ c ++ z → e ≡ d ++ w → e ≡ a
    ++ (x ++ (y ++ (z ++ w)))
appended a b c d e x y z w p q r s =
    s ∙ ap (λ t. t ++ w) (r ∙ ap (λ t. t ++ z) (q ∙ ap (λ t. t ++ y) p))
    ∙ append_assoc (a ++ x ++ y) z w ∙ append_assoc (a ++ x) y (z ++ w) ∙ append_assoc a x (y ++ (z ++ w))

-- the text of an exercise up to what it gives: the lines before the cantus, the cantus, the ranges
-- and the relax lines
pub text_before_given-parts : (ex : Exercise) → text_before_given ex
    ≡ text_of (version_words (version_of ex.given) ∷ head_lines ex)
    ++ (text_line (cantus_words ex) ++ (text_of (map range_words ex.ranges) ++ text_of (map relax_words ex.relax)))
unfolding text_before_given
text_before_given-parts ex =
    let head = version_words (version_of ex.given) ∷ head_lines ex in
    flat_map-append text_line (head ++ cantus_words ex ∷ map range_words ex.ranges) (map relax_words ex.relax)
    ∙ ap (λ t. t ++ text_of (map relax_words ex.relax))
    (flat_map-append text_line head (cantus_words ex ∷ map range_words ex.ranges))
    ∙ append_assoc (text_of head) (text_line (cantus_words ex) ++ text_of (map range_words ex.ranges))
    (text_of (map relax_words ex.relax))
    ∙ ap (λ t. text_of head ++ t)
    (append_assoc (text_line (cantus_words ex)) (text_of (map range_words ex.ranges))
    (text_of (map relax_words ex.relax)))

-- the text of an exercise: behind that, what it gives
pub exercise_text-parts : (ex : Exercise)
    → exercise_text ex ≡ text_before_given ex ++ text_of (map given_words ex.given)
unfolding exercise_text text_before_given
exercise_text-parts ex =
    flat_map-append text_line (lines_before_given (version_of ex.given) ex) (map given_words ex.given)

-- bars behind bar lines
spaced-bars : (f : ℕ → List (List ℕ)) (bars : List ℕ) → spaced (flat_map (λ other. codes "|" ∷ other) (map f bars))
    ≡ flat_map (λ bar. spaced (codes "|" ∷ f bar)) bars
spaced-bars f [] = refl
spaced-bars f (bar ∷ bars) =
    flat_map-append (λ word. 32 ∷ word) (codes "|" ∷ f bar) (flat_map (λ other. codes "|" ∷ other) (map f bars))
    ∙ ap (λ t. spaced (codes "|" ∷ f bar) ++ t) (spaced-bars f bars)

-- the words of bars, of which there is one at least
between_bar_lines-spaced : (f : ℕ → List (List ℕ)) (n : ℕ) → 0 < n
    → spaced (between_bar_lines (map f (range_with_len 1 n))) ≡ spaced (f 1)
    ++ flat_map (λ bar. spaced (codes "|" ∷ f bar)) (range_with_len 2 (n - 1))
between_bar_lines-spaced f zero h = absurd (omega arith)
between_bar_lines-spaced f (suc n) h =
    let less : suc n - 1 ≡ n = omega arith in
    rw less (flat_map-append (λ word. 32 ∷ word) (f 1)
    (flat_map (λ other. codes "|" ∷ other) (map f (range_with_len 2 n)))
    ∙ ap (λ t. spaced (f 1) ++ t) (spaced-bars f (range_with_len 2 n)))

-- a `sing` line: its voice, its first bar, its other bars, and the line feed
pub sing_text-parts : (v : ℕ) (columns : List (List Cell)) → 0 < length columns / 8
    → sing_text v columns ≡ (codes "sing " ++ decimal v)
    ++ (spaced (bar_words v (bar_columns columns 1))
    ++ (flat_map (λ bar. spaced (codes "|" ∷ bar_words v (bar_columns columns bar)))
    (range_with_len 2 (length columns / 8 - 1)) ++ 10 ∷ []))
unfolding sing_text
sing_text-parts v columns h =
    ap (λ text. codes "sing " ++ text) (
    text_line-cons (decimal v) (between_bar_lines (map words (bars_of columns)))
    ∙ ap (λ bars. decimal v ++ (spaced (between_bar_lines bars) ++ 10 ∷ []))
    (map-map words (bar_columns columns) (range_with_len 1 n))
    ∙ ap (λ text. decimal v ++ (text ++ 10 ∷ []))
    (between_bar_lines-spaced (λ bar. words (bar_columns columns bar)) n h)
    ∙ ap (λ text. decimal v ++ text) (append_assoc (spaced (words (bar_columns columns 1))) others (10 ∷ [])))
  where
    n : ℕ
    n = length columns / 8

    words : List (List Cell) → List (List ℕ)
    words = bar_words v

    others : List ℕ
    others = flat_map (λ bar. spaced (codes "|" ∷ words (bar_columns columns bar))) (range_with_len 2 (n - 1))
