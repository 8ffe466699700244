-- Words and lines, piece by piece.
use Rattle.std.proofs.Common.{◌≡◌, ℕ, List, [], ◌∷◌, ◌++◌, sym, ap, ◌∙◌, append_assoc}
use Rattle.std.specs.List.{flat_map, join_with_byte}
use Rattle.std.proofs.lemmas.List.{append-nil}
use Rattle.fux_text.specs.Words.{text_line, spaced}

-- words that are joined: the first, and then each other one behind the byte
pub join_with_byte-cons : (c : ℕ) (word : List ℕ) (words : List (List ℕ)) → join_with_byte c (word ∷ words) ≡ word
    ++ flat_map (λ w. c ∷ w) words
join_with_byte-cons c word [] = sym (append-nil word)
join_with_byte-cons c word (next ∷ words) = ap (λ rest. word ++ (c ∷ rest)) (join_with_byte-cons c next words)

-- a line: its first word, the others behind a space each, and the line feed
pub text_line-cons : (word : List ℕ) (words : List (List ℕ)) → text_line (word ∷ words) ≡ word
    ++ (spaced words ++ 10 ∷ [])
text_line-cons word words =
    ap (λ joined. joined ++ 10 ∷ []) (join_with_byte-cons 32 word words) ∙ append_assoc word (spaced words) (10 ∷ [])

pub ruleset line_steps = (join_with_byte-cons, text_line-cons, append_assoc)
