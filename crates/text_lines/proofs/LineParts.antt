-- The lines that are left of a text.
use Rattle.std.proofs.Common.{◌≡◌, ℕ, ◌+◌, true, false, List, [], ◌∷◌, length, Some, None, refl, sym, ap, ◌∙◌, arith}
use Rattle.std.specs.Prelude.{◌==◌}
use Rattle.std.specs.Str.Lines.{lines}
use Rattle.text_lines.specs.Lines.{first_line, is_skipped, line_words, lines_from, numbered}

kept : (number : ℕ) (line : List ℕ) (others : List (List ℕ)) → is_skipped line ≡ false
    → numbered number (line ∷ others) ≡ line_words number line ∷ numbered (number + 1) others
kept number line others e = rw e refl

-- a line that isn't skipped is the next one
pub line_found : (after n n' : ℕ) (rest rest' line behind : List ℕ) → numbered n (lines rest)
    ≡ numbered n' (lines rest')
    → lines rest ≡ line ∷ lines behind → is_skipped line ≡ false
    → Some (line_words n line, record { after = after; lines = lines_from (n + 1) behind })
    ≡ first_line (record { after = after; lines = lines_from n' rest' })
unfolding lines_from
line_found after n n' rest rest' line behind so_far split counts =
    let e : numbered n' (lines rest') ≡ line_words n line ∷ numbered (n + 1) (lines behind) =
    sym so_far ∙ ap (numbered n) split ∙ kept n line (lines behind) counts in
    rw e refl

-- where the text is used up, no line is left
pub no_line_found : (after n n' : ℕ) (rest rest' : List ℕ) → numbered n (lines rest) ≡ numbered n' (lines rest')
    → (length rest == 0) ≡ true → None ≡ first_line (record { after = after; lines = lines_from n' rest' })
unfolding lines_from
no_line_found after n n' [] rest' so_far empty = rw (sym so_far) refl
no_line_found after n n' (b ∷ bs) rest' so_far empty = absurd (grind arith)
