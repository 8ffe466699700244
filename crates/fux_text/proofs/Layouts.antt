-- Words and the places at which they stand: a text is its words in some layout (`lines-laid`).
use Rattle.std.proofs.Common.{◌≡◌, ℕ, suc, List, [], ◌∷◌, get_or, map, refl, ap, ◌∙◌}
use Rattle.text_lines.specs.Lines.{TextLines}
use Rattle.text_lines.specs.Words.{LineWords, PlacedWord}
use Rattle.fux_text.specs.Words.{texts}

-- words at places
abbrev pub set_out : (ℕ → PlacedWord) → List (List ℕ) → List PlacedWord
set_out place [] = []
set_out place (w ∷ ws) =
    record { line = (place 0).line; column = (place 0).column; text = w } ∷ set_out (λ k. place (suc k)) ws

-- the words of a line that are left, whatever stood before them
abbrev pub at_words : ℕ → ℕ → ℕ → (ℕ → PlacedWord) → List (List ℕ) → LineWords
at_words line past end place ws = record { line = line; past = past; end = end; words = set_out place ws }

-- the places of a line's words
abbrev pub places_of : List PlacedWord → ℕ → PlacedWord
places_of ws k = get_or ws k (record { line = 0; column = 0; text = [] })

-- other words in the places of a line
abbrev pub laid : LineWords → List (List ℕ) → LineWords
laid l ws = at_words l.line l.past l.end (places_of l.words) ws

-- words in the places of lines
abbrev pub lines_at : (ℕ → LineWords) → List (List (List ℕ)) → List LineWords
lines_at lay [] = []
lines_at lay (ws ∷ lines) = laid (lay 0) ws ∷ lines_at (λ k. lay (suc k)) lines

-- a text of a line of such words and others
abbrev pub with_line : ℕ → LineWords → List (List ℕ) → List LineWords → TextLines
with_line after l ws others = record { after = after; lines = laid l ws ∷ others }

abbrev pub left : ℕ → List LineWords → TextLines
left after others = record { after = after; lines = others }

pub set_out-own : (ws : List PlacedWord) → set_out (places_of ws) (map (λ w. w.text) ws) ≡ ws
set_out-own [] = refl
set_out-own (w ∷ ws) = ap (λ more. w ∷ more) (set_out-own ws)

pub set_out-texts : (place : ℕ → PlacedWord) (ws : List (List ℕ)) → map (λ w. w.text) (set_out place ws) ≡ ws
set_out-texts place [] = refl
set_out-texts place (w ∷ ws) = ap (λ more. w ∷ more) (set_out-texts (λ k. place (suc k)) ws)

-- the layout of lines
abbrev pub layout_of : List LineWords → ℕ → LineWords
layout_of lines k = get_or lines k (record { line = 0; past = 0; end = 0; words = [] })

-- lines are their words in their layout
pub lines-laid : (lines : List LineWords) → lines_at (layout_of lines) (map texts lines) ≡ lines
lines-laid [] = refl
lines-laid (l ∷ lines) =
    ap (λ ws. record { line = l.line; past = l.past; end = l.end; words = ws } ∷ lines_at (layout_of lines)
    (map texts lines))
    (set_out-own l.words)
    ∙ ap (λ more. l ∷ more) (lines-laid lines)
