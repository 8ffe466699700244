-- The words of a line stand apart by spaces and tabs, and each has its column.
use Rattle.std.specs.Prelude.{ℕ, ◌+◌, ◌==◌, ◌||◌, Bool, List, [], ◌∷◌, Option, Some, None, length}
use Rattle.std.specs.List.{slice_split}
use Rattle.text_lines.specs.declared.places.Word.{Word}
use Rattle.text_lines.specs.declared.places.Words.{Words}

-- a word, the number of its line, and the column of its first byte
pub record PlacedWord : Type 0 where
  pub line : ℕ
  pub column : ℕ
  pub text : List ℕ

-- what is left of a line: its number, the column one past the words before, the column one past the
-- line, and the words left
pub record LineWords : Type 0 where
  pub line : ℕ
  pub past : ℕ
  pub end : ℕ
  pub words : List PlacedWord

-- a space or a tab
abbrev pub is_blank : ℕ → Bool
is_blank b = (b == 32) || (b == 9)

-- a piece is a word where it has bytes
abbrev pub with_piece : ℕ → ℕ → List ℕ → List PlacedWord → List PlacedWord
with_piece line column [] words = words
with_piece line column (b ∷ bs) words = record { line = line; column = column; text = b ∷ bs } ∷ words

-- the words among pieces between which stands one byte each
abbrev pub placed : ℕ → ℕ → List (List ℕ) → List PlacedWord
placed line column [] = []
placed line column (piece ∷ pieces) =
    with_piece line column piece (placed line (column + length piece + 1) pieces)

-- the words of bytes that stand in a line from a column on
unfoldable pub words_from : ℕ → ℕ → List ℕ → List PlacedWord
words_from line column bytes = placed line column (slice_split is_blank bytes)

-- the first word, and what is left of the line behind it
abbrev pub first_of : LineWords → List PlacedWord → Option (PlacedWord × LineWords)
first_of at [] = None
first_of at (w ∷ ws) = Some (w, record at { past = w.column + length w.text; words = ws })

abbrev pub first_word : LineWords → Option (PlacedWord × LineWords)
first_word at = first_of at at.words

-- a word of the program
abbrev pub word_of : Word → PlacedWord
word_of w = record { line = w.line; column = w.column; text = w.text.now }

-- what the program keeps of a line
abbrev pub words_of : Words → LineWords
words_of w = record {
  line = w.line;
  past = w.column;
  end = w.column + length w.rest.now;
  words = words_from w.line w.column w.rest.now;
}
