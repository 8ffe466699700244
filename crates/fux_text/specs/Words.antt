-- The note text is a list of lines, and a line is a list of words.
use Rattle.std.specs.Prelude.{ℕ, List, [], ◌∷◌, ◌++◌, map}
use Rattle.std.specs.List.{flat_map, join_with_byte}
use Rattle.text_lines.specs.Lines.{lines_from}
use Rattle.text_lines.specs.Words.{LineWords}

-- a line: its words with one space between them, and a line feed
abbrev pub text_line : List (List ℕ) → List ℕ
text_line words = join_with_byte 32 words ++ 10 ∷ []

-- lines one after the other
abbrev pub text_of : List (List (List ℕ)) → List ℕ
text_of lines = flat_map text_line lines

-- words with a space before each
abbrev pub spaced : List (List ℕ) → List ℕ
spaced words = flat_map (λ word. 32 ∷ word) words

-- the words of a line that is read
abbrev pub texts : LineWords → List (List ℕ)
texts line = map (λ w. w.text) line.words

-- the words of the lines of a text, but for comments and lines without words
unfoldable pub words_in : List ℕ → List (List (List ℕ))
words_in bytes = map texts (lines_from 1 bytes)
