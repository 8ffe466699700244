-- The lines of a text that have words and are no comments, with their numbers.
use Rattle.std.specs.Prelude.{ℕ, ◌+◌, ◌==◌, ◌||◌, Bool, false, List, [], ◌∷◌, Option, Some, None, length, if◌then◌else◌}
use Rattle.std.specs.List.{list_all}
use Rattle.std.specs.Str.Lines.{lines}
use Rattle.text_lines.specs.declared.places.Lines.{Lines}
use Rattle.text_lines.specs.Words.{LineWords, is_blank, words_from}

-- lines that are left to be read, and the number of the line after the last one of the text
pub record TextLines : Type 0 where
  pub after : ℕ
  pub lines : List LineWords

-- a comment begins with `;` at once
abbrev pub is_comment : List ℕ → Bool
is_comment [] = false
is_comment (b ∷ bs) = b == 59

-- a line is skipped where it is a comment or has no words
abbrev pub is_skipped : List ℕ → Bool
is_skipped bytes = is_comment bytes || list_all is_blank bytes

-- a line with its words
abbrev pub line_words : ℕ → List ℕ → LineWords
line_words number bytes = record {
  line = number;
  past = 1;
  end = 1 + length bytes;
  words = words_from number 1 bytes;
}

-- the lines that aren't skipped, where the first of all has this number
abbrev pub numbered : ℕ → List (List ℕ) → List LineWords
numbered number [] = []
numbered number (bytes ∷ others) =
    if is_skipped bytes then numbered (number + 1) others
    else line_words number bytes ∷ numbered (number + 1) others

-- the same of bytes, whose lines end with a line feed, before which one carriage return is dropped
unfoldable pub lines_from : ℕ → List ℕ → List LineWords
lines_from number bytes = numbered number (lines bytes)

-- the lines of a text
abbrev pub lines_in : List ℕ → TextLines
lines_in bytes = record { after = 1 + length (lines bytes); lines = lines_from 1 bytes }

-- the first line, and those behind it
abbrev pub first_line_of : ℕ → List LineWords → Option (LineWords × TextLines)
first_line_of after [] = None
first_line_of after (line ∷ others) = Some (line, record { after = after; lines = others })

abbrev pub first_line : TextLines → Option (LineWords × TextLines)
first_line text = first_line_of text.after text.lines

-- what the program keeps of a text
abbrev pub lines_of : Lines → TextLines
lines_of l = record { after = l.after; lines = lines_from l.number l.rest.now }
