-- A line of a text with a caret below one of its places.
use Rattle.std.specs.Prelude.{ℕ, zero, suc, ◌-◌, ◌==◌, ◌||◌, Bool, false, not, List, [], ◌∷◌, ◌++◌, chars, drop, length, map, replicate, take, nat_lt, if◌then◌else◌}
use Rattle.std.specs.List.{after_first, before_first, position_or_len}
use Rattle.std.specs.Str.{is_utf8}
use Rattle.text_lines.specs.Words.{is_blank}
use Rattle.unicode_width.specs.Width.{str_width}

-- a line feed
abbrev pub is_feed : ℕ → Bool
is_feed b = b == 10

-- what stands from the first byte that is no blank on
abbrev pub is_inked : ℕ → Bool
is_inked b = not (is_blank b)

unfoldable pub from_ink : List ℕ → List ℕ
from_ink line = drop (position_or_len is_inked line) line

-- what stands behind so many line feeds
abbrev pub behind_feeds : ℕ → List ℕ → List ℕ
behind_feeds zero bytes = bytes
behind_feeds (suc n) bytes = behind_feeds n (after_first is_feed bytes)

-- the line of a number, counted from 1
unfoldable pub line_at : ℕ → List ℕ → List ℕ
line_at number bytes = before_first is_feed (behind_feeds (number - 1) bytes)

-- a byte of a line as it is shown: a space for a control character, so that each takes one column
abbrev pub shown_byte : ℕ → ℕ
shown_byte b = if nat_lt b 32 || (b == 127) then 32 else b

-- how many columns of a terminal bytes take: those of their text, or one for each byte where they
-- are no UTF-8
unfoldable pub columns_of : List ℕ → ℕ
columns_of bytes = if is_utf8 bytes then str_width false (chars bytes) else length bytes

-- a row with a caret below a column of a line, as a terminal shows it
unfoldable pub caret_row : List ℕ → List ℕ
caret_row before = replicate (columns_of before) 32 ++ 94 ∷ 10 ∷ []

-- a line, and the caret below it; nothing of an empty line
abbrev pub marked_line : ℕ → List ℕ → List ℕ
marked_line column [] = []
marked_line column (b ∷ bs) = map shown_byte (b ∷ bs) ++ 10 ∷ caret_row (take (column - 1) (b ∷ bs))
