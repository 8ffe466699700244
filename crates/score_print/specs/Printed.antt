-- The printed score: a line for each voice, the highest first.
use Rattle.std.specs.Prelude.{ℕ, zero, suc, ◌-◌, ◌*◌, ◌==◌, List, [], ◌++◌, false, if◌then◌else◌, max, reverse, replicate, chars, codes, encode_utf8}
use Rattle.std.specs.Fmt.{decimal}
use Rattle.std.specs.List.{flat_map, range_with_len}
use Rattle.unicode_width.specs.Width.{str_width}
use Rattle.fux_pitch.specs.declared.pitch.Pitch.{Pitch}
use Rattle.fux_pitch.specs.Names.{name_of}
use Rattle.fux_grid.specs.declared.exercise.Exercise.{Exercise}
use Rattle.fux_grid.specs.declared.given.Given.{Given}
use Rattle.fux_grid.specs.declared.given.Given.TheVariants.{Blank, Rest, Tied, Hold, Start}
use Rattle.score_print.specs.Shown.{shown_at}

-- `♯` is printed for `#` and `♭` for `b`
abbrev pub printed_char : ℕ → ℕ
printed_char c = if c == 35 then 0x266F else (if c == 98 then 0x266D else c)

-- the name of a pitch, with these signs
unfoldable pub printed_name : Pitch → List ℕ
printed_name p = flat_map (λ c. encode_utf8 (printed_char c)) (name_of p)

-- a name where a note starts, `-` where it goes on, `.` at a rest, and nothing where a cell is left
-- blank
abbrev pub printed_cell : Given → List ℕ
printed_cell Blank = []
printed_cell Rest = codes "."
printed_cell Tied = codes "-"
printed_cell (Hold p) = codes "-"
printed_cell (Start p) = printed_name p

-- how many columns of a terminal a cell takes
abbrev pub cell_width : Given → ℕ
cell_width cell = str_width false (chars (printed_cell cell))

-- the width of the widest cell of so many voices in a column
abbrev pub widest_cell : Exercise → ℕ → ℕ → ℕ
widest_cell ex i zero = 0
widest_cell ex i (suc v) = max (cell_width (shown_at ex i v)) (widest_cell ex i v)

-- a cell, filled with spaces to a width, and a space
unfoldable pub padded_cell : ℕ → Given → List ℕ
padded_cell width cell = printed_cell cell ++ replicate (width - cell_width cell) 32 ++ codes " "

-- the cell of a voice in a column, as wide as the widest cell there
abbrev pub printed_column : Exercise → ℕ → ℕ → List ℕ
printed_column ex v i = padded_cell (widest_cell ex i ex.voices) (shown_at ex i v)

-- so many columns of a bar of a voice, counted from 1
unfoldable pub printed_bar : Exercise → ℕ → ℕ → ℕ → List ℕ
printed_bar ex slots v bar =
    codes "| " ++ flat_map (printed_column ex v) (range_with_len (8 * (bar - 1)) slots)

-- the line of a voice: its number, these bars, and a last bar line
unfoldable pub printed_row : Exercise → ℕ → List ℕ → ℕ → List ℕ
printed_row ex slots bars v =
    decimal v ++ codes " " ++ flat_map (printed_bar ex slots v) bars ++ codes "|\n"

-- the lines of all voices, the highest first
abbrev pub printed_rows : Exercise → ℕ → List ℕ → List ℕ
printed_rows ex slots bars =
    flat_map (printed_row ex slots bars) (reverse (range_with_len 0 ex.voices))

-- the printed score of all bars, with all their columns
abbrev pub printed_sheet : Exercise → List ℕ
printed_sheet ex = printed_rows ex 8 (range_with_len 1 ex.bars)
