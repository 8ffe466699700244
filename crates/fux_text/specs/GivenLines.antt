-- The `given` lines, as rows.
use Rattle.text_lines.specs.Faults.{◌>>=◌}
use Rattle.std.specs.Prelude.{ℕ, ◌-◌, ◌==◌, ◌&&◌, ◌||◌, not, Bool, true, false, List, [], ◌∷◌, ◌++◌, Option, Some, None, Result, Ok, Err, codes, length, nat_lt, option_map, replicate, if◌then◌else◌}
use Rattle.std.specs.List.{list_all}
use Rattle.std.specs.Option.{ok_or, option_and_then}
use Rattle.fux_grid.specs.declared.exercise.Exercise.{Exercise}
use Rattle.fux_grid.specs.declared.given.Given.{Given}
use Rattle.fux_grid.specs.declared.given.Given.TheVariants.{Blank, Rest, Tied, Hold, Start}
use Rattle.fux_grid.specs.declared.given.GivenBar.{GivenBar}
use Rattle.fux_text.specs.declared.fault.TextKind.{TextKind}
use Rattle.fux_text.specs.declared.fault.TextKind.TheVariants as kinds
use Rattle.text_lines.specs.Numbers.{if_within, number_within}
use Rattle.text_lines.specs.Reading.{same_text}
use Rattle.text_lines.specs.Rows.{Row, Run, named_place, refused_if}
use Rattle.text_lines.specs.Tables.{Many}
use Rattle.fux_text.specs.declared.item_words.ItemName.{ItemName}
use Rattle.fux_text.specs.declared.item_words.ItemName.TheVariants as names
use Rattle.fux_text.specs.Head.{other_voice}
use Rattle.fux_text.specs.Limits.{newest_version}
use Rattle.fux_text.specs.Sing.{item_named, item_parts}

-- ---- items

-- what the first cell of an item gives
abbrev pub given_of_name : ItemName → Given
given_of_name names.Silence = Rest
given_of_name names.Tie = Tied
given_of_name (names.Note p) = Start p

-- `?` gives nothing, and else a name gives what it is in a `sing` line
unfoldable pub given_named : List ℕ → Option Given
given_named text = if same_text text (codes "?") then Some Blank else option_map given_of_name (item_named text)

-- what goes on with a cell that is given
abbrev pub given_held : Given → Given
given_held Blank = Blank
given_held Rest = Rest
given_held Tied = Tied
given_held (Hold p) = Hold p
given_held (Start p) = Hold p

-- the cells of an item
abbrev pub given_cells : Given → ℕ → List Given
given_cells first count = first ∷ replicate (count - 1) (given_held first)

-- something goes on
abbrev pub is_tied : Given → Bool
is_tied Blank = false
is_tied Rest = false
is_tied Tied = true
is_tied (Hold p) = true
is_tied (Start p) = false

-- an item behind these cells: its first cell, and how many it has; or what is wrong with it, of
-- several faults the first. A tie goes on from the bar before, whatever sounded there, so it is the
-- first item
unfoldable pub given_said : List Given → List ℕ → Result (Given × ℕ) TextKind
given_said cells text = do
  parts ← ok_or (item_parts text) kinds.Word
  first ← ok_or (given_named parts.0) kinds.Pitch
  count ← ok_or (if_within 1 8 parts.1) kinds.Length
  tie ← refused_if (is_tied first && not (length cells == 0)) kinds.Tie
  Ok (first, count)

-- a word of a `given` line: the cells so far. A bar line has no place in it
unfoldable pub word_given : List Given → List ℕ → Result (List Given) TextKind
word_given cells text = if same_text text (codes "|") then Err kinds.BarLine else (do
  item ← given_said cells text
  Ok (cells ++ given_cells item.0 item.1))

-- ---- lines

-- the end of the line of a bar: its eight slots are filled
unfoldable pub end_given : ℕ → ℕ → List Given → Result GivenBar TextKind
end_given v bar cells = do
  full ← refused_if (not (length cells == 8)) kinds.Length
  Ok (record { voice = v; bar = bar; cells = cells })

-- the items of a bar
abbrev pub given_run : ℕ → ℕ → Run TextKind (List Given) GivenBar
given_run v bar = record { word = word_given; end = end_given v bar }

-- each of these lines is of a lower voice, or of an earlier bar of this one
abbrev pub comes_behind : List GivenBar → ℕ → ℕ → Bool
comes_behind before v bar =
    list_all (λ line. nat_lt line.voice v || ((line.voice == v) && nat_lt line.bar bar)) before

-- a bar, where it comes behind those before
abbrev pub if_behind : List GivenBar → ℕ → ℕ → Option ℕ
if_behind before v bar = if comes_behind before v bar then Some bar else None

abbrev pub later_bar : List GivenBar → ℕ → ℕ → List ℕ → Option ℕ
later_bar before bars v text = option_and_then (if_behind before v) (number_within 1 bars text)

-- `given V BAR ITEMS`, where these lines stand before: V is a free voice, and BAR a bar that comes
-- behind theirs
abbrev pub given_row : Exercise → List GivenBar → Row TextKind GivenBar
given_row ex before =
    Row.place (named_place kinds.Word kinds.Word (other_voice ex.cantus_voice ex.voices)) (λ v.
    Row.place (named_place kinds.Word kinds.Word (later_bar before ex.bars v)) (λ bar.
    Row.runs (given_run v bar) []))

-- the `given` lines, in the newest version alone
abbrev pub given_lines_of : ℕ → Exercise → Many TextKind GivenBar
given_lines_of version ex =
    record { other = kinds.Head; name = codes "given"; goes = λ before. version == newest_version; row = given_row ex }
