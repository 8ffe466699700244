-- The `sing` lines, as rows. Which cells a voice may have is a test that each row takes.
use Rattle.std.specs.Prelude.{ℕ, ◌+◌, ◌-◌, ◌*◌, ◌==◌, not, Bool, true, false, List, [], ◌∷◌, ◌++◌, Option, Some, None, Result, Ok, Err, codes, length, option_map, replicate, if◌then◌else◌}
use Rattle.std.specs.List.{after_first, before_first, range_with_len}
use Rattle.std.specs.Option.{ok_or}
use Rattle.fux_grid.specs.declared.cell.Cell.{Cell}
use Rattle.fux_grid.specs.declared.cell.Cell.TheVariants.{Rest, Hold, Start}
use Rattle.fux_grid.specs.declared.exercise.Exercise.{Exercise}
use Rattle.fux_grid.specs.Cells.{pitch_of, held}
use Rattle.fux_grid.specs.Grid.{Grid}
use Rattle.fux_text.specs.declared.fault.TextKind.{TextKind}
use Rattle.fux_text.specs.declared.fault.TextKind.TheVariants as kinds
use Rattle.text_lines.specs.Faults.{Fault, ◌>>=◌}
use Rattle.text_lines.specs.Numbers.{if_within, number_of, number_within}
use Rattle.text_lines.specs.Reading.{same_text}
use Rattle.text_lines.specs.Rows.{Place, Row, Run, refused_if, run_in}
use Rattle.text_lines.specs.Tables.{Table}
use Rattle.fux_text.specs.declared.item_words.ItemName.{ItemName}
use Rattle.fux_text.specs.declared.item_words.ItemName.TheVariants as names
use Rattle.fux_text.specs.Names.{pitch_named}
use Rattle.voice_lines.specs.Lines.{cantus_cells, score_of}

-- what stands before the colon of an item, and the number behind it
abbrev pub is_colon : ℕ → Bool
is_colon b = b == 58

unfoldable pub item_parts : List ℕ → Option (List ℕ × ℕ)
item_parts text = option_map (λ n. (before_first is_colon text, n)) (number_of (after_first is_colon text))

-- `r` is a rest, `_` goes on, and else a pitch is named
unfoldable pub item_named : List ℕ → Option ItemName
item_named text =
    if same_text text (codes "r") then Some names.Silence
    else (if same_text text (codes "_") then Some names.Tie else option_map names.Note (pitch_named text))

-- the first cell of an item behind a cell; `_` stands only at the beginning of a bar, and where
-- something sounds
abbrev pub first_cell : Bool → Cell → ItemName → Option Cell
first_cell begins_bar before names.Silence = Some Rest
first_cell begins_bar before names.Tie = if begins_bar then option_map Hold (pitch_of before) else None
first_cell begins_bar before (names.Note p) = Some (Start p)

-- the last of these cells, or the one before them
abbrev pub latest : Cell → List Cell → Cell
latest before [] = before
latest before (c ∷ cs) = latest c cs

-- the cells of an item
abbrev pub item_cells : Cell → ℕ → List Cell
item_cells first count = first ∷ replicate (count - 1) (held first)

-- an item behind so many bars and these cells: its first cell, and how many it has; or what is
-- wrong with it, of several faults the first
unfoldable pub item_said : ℕ → List Cell → List ℕ → Result (Cell × ℕ) TextKind
item_said bar cells text = do
  parts ← ok_or (item_parts text) kinds.Word
  name ← ok_or (item_named parts.0) kinds.Pitch
  count ← ok_or (if_within 1 8 parts.1) kinds.Length
  cell ← ok_or (first_cell (length cells == 8 * bar) (latest Rest cells) name) kinds.Tie
  Ok (cell, count)

-- the bar behind so many is full
abbrev pub is_full : ℕ → List Cell → Bool
is_full bar cells = length cells == 8 * bar + 8

-- a bar line behind so many bars and these cells: it ends a bar, and isn't the last bar's
unfoldable pub bar_line_said : ℕ → ℕ → List Cell → Result ℕ TextKind
bar_line_said bars bar cells = do
  full ← refused_if (not (is_full bar cells)) kinds.Length
  more ← refused_if (bar + 1 == bars) kinds.BarLine
  Ok (bar + 1)

-- a word of a `sing` line: how many bars end by it, and the cells so far
unfoldable pub sung_word : ℕ → ℕ × List Cell → List ℕ → Result (ℕ × List Cell) TextKind
sung_word bars before text = if same_text text (codes "|") then (do
  next ← bar_line_said bars before.0 before.1
  Ok (next, before.1))
    else (do
      item ← item_said before.0 before.1 text
      Ok (before.0, before.1 ++ item_cells item.0 item.1))

-- the end of a `sing` line: its last bar is full
unfoldable pub sung_end : ℕ → ℕ × List Cell → Result (List Cell) TextKind
sung_end bars before = do
  full ← refused_if (not (is_full before.0 before.1)) kinds.Length
  whole ← refused_if (not (before.0 + 1 == bars)) kinds.BarLine
  Ok before.1

-- the end of a line of these cells, of which something may be wrong
abbrev pub ended : List Cell → Option TextKind → Result (List Cell) TextKind
ended cells None = Ok cells
ended cells (Some kind) = Err kind

-- the items and bar lines of so many bars
abbrev pub sung_run : ℕ → Run TextKind (ℕ × List Cell) (List Cell)
sung_run bars = record { word = sung_word bars; end = sung_end bars }

-- right items say other cells than a voice may have
abbrev pub misfit : (List Cell → Bool) → Result (List Cell) (Fault TextKind) → Bool
misfit fit (Ok cells) = not (fit cells)
misfit fit (Err fault) = false

-- this voice, where its cells may be those behind it
abbrev pub sung_voice : Bool → Option ℕ → Result ℕ TextKind
sung_voice bad None = Err kinds.Sing
sung_voice bad (Some v) = if bad then Err kinds.Given else Ok v

abbrev pub sung_place : (List Cell → Bool) → ℕ → ℕ → Place TextKind ℕ
sung_place fit bars v = record {
  missing = kinds.Sing;
  says = λ behind text.
      sung_voice (misfit fit (run_in (sung_run bars) (0, []) behind behind.words)) (number_within v v text);
}

-- `sing V ITEMS`, where V is this voice: its cells, which have to fit
abbrev pub sing_row : (List Cell → Bool) → ℕ → ℕ → Row TextKind (List Cell)
sing_row fit bars v = Row.place (sung_place fit bars v) (λ _. Row.runs (sung_run bars) (0, []))

-- which cells each voice may have
abbrev pub Fit : Type 0
Fit = ℕ → List Cell → Bool

-- the cells of a voice: those of the cantus, or those of its `sing` line, which have to fit, and of
-- which a missing one is `sing`
abbrev pub cantus_or_sung : Fit → Exercise → ℕ → Bool → Table TextKind (List Cell)
cantus_or_sung fit ex v true = Table.says (cantus_cells ex.cantus)
cantus_or_sung fit ex v false = Table.line kinds.Sing kinds.Head (codes "sing") (sing_row (fit v) ex.bars v)

abbrev pub voice_table : Fit → Exercise → ℕ → Table TextKind (List Cell)
voice_table fit ex v = cantus_or_sung fit ex v (v == ex.cantus_voice)

-- the cells of voices behind those before
abbrev pub voices_table : Fit → Exercise → List ℕ → List (List Cell) → Table TextKind (List (List Cell))
voices_table fit ex [] before = Table.says before
voices_table fit ex (v ∷ vs) before =
    Table.behind (voice_table fit ex v) (λ cells. voices_table fit ex vs (before ++ cells ∷ []))

-- the setting in `sing` lines, with which the text ends
abbrev pub sung_table : Fit → Exercise → Table TextKind Grid
sung_table fit ex =
    Table.behind (voices_table fit ex (range_with_len 0 ex.voices) []) (λ lines.
    Table.behind (Table.ends kinds.Head) (λ _. Table.says (score_of (8 * ex.bars) lines)))

-- a setting, or none
abbrev pub setting_table : Fit → Exercise → Table TextKind (Option Grid)
setting_table fit ex =
    Table.if_begins (codes "sing") (Table.behind (sung_table fit ex) (λ score. Table.says (Some score)))
    (Table.behind (Table.ends kinds.Head) (λ _. Table.says None))
