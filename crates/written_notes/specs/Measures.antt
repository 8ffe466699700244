-- The rows of a bar and of a part.
use Rattle.std.specs.Prelude.{ℕ, ◌+◌, ◌==◌, List, [], ◌∷◌, ◌++◌, codes, if◌then◌else◌}
use Rattle.std.specs.Fmt.{decimal}
use Rattle.std.specs.List.{flat_map, range_with_len}
use Rattle.fux_pitch.specs.declared.mode.Mode.{Mode}
use Rattle.fux_pitch.specs.Modes.{mode_name}
use Rattle.fux_grid.specs.declared.cell.Cell.{Cell}
use Rattle.fux_grid.specs.declared.exercise.Exercise.{Exercise}
use Rattle.written_notes.specs.declared.bar.Written.{Written}
use Rattle.written_notes.specs.declared.clefs.Clef.{Clef}
use Rattle.written_notes.specs.declared.clefs.Clef.TheVariants.{Treble, Bass, Alto}
use Rattle.written_notes.specs.declared.marks.SheetMark.{SheetMark}
use Rattle.written_notes.specs.declared.marks.Spot.{Spot}
use Rattle.written_notes.specs.Clefs.{clef_of}
use Rattle.written_notes.specs.Marks.{rules_at}
use Rattle.written_notes.specs.Sheets.{sheet_notes}
use Rattle.written_notes.specs.NoteRows.{if_shown, note_row}

-- rules, each behind a space
abbrev pub further_rules : List ℕ → List ℕ
further_rules rules = flat_map (λ rule. codes " S" ++ decimal rule) rules

-- rules with a space between
abbrev pub rules_words : List ℕ → List ℕ
rules_words [] = []
rules_words (first ∷ rest) = codes "S" ++ decimal first ++ further_rules rest

-- the row of these rules
unfoldable pub words_row : List ℕ → List ℕ
words_row rules =
    codes "<direction placement=\"above\"><direction-type><words color=\"#C00000\">"
    ++ rules_words rules ++ codes "</words></direction-type></direction>\n"

-- where there is no rule, there is no row
abbrev pub rules_row : List ℕ → List ℕ
rules_row [] = []
rules_row (first ∷ rest) = words_row (first ∷ rest)

-- the row of a note, behind that of the rules that are shown there
unfoldable pub marked_row : List Written → List SheetMark → Spot → List ℕ
marked_row notes marks spot = rules_row (rules_at marks spot) ++ note_row notes marks spot

-- the place of a note of a voice in a bar, counted from 1
abbrev pub spot_of : ℕ → ℕ → Written → Spot
spot_of voice bar note = record { voice = voice; bar = bar; note = note }

-- the rows of some of a bar's notes
abbrev pub note_rows : List Written → List SheetMark → ℕ → ℕ → List Written → List ℕ
note_rows notes marks voice bar some =
    flat_map (λ note. marked_row notes marks (spot_of voice bar note)) some

-- the element of a clef
abbrev pub clef_element : Clef → List ℕ
clef_element Treble = codes "<clef><sign>G</sign><line>2</line></clef>"
clef_element Bass = codes "<clef><sign>F</sign><line>4</line></clef>"
clef_element Alto = codes "<clef><sign>C</sign><line>3</line></clef>"

-- the row of a part's key, time and clef: two divisions to a quarter are eight slots to a bar
unfoldable pub attributes : Mode → Clef → List ℕ
attributes mode clef =
    codes "<attributes><divisions>2</divisions><key><fifths>0</fifths><mode>" ++ mode_name mode
    ++ codes "</mode></key><time symbol=\"cut\"><beats>2</beats><beat-type>2</beat-type></time>"
    ++ clef_element clef ++ codes "</attributes>\n"

-- the first bar alone has them
abbrev pub first_attributes : Exercise → ℕ → ℕ → List ℕ
first_attributes ex voice bar = if bar == 0 then attributes ex.mode (clef_of ex voice) else []

-- the line of the end, in the last bar alone
abbrev pub end_line : List ℕ
end_line = codes "<barline location=\"right\"><bar-style>light-heavy</bar-style></barline>\n"

-- the rows of a bar of a voice with this line, counted from 0
unfoldable pub measure : Exercise → List SheetMark → ℕ → List Cell → ℕ → List ℕ
measure ex marks voice line bar =
    codes "<measure number=\"" ++ decimal (bar + 1) ++ codes "\">\n"
    ++ first_attributes ex voice bar
    ++ note_rows (sheet_notes ex voice line bar) marks voice (bar + 1) (sheet_notes ex voice line bar)
    ++ if_shown (bar + 1 == ex.bars) end_line
    ++ codes "</measure>\n"

-- the rows of all its bars
abbrev pub measures : Exercise → List SheetMark → ℕ → List Cell → List ℕ
measures ex marks voice line = flat_map (measure ex marks voice line) (range_with_len 0 ex.bars)

-- the rows of a part
unfoldable pub part : Exercise → List SheetMark → ℕ → List Cell → List ℕ
part ex marks voice line =
    codes "<part id=\"P" ++ decimal voice ++ codes "\">\n" ++ measures ex marks voice line
    ++ codes "</part>\n"
