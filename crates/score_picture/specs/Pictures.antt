-- A whole picture.
use Rattle.std.specs.Prelude.{ℕ, ◌+◌, ◌-◌, ◌*◌, Bool, true, false, List, [], ◌∷◌, ◌++◌, Option, codes, length, map, slice_get, if◌then◌else◌}
use Rattle.std.specs.Borrow.{Bor}
use Rattle.std.specs.Fmt.{decimal}
use Rattle.std.specs.List.{flat_map, range_with_len}
use Rattle.std.specs.Option.{option_map_or}
use Rattle.fux_grid.specs.declared.cell.Cell.{Cell}
use Rattle.fux_grid.specs.declared.exercise.Exercise.{Exercise}
use Rattle.written_notes.specs.declared.marks.SheetMark.{SheetMark}
use Rattle.written_notes.specs.Lines.{line_of}
use Rattle.written_notes.specs.Marks.{has_voice}
use Rattle.sheet_layout.specs.declared.page.BarPlace.{BarPlace}
use Rattle.sheet_layout.specs.declared.system.Staff.{Staff}
use Rattle.sheet_layout.specs.Pages.{bar_places, staves}
use Rattle.sheet_layout.specs.Spacing.{all_notes, voice_notes}
use Rattle.written_notes.specs.Documents.{marks_of}
use Rattle.written_notes.specs.Titles.{title_words}
use Rattle.score_picture.specs.declared.symbols.TheConstants.{SYMBOLS}
use Rattle.score_picture.specs.Names.{rule_words}
use Rattle.score_picture.specs.NoteRows.{note_rows, notes_group, tie_end}
use Rattle.score_picture.specs.Pieces.{joined}
use Rattle.score_picture.specs.StaffRows.{bar_lines, staff_rows}

-- ---- bars

-- the rows of a staff in a bar, and of its notes there
abbrev pub staff_in_bar : Exercise → List SheetMark → List (List Cell) → ℕ → BarPlace → ℕ → Staff → List ℕ
staff_in_bar ex marks lines bar place end staff =
    staff_rows ex bar place staff
    ++ notes_group staff.y (note_rows ex marks bar place end (all_notes ex lines bar) staff
    (voice_notes ex lines bar staff.voice) (voice_notes ex lines bar staff.voice))

-- all staves in a bar
abbrev pub staves_in_bar : Exercise → List SheetMark → List (List Cell) → ℕ → BarPlace → ℕ → List Staff → List ℕ
staves_in_bar ex marks lines bar place end staves =
    flat_map (staff_in_bar ex marks lines bar place end) staves

-- a bar at its place: all staves in it, and its bar lines
unfoldable pub bar_rows : Exercise → List SheetMark → List (List Cell) → List Staff → ℕ → BarPlace → ℕ → List ℕ
bar_rows ex marks lines staves bar place end =
    joined (codes "<g transform=\"translate(" ∷ decimal place.left ∷ codes "," ∷ decimal place.top
    ∷ codes ")\">\n" ∷ [])
    ++ staves_in_bar ex marks lines bar place end staves ++ bar_lines ex staves bar place
    ++ codes "</g>\n"

-- a bar, counted from 0, at its place among these
abbrev pub bar_at : Exercise → List SheetMark → List (List Cell) → List Staff → List BarPlace → ℕ → List ℕ
bar_at ex marks lines staves places bar =
    option_map_or
    (λ place. bar_rows ex marks lines staves bar place (tie_end place (slice_get places (bar + 1))))
    (slice_get places bar) []

-- all bars
abbrev pub bars : Exercise → List SheetMark → List (List Cell) → List Staff → List BarPlace → List ℕ
bars ex marks lines staves places =
    flat_map (bar_at ex marks lines staves places) (range_with_len 0 ex.bars)

-- ---- what stands below

-- the row of a penalty
unfoldable pub penalty_row : ℕ → ℕ → List ℕ
penalty_row y penalty =
    joined (codes "<text x=\"78\" y=\"" ∷ decimal y ∷ codes "\" font-size=\"13\">penalty "
    ∷ decimal penalty ∷ codes "</text>\n" ∷ [])

abbrev pub penalty_rows : ℕ → Option ℕ → List ℕ
penalty_rows y penalty = option_map_or (penalty_row y) penalty []

-- a voice's number behind a space, where the set has it
abbrev pub voice_number : ℕ → ℕ → List ℕ
voice_number bits v = if has_voice bits v then codes " " ++ decimal v else []

-- the voices of a set
abbrev pub voice_numbers : ℕ → List ℕ
voice_numbers bits = flat_map (voice_number bits) (range_with_len 0 4)

-- the row of a mark: its place, its rule, its voices, and what the rule is called
unfoldable pub mark_row : ℕ → SheetMark → List ℕ
mark_row y mark =
    joined (codes "<text x=\"78\" y=\"" ∷ decimal y
    ∷ codes "\" font-size=\"13\" fill=\"#c00000\">bar " ∷ decimal mark.bar ∷ codes " slot "
    ∷ decimal mark.slot ∷ codes " S" ∷ decimal mark.rule ∷ codes " voices" ∷ [])
    ++ voice_numbers mark.voices.bits ++ codes ": " ++ rule_words mark.rule ++ codes "</text>\n"

-- the rows of marks, each 17 below the one before it
abbrev pub mark_rows : ℕ → List SheetMark → List ℕ
mark_rows y [] = []
mark_rows y (mark ∷ marks) = mark_row y mark ++ mark_rows (y + 17) marks

-- ---- the page

-- the lines of all voices, the lowest first
abbrev pub lines_of : Exercise → List (List Cell)
lines_of ex = map (line_of ex) (range_with_len 0 ex.voices)

-- how tall a system of these staves is, and where the last of these bars' systems begins
abbrev pub system_height : List Staff → ℕ
system_height staves = option_map_or (λ staff. staff.bottom) (slice_get staves (length staves - 1)) 0

abbrev pub last_top : List BarPlace → ℕ
last_top places = option_map_or (λ place. place.top) (slice_get places (length places - 1)) 0

-- where the last system ends
abbrev pub page_end : List Staff → List BarPlace → ℕ
page_end staves places = last_top places + system_height staves

-- the size of a picture so tall, and its letters
unfoldable pub size : ℕ → List ℕ
size height =
    codes "width=\"1060\" height=\"" ++ decimal height ++ codes "\" viewBox=\"0 0 1060 "
    ++ decimal height ++ codes "\" font-family=\"serif\" color=\"#000\">\n"

-- the head of a picture so tall: its symbols, on white
unfoldable pub head : ℕ → List ℕ
head height =
    codes "<svg xmlns=\"http://www.w3.org/2000/svg\" "
    ++ codes "xmlns:xlink=\"http://www.w3.org/1999/xlink\" " ++ size height
    ++ codes "<rect width=\"100%\" height=\"100%\" fill=\"#fff\"/>\n" ++ SYMBOLS.now

-- the head of a picture so tall within an HTML page, which has the symbols
unfoldable pub inner_head : ℕ → List ℕ
inner_head height = codes "<svg " ++ size height

-- the head of a picture with its own symbols, or within such a page
abbrev pub begin : Bool → ℕ → List ℕ
begin alone height = if alone then head height else inner_head height

-- the row of the title
unfoldable pub title_row : Exercise → Option (Bor (List SheetMark)) → List ℕ
title_row ex marks =
    codes "<text x=\"78\" y=\"34\" font-size=\"20\">" ++ title_words ex marks ++ codes "</text>\n"

-- the picture of an exercise with these lines, staves and places of bars: the title of another one,
-- its bars, and below them a penalty and the marks, where they are shown
unfoldable pub page : Bool → Exercise → Exercise → Option (Bor (List SheetMark)) → Option ℕ → List (List Cell) → List Staff → List BarPlace → List ℕ
page alone ex titled marks penalty lines staves places =
    begin alone (page_end staves places + 50 + 17 * length (marks_of marks)) ++ title_row titled marks
    ++ bars ex (marks_of marks) lines staves places
    ++ penalty_rows (page_end staves places + 14) penalty
    ++ mark_rows (page_end staves places + 34) (marks_of marks) ++ codes "</svg>\n"

-- the staves of an exercise with its marks
abbrev pub staves_of : Exercise → Option (Bor (List SheetMark)) → List Staff
staves_of ex marks = staves ex (marks_of marks) (lines_of ex)

-- the picture of an exercise, alone or within a page: its bars stand where they have room, in systems
-- of its staves; its title is that of another one: of itself, or with other species
abbrev pub drawn_of : Bool → Exercise → Exercise → Option (Bor (List SheetMark)) → Option ℕ → List ℕ
drawn_of alone ex titled marks penalty =
    page alone ex titled marks penalty (lines_of ex) (staves_of ex marks)
    (bar_places ex (lines_of ex) (system_height (staves_of ex marks)))

abbrev pub picture_of : Exercise → Exercise → Option (Bor (List SheetMark)) → Option ℕ → List ℕ
picture_of ex titled marks penalty = drawn_of true ex titled marks penalty

abbrev pub inlined_of : Exercise → Exercise → Option (Bor (List SheetMark)) → Option ℕ → List ℕ
inlined_of ex titled marks penalty = drawn_of false ex titled marks penalty
