-- A whole document.
use Rattle.std.specs.Prelude.{ℕ, List, [], ◌++◌, Option, Some, None, codes, reverse}
use Rattle.std.specs.List.{flat_map, range_with_len}
use Rattle.std.specs.Borrow.{Bor}
use Rattle.fux_grid.specs.declared.exercise.Exercise.{Exercise}
use Rattle.written_notes.specs.declared.marks.SheetMark.{SheetMark}
use Rattle.written_notes.specs.Lines.{line_of}
use Rattle.written_notes.specs.declared.document.TheConstants.{HEAD}
use Rattle.written_notes.specs.Measures.{part}
use Rattle.written_notes.specs.Titles.{part_list, title}

-- the part of a voice of an exercise
abbrev pub part_of : Exercise → List SheetMark → ℕ → List ℕ
part_of ex marks voice = part ex marks voice (line_of ex voice)

-- the parts of all voices, the highest first
abbrev pub parts : Exercise → List SheetMark → List ℕ
parts ex marks = flat_map (part_of ex marks) (reverse (range_with_len 0 ex.voices))

-- the marks of a sheet, none where it isn't marked
abbrev pub marks_of : Option (Bor (List SheetMark)) → List SheetMark
marks_of None = []
marks_of (Some marks) = marks.now

-- the document of an exercise, with the title of another one: of itself, or with other species
unfoldable pub document : Exercise → Exercise → Option (Bor (List SheetMark)) → List ℕ
document ex titled marks =
    HEAD.now ++ title titled marks
    ++ codes "<identification><encoding><software>fux</software></encoding></identification>\n"
    ++ part_list ex ++ parts ex (marks_of marks) ++ codes "</score-partwise>\n"
