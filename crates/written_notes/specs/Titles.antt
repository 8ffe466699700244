-- The title of a document, and the names of its parts.
use Rattle.std.specs.Prelude.{ℕ, ◌==◌, List, [], ◌++◌, Option, Some, None, codes, length, reverse, if◌then◌else◌}
use Rattle.std.specs.Fmt.{decimal}
use Rattle.std.specs.List.{flat_map, range_with_len}
use Rattle.std.specs.Borrow.{Bor}
use Rattle.fux_pitch.specs.declared.mode.Mode.{Mode}
use Rattle.fux_pitch.specs.declared.mode.Mode.TheVariants.{Dorian, Phrygian, Lydian, Mixolydian, Aeolian, Ionian}
use Rattle.fux_grid.specs.declared.exercise.Exercise.{Exercise}
use Rattle.fux_grid.specs.Exercises.{is_mixed, species_in}
use Rattle.written_notes.specs.declared.marks.SheetMark.{SheetMark}

-- the name of a mode in a title
abbrev pub mode_title : Mode → List ℕ
mode_title Dorian = codes "Dorian"
mode_title Phrygian = codes "Phrygian"
mode_title Lydian = codes "Lydian"
mode_title Mixolydian = codes "Mixolydian"
mode_title Aeolian = codes "Aeolian"
mode_title Ionian = codes "Ionian"

-- what a title says of the species of a voice, where each has its own: nothing of the cantus
unfoldable pub own_species : Exercise → ℕ → List ℕ
own_species ex v =
    codes ", voice " ++ decimal v ++ codes " species " ++ decimal (species_in ex v)

abbrev pub voice_species : Exercise → ℕ → List ℕ
voice_species ex v = if v == ex.cantus_voice then [] else own_species ex v

-- what a title says of the species
abbrev pub species_words : Exercise → List ℕ
species_words ex =
    if is_mixed ex then flat_map (voice_species ex) (range_with_len 0 ex.voices)
    else codes ", species " ++ decimal ex.species

-- the number of marks, where a sheet is marked
abbrev pub mark_count : Option (Bor (List SheetMark)) → List ℕ
mark_count None = []
mark_count (Some marks) = codes ": marks " ++ decimal (length marks.now)

-- the words of a title: the mode, the species, and the number of marks
unfoldable pub title_words : Exercise → Option (Bor (List SheetMark)) → List ℕ
title_words ex marks = mode_title ex.mode ++ species_words ex ++ mark_count marks

-- the title's row
unfoldable pub title : Exercise → Option (Bor (List SheetMark)) → List ℕ
title ex marks =
    codes "<work><work-title>" ++ title_words ex marks ++ codes "</work-title></work>\n"

-- what the part of the cantus is called, and its short name
unfoldable pub cantus_called : ℕ → List ℕ
cantus_called v = codes "C.f. (" ++ decimal v ++ codes ")</part-name><part-abbreviation>C.f."

-- what the part of a free voice is called, and its short name
unfoldable pub free_called : ℕ → List ℕ
free_called v = codes "Voice " ++ decimal v ++ codes "</part-name><part-abbreviation>" ++ decimal v

-- what a part is called, and its short name
abbrev pub called : Exercise → ℕ → List ℕ
called ex v = if v == ex.cantus_voice then cantus_called v else free_called v

-- the row of a part's name
unfoldable pub part_name : Exercise → ℕ → List ℕ
part_name ex v =
    codes "<score-part id=\"P" ++ decimal v ++ codes "\"><part-name>" ++ called ex v
    ++ codes "</part-abbreviation></score-part>\n"

-- the rows of all parts' names, the highest voice first
abbrev pub part_names : Exercise → List ℕ
part_names ex = flat_map (part_name ex) (reverse (range_with_len 0 ex.voices))

-- the list of parts
unfoldable pub part_list : Exercise → List ℕ
part_list ex =
    codes "<part-list>\n<part-group type=\"start\" number=\"1\">"
    ++ codes "<group-symbol>bracket</group-symbol>"
    ++ codes "<group-barline>yes</group-barline></part-group>\n"
    ++ part_names ex
    ++ codes "<part-group type=\"stop\" number=\"1\"/>\n</part-list>\n"
