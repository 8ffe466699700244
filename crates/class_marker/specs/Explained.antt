-- The text that explains marks.
use Rattle.std.specs.Prelude.{ℕ, List, [], ◌∷◌, ◌++◌, codes, length}
use Rattle.std.specs.List.{flat_map}
use Rattle.fux_grid.specs.declared.cell.Cell.{Cell}
use Rattle.fux_grid.specs.declared.exercise.Exercise.{Exercise}
use Rattle.score_marker.specs.declared.mark.Mark.{Mark}
use Rattle.score_marker.specs.MarkLines.{count_line, mark_line, price_of}
use Rattle.class_marker.specs.Evidence.{evidence}
use Rattle.class_marker.specs.Sentences.{rule_sentence}

-- the line of what a rule says
unfoldable pub sentence_line : ℕ → List ℕ
sentence_line rule = codes "    " ++ rule_sentence rule ++ 10 ∷ []

-- a mark: its line, what its rule says, and what shows the break
abbrev pub explained_mark : Exercise → List (List Cell) → Mark → List ℕ
explained_mark ex s mark =
    mark_line (price_of ex mark) mark ++ sentence_line mark.rule ++ evidence ex s mark

-- marks one after the other, and then their number
abbrev pub explained_marks : Exercise → List (List Cell) → List Mark → List ℕ
explained_marks ex s marks = flat_map (explained_mark ex s) marks ++ count_line (length marks)
