-- What is said of an answer to a lesson.
use Rattle.std.specs.Prelude.{◌≡◌, ◌==◌, ◌&&◌, Bool, true, false, [], ◌++◌, length, nat_lt, string_bytes}
use Rattle.class_marker.specs.declared.marking.MarkLines.{MarkLines}
use Rattle.class_marker.specs.Markings.{TellsMarks}
use Rattle.fux_grid.specs.declared.exercise.Exercise.{Exercise}
use Rattle.fux_grid.specs.Grid.{Grid}
use Rattle.score_marker.specs.Marks.{AreMarks}
use Rattle.class_marker.specs.declared.answer.AnswerLines.{AnswerLines}
use Rattle.class_marker.specs.DifferenceLines.{difference_lines, differs_line}
use Rattle.class_marker.specs.Differences.{differences}

-- the setting of the answer has the voices and the bars of the lesson, so that it can be marked by
-- the lesson
abbrev pub is_markable : Exercise → Exercise → Bool
is_markable lesson answer = (lesson.voices == answer.voices) && (lesson.bars == answer.bars)

-- no lines
pub record TellsNothing (lines : MarkLines) : Type 0 where
  pub text : string_bytes lines.text ≡ []
  pub has_mark : lines.has_mark ≡ false

-- these lines tell the marks of a score as a setting of the lesson, where it can be one, and else
-- nothing
pub record TellsMarksBy (lesson answer : Exercise) (score : Grid) (lines : MarkLines) : Type 0 where
  pub marks : is_markable lesson answer ≡ true → TellsMarks lesson (AreMarks lesson score.columns) lines
  pub none : is_markable lesson answer ≡ false → TellsNothing lines

-- these lines tell of an answer what differs, then its marks by the lesson, and then how much
-- differs
pub record TellsAnswer (lesson answer : Exercise) (score : Grid) (lines : AnswerLines) : Type 0 where
  pub marked : MarkLines
  pub marks : TellsMarksBy lesson answer score marked
  pub text : string_bytes lines.text
      ≡ difference_lines (differences lesson answer score.columns) ++ string_bytes marked.text
      ++ differs_line (length (differences lesson answer score.columns))
  pub has_mark : lines.has_mark ≡ marked.has_mark
  pub differs : lines.differs ≡ nat_lt 0 (length (differences lesson answer score.columns))
