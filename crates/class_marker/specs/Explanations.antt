-- What explains an exercise.
use Rattle.std.specs.Prelude.{◌≡◌, false, List, Option, length, nat_lt, string_bytes, MatchOption}
use Rattle.fux_grid.specs.declared.cell.Cell.{Cell}
use Rattle.fux_grid.specs.declared.exercise.Exercise.{Exercise}
use Rattle.fux_grid.specs.Grid.{Grid}
use Rattle.score_marker.specs.declared.mark.Mark.{Mark}
use Rattle.score_marker.specs.Cantus.{AreCantusMarks}
use Rattle.score_marker.specs.Marks.{AreMarks}
use Rattle.class_marker.specs.declared.explanation.Explanation.{Explanation}
use Rattle.class_marker.specs.Alone.{lone_score}
use Rattle.class_marker.specs.Asked.{asked_text}
use Rattle.class_marker.specs.Explained.{explained_marks}

-- a text explains these marks of a list of columns
pub record AreExplained (ex : Exercise) (s : List (List Cell)) (marks : List Mark)
    (told : Explanation) : Type 0 where
  pub text : string_bytes told.text ≡ explained_marks ex s marks
  pub has_mark : told.has_mark ≡ nat_lt 0 (length marks)

-- it explains the marks of a list of columns
pub record ExplainsMarks (ex : Exercise) (s : List (List Cell)) (told : Explanation) : Type 0 where
  pub marks : List Mark
  pub exact : AreMarks ex s marks
  pub explained : AreExplained ex s marks told

-- it says what an exercise asks
pub record IsAsked (ex : Exercise) (told : Explanation) : Type 0 where
  pub text : string_bytes told.text ≡ asked_text ex
  pub has_mark : told.has_mark ≡ false

-- it explains a setting, or what is asked where there is none, by the rules of an exercise, which may
-- be that of the setting or one with the species of other voices
abbrev pub ExplainsBy : Exercise → Option Grid → Explanation → Type 0
ExplainsBy rules setting told =
    MatchOption setting (IsAsked rules told) (λ score. ExplainsMarks rules score.columns told)

-- it explains an exercise: the marks of its setting, or what it asks where it has none
abbrev pub ExplainsExercise : Exercise → Explanation → Type 0
ExplainsExercise ex told = ExplainsBy ex ex.setting told

-- it explains the marks of the cantus firmus alone
pub record ExplainsCantus (ex : Exercise) (told : Explanation) : Type 0 where
  pub marks : List Mark
  pub exact : AreCantusMarks ex marks
  pub explained : AreExplained ex (lone_score ex).columns marks told
