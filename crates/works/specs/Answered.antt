-- What `mark` makes of an answer to a lesson.
use Rattle.std.specs.Prelude.{◌≡◌, ◌⊎◌, ℕ, ◌||◌, List, Some, Result, Ok, Err, string_bytes}
use Rattle.class_marker.specs.Markings.{IsTheText}
use Rattle.fux_grid.specs.declared.exercise.Exercise.{Exercise}
use Rattle.fux_grid.specs.Grid.{Grid}
use Rattle.fux_text.specs.Texts.{HasFault}
use Rattle.class_marker.specs.declared.answer.AnswerLines.{AnswerLines}
use Rattle.class_marker.specs.Answers.{TellsAnswer}
use Rattle.works.specs.declared.refusal.Refusal.{Refusal}
use Rattle.works.specs.declared.refusal.Refusal.TheVariants as refusal
use Rattle.works.specs.declared.work.Output.{Output}
use Rattle.works.specs.declared.work.Stop.{Stop}
use Rattle.works.specs.declared.work.Stop.TheVariants.{Refused, Memory}
use Rattle.works.specs.declared.work.Verdict.{Verdict}
use Rattle.works.specs.Marked.{RefusesNoSetting, marks_verdict}
use Rattle.works.specs.Texts.{OnText, Work}

-- ---- the lesson

-- a refusal of bytes that are the text of no lesson: it tells their first fault
abbrev pub RefusesLesson : List ℕ → Refusal → Type 0
RefusesLesson bytes (refusal.Lesson kind line column) = HasFault bytes kind line column
RefusesLesson bytes _ = ⊥

-- the exercise of the text of a lesson, or a refusal of it, or memory is wanting
abbrev pub ReadsLesson : List ℕ → Result Exercise Stop → Type 0
ReadsLesson bytes (Ok lesson) = IsTheText bytes lesson
ReadsLesson bytes (Err (Refused refusal)) = RefusesLesson bytes refusal
ReadsLesson bytes (Err Memory) = Unit {0}

-- work by the lesson whose text these bytes are
pub record ByLesson (Made : Exercise → Work → Type 0) (bytes : List ℕ) (work : Work) : Type 0 where
  pub lesson : Exercise
  pub text : IsTheText bytes lesson
  pub made : Made lesson work

-- work that refuses the lesson
pub record OnNoLesson (bytes : List ℕ) (work : Work) : Type 0 where
  pub refusal : Refusal
  pub is : work ≡ Err refusal
  pub cause : RefusesLesson bytes refusal

-- work by a lesson, where these bytes are the text of one
abbrev pub OnLesson : (Exercise → Work → Type 0) → List ℕ → Work → Type 0
OnLesson Made bytes work = ByLesson Made bytes work ⊎ OnNoLesson bytes work

-- ---- the answer

-- lines of an answer are favorable where there is no mark, and nothing differs
abbrev pub answer_verdict : AnswerLines → Verdict
answer_verdict lines = marks_verdict (lines.has_mark || lines.differs)

-- an output tells what the setting of an answer has otherwise than the lesson, and its marks by
-- that
pub record TellsAnswerOf (lesson answer : Exercise) (output : Output) : Type 0 where
  pub score : Grid
  pub given : answer.setting ≡ Some score
  pub lines : AnswerLines
  pub told : TellsAnswer lesson answer score lines
  pub written : output ≡ record { verdict = answer_verdict lines; bytes = string_bytes lines.text }

-- `mark` makes this of an answer, by a lesson
abbrev pub MarksBy : Exercise → Exercise → Work → Type 0
MarksBy lesson answer (Ok output) = TellsAnswerOf lesson answer output
MarksBy lesson answer (Err refusal) = RefusesNoSetting answer refusal

-- `mark` makes this of the text of an answer, and of that of a lesson
abbrev pub MarksAnswer : List ℕ → List ℕ → Work → Type 0
MarksAnswer given text = OnText (λ answer. OnLesson (λ lesson. MarksBy lesson answer) given) text
