-- What `mark` makes of the bytes of an answer and of a lesson (`of_answer`), from what is answered
-- where the lesson is refused (`refused_lesson`) and where it is not (`made_by`).
use Rattle.std.proofs.Common.{◌≡◌, ℕ, List, [], ◌∷◌, Result, Ok, Err, inl, inr, refl}
use Rattle.class_marker.specs.Markings.{IsContent, IsTheText}
use Rattle.class_marker.specs.declared.one.Text.{Text as Content}
use Rattle.fux_grid.specs.declared.exercise.Exercise.{Exercise}
use Rattle.command_words.specs.Commands.{mark_answer}
use Rattle.works.specs.declared.work.Output.{Output}
use Rattle.works.specs.declared.work.Stop.{Stop}
use Rattle.works.specs.declared.work.Stop.TheVariants as stop
use Rattle.works.specs.Answered.{MarksAnswer, MarksBy, ReadsLesson}
use Rattle.works.specs.Works.{Answers, AreContents, Files, Makes}

pub of_answer : (files : Files) (name lesson : List ℕ) (text given : Content) (answer : Result Output Stop)
    → ((bytes lessons : List ℕ) → IsContent 65536 text bytes → IsContent 65536 given lessons
    → Answers (MarksAnswer lessons bytes) answer)
    → (all : List (List ℕ)) → AreContents 65536 (text ∷ given ∷ []) all
    → Answers (Makes (mark_answer name lesson) files all) answer
of_answer files name lesson text given (Ok output) made (bytes ∷ lessons ∷ []) content =
    made bytes lessons content.0 content.1.0
of_answer files name lesson text given (Err (stop.Refused refusal)) made (bytes ∷ lessons ∷ []) content =
    made bytes lessons content.0 content.1.0
of_answer files name lesson text given (Err stop.Memory) made all content = tt
of_answer files name lesson text given (Ok output) made [] content = absurd content
of_answer files name lesson text given (Err (stop.Refused refusal)) made [] content = absurd content
of_answer files name lesson text given (Ok output) made (bytes ∷ []) content = absurd content.1
of_answer files name lesson text given (Err (stop.Refused refusal)) made (bytes ∷ []) content = absurd content.1
of_answer files name lesson text given (Ok output) made (bytes ∷ lessons ∷ more ∷ all) content = absurd content.1.1
of_answer files name lesson text given (Err (stop.Refused refusal)) made (bytes ∷ lessons ∷ more ∷ all) content =
    absurd content.1.1

module _ (given bytes : List ℕ) (answer : Exercise) (text : IsTheText bytes answer) where
  pub refused_lesson : (why : Stop) (told : Result Output Stop) → ReadsLesson given (Err why) → told ≡ Err why
      → Answers (MarksAnswer given bytes) told
  refused_lesson (stop.Refused refusal) told cause e = rw e (inl record {
    exercise = answer;
    text = text;
    made = inr record { refusal = refusal; is = refl; cause = cause };
  })
  refused_lesson stop.Memory told cause e = rw e tt

  pub made_by : (lesson : Exercise) (told : Result Output Stop) → IsTheText given lesson
      → Answers (MarksBy lesson answer) told → Answers (MarksAnswer given bytes) told
  made_by lesson (Ok output) is made = inl record {
    exercise = answer;
    text = text;
    made = inl record { lesson = lesson; text = is; made = made };
  }
  made_by lesson (Err (stop.Refused refusal)) is made = inl record {
    exercise = answer;
    text = text;
    made = inl record { lesson = lesson; text = is; made = made };
  }
  made_by lesson (Err stop.Memory) is made = tt
