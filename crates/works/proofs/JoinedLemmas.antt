-- What `joinsmf` makes of the bytes of a lesson and of a MIDI file (`of_joining`), from what is
-- answered where the lesson is refused (`refused_joining`) and where it is not (`joined_by`).
use Rattle.std.proofs.Common.{◌≡◌, ℕ, List, [], ◌∷◌, Result, Ok, Err, inl, inr, refl, arith}
use Rattle.class_marker.specs.Markings.{IsContent, IsTheText}
use Rattle.class_marker.specs.declared.one.Text.{Text as Content}
use Rattle.class_marker.specs.declared.one.Text.TheVariants.{Bytes, TooLong}
use Rattle.fux_grid.specs.declared.exercise.Exercise.{Exercise}
use Rattle.command_words.specs.Commands.{join_smf}
use Rattle.smf_score.specs.declared.manner.Manner.{Manner}
use Rattle.works.specs.declared.work.Output.{Output}
use Rattle.works.specs.declared.work.Stop.{Stop}
use Rattle.works.specs.declared.work.Stop.TheVariants as stop
use Rattle.works.specs.Answered.{ReadsLesson}
use Rattle.works.specs.Joined.{Joins, JoinsSmf}
use Rattle.works.specs.Works.{Answers, AreContents, Files, Makes}

-- a file that has more bytes than a MIDI file has more than a text
pub shorter : (text : Content) (bytes : List ℕ) → IsContent 1048576 text bytes → IsContent 65536 text bytes
shorter (Bytes read) bytes content = content
shorter TooLong bytes content = omega (arith, content)

pub of_joining : (files : Files) (lesson name : List ℕ) (manner : Manner) (given file : Content)
    (answer : Result Output Stop)
    → ((lessons bytes : List ℕ) → IsContent 1048576 given lessons → IsContent 1048576 file bytes
    → Answers (JoinsSmf manner lessons bytes) answer)
    → (all : List (List ℕ)) → AreContents 1048576 (given ∷ file ∷ []) all
    → Answers (Makes (join_smf lesson name manner) files all) answer
of_joining files lesson name manner given file (Ok output) made (lessons ∷ bytes ∷ []) content =
    made lessons bytes content.0 content.1.0
of_joining files lesson name manner given file (Err (stop.Refused refusal)) made (lessons ∷ bytes ∷ []) content =
    made lessons bytes content.0 content.1.0
of_joining files lesson name manner given file (Err stop.Memory) made all content = tt
of_joining files lesson name manner given file (Ok output) made [] content = absurd content
of_joining files lesson name manner given file (Err (stop.Refused refusal)) made [] content = absurd content
of_joining files lesson name manner given file (Ok output) made (bytes ∷ []) content = absurd content.1
of_joining files lesson name manner given file (Err (stop.Refused refusal)) made (bytes ∷ []) content =
    absurd content.1
of_joining files lesson name manner given file (Ok output) made (lessons ∷ bytes ∷ more ∷ all) content =
    absurd content.1.1
of_joining files lesson name manner given file (Err (stop.Refused refusal)) made (lessons ∷ bytes ∷ more ∷ all)
    content =
    absurd content.1.1

module _ (manner : Manner) (given file : List ℕ) where
  pub refused_joining : (why : Stop) (told : Result Output Stop) → ReadsLesson given (Err why) → told ≡ Err why
      → Answers (JoinsSmf manner given file) told
  refused_joining (stop.Refused refusal) told cause e =
      rw e (inr record { refusal = refusal; is = refl; cause = cause })
  refused_joining stop.Memory told cause e = rw e tt

  pub joined_by : (lesson : Exercise) (told : Result Output Stop) → IsTheText given lesson
      → Answers (Joins manner file lesson) told → Answers (JoinsSmf manner given file) told
  joined_by lesson (Ok output) is made = inl record { lesson = lesson; text = is; made = made }
  joined_by lesson (Err (stop.Refused refusal)) is made = inl record { lesson = lesson; text = is; made = made }
  joined_by lesson (Err stop.Memory) is made = tt
