-- What `explain` makes of the text of an exercise (`explains_exercise`), with the species that are
-- named (`explains_named`, `refuses_names`), and of a text at fault (`faults_told`).
use Rattle.std.proofs.Common.{◌≡◌, ℕ, Bool, true, false, List, [], ◌∷◌, Option, Result, Ok, Err, length, inl, inr, refl, subst}
use Rattle.std.specs.Str.{is_utf8}
use Rattle.std.specs.Prelude.{nat_lt, if◌then◌else◌}
use Rattle.class_marker.specs.Markings.{IsTheText}
use Rattle.command_words.specs.declared.command.Subject.{Subject}
use Rattle.fux_grid.specs.declared.exercise.Exercise.{Exercise}
use Rattle.fux_text.specs.Texts.{HasFault}
use Rattle.class_marker.specs.Explanations.{ExplainsBy}
use Rattle.text_faults.specs.declared.found.FoundFault.{FoundFault}
use Rattle.text_faults.specs.Below.{AreBelow, AreFrom, lines_judged}
use Rattle.text_faults.specs.Explained.{TellsFaults}
use Rattle.text_lines.specs.Lines.{lines_from}
use Rattle.text_lines.specs.Utf8.{text_in}
use Rattle.works.specs.declared.work.Output.{Output}
use Rattle.works.specs.declared.work.Stop.{Stop}
use Rattle.works.specs.declared.work.Stop.TheVariants as stop
use Rattle.works.specs.declared.work.Verdict.TheVariants.{Unfavorable}
use Rattle.works.specs.Explained.{Explains, ExplainsFaults, ExplainsIt, ExplainsOf, shown_of}
use Rattle.works.specs.Mixed.{NamesSpecies, OnNames}
use Rattle.works.specs.Works.{Answers}

pub explains_exercise : (subject : Subject) (name bytes : List ℕ) (ex : Exercise) (answer : Result Output Stop)
    → IsTheText bytes ex → Answers (ExplainsOf subject ex) answer → Answers (Explains subject name bytes) answer
explains_exercise subject name bytes ex (Ok output) text made = inl (record { exercise = ex; text = text; made = made })
explains_exercise subject name bytes ex (Err (stop.Refused refusal)) text made =
    inl (record { exercise = ex; text = text; made = made })
explains_exercise subject name bytes ex (Err stop.Memory) text made = tt

-- ---- with named species

pub refuses_names : (ex : Exercise) (named : List (Option ℕ)) (why : Stop) (answer : Result Output Stop)
    → NamesSpecies ex named (Err why) → answer ≡ Err why
    → Answers (OnNames (λ mixed. ExplainsIt (ExplainsBy mixed ex.setting)) named ex) answer
refuses_names ex named (stop.Refused refusal) answer cause e =
    rw e (inr record { refusal = refusal; is = refl; cause = cause })
refuses_names ex named stop.Memory answer cause e = rw e tt

-- ---- the faults of a text

-- a text without bytes has no line
no_lines : lines_judged [] ≡ []
unfolding lines_judged text_in lines_from
no_lines = by (is_utf8 []) refl
  where
    by : (b : Bool) → is_utf8 [] ≡ b → lines_judged [] ≡ []
    by true e = rw e refl
    by false e = rw e refl

-- the lines of what is shown of a text are those of the text
shown_lines : (text : List ℕ) → lines_judged (shown_of text) ≡ lines_judged text
unfolding lines_judged text_in lines_from
shown_lines text = by (nat_lt 65536 (length text)) refl
  where
    by : (b : Bool) → nat_lt 65536 (length text) ≡ b → lines_judged (if b then [] else text) ≡ lines_judged text
    by true e = rw e no_lines
    by false e = refl

from_shown : (first : FoundFault) (text : List ℕ) (faults : List FoundFault) → AreFrom first (shown_of text) faults
    → AreFrom first text faults
from_shown first text [] from = from
from_shown first text (f ∷ faults) from =
    (from.0, subst (λ lines. AreBelow first.line lines faults) (shown_lines text) from.1)

pub faults_told : (name text : List ℕ) (first : FoundFault) (output : Output)
    → HasFault text first.kind first.line first.column → TellsFaults name (shown_of text) first output.bytes
    → output.verdict ≡ Unfavorable → ExplainsFaults name text (Ok output)
faults_told name text first output has told verdict = record {
  faults = told.faults;
  are = record { first = first; has = has; all = from_shown first text told.faults told.all };
  output = output;
  is = refl;
  bytes = told.is;
  verdict = verdict;
}
