use Rattle.fux_grid.specs.Exercises.{IsValid}
use Rattle.fux_text.specs.Reading.{exercise_in}
use Rattle.fux_text.specs.Texts.{IsTextOf}
use Rattle.fux_text.proofs.Answered.{given-both, given-fault, given-only, given-first}
use Rattle.fux_text.proofs.ReadTexts.{faults-read, texts-read}
use Rattle.fux_text.proofs.ValidText.{exercise-valid}
use Rattle.fux_text.proofs.reading.read.Goals as goal

pub returns-clause-ok : goal.returns-clause-ok
returns-clause-ok c =
    given-both c.exercise_in.result (exercise_in c.args.bytes.now) (IsTextOf c.args.bytes.now) IsValid
    c.exercise_in.ensures
    (λ ex. (texts-read c.args.bytes.now ex).1) (exercise-valid c.args.bytes.now)

pub returns-clause-fault : goal.returns-clause-fault
returns-clause-fault c = λ kind line column e.
    (faults-read c.args.bytes.now kind line column).1
    (given-fault c.exercise_in.result (exercise_in c.args.bytes.now) kind line column e c.exercise_in.ensures)

pub returns-clause-only : goal.returns-clause-only
returns-clause-only c = λ ex is.
    given-only c.exercise_in.result (exercise_in c.args.bytes.now) ex ((texts-read c.args.bytes.now ex).0 is)
    c.exercise_in.ensures

pub returns-clause-first : goal.returns-clause-first
returns-clause-first c = λ kind line column has.
    given-first c.exercise_in.result (exercise_in c.args.bytes.now) kind line column
    ((faults-read c.args.bytes.now kind line column).0 has) c.exercise_in.ensures
