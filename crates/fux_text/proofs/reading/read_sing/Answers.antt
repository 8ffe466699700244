use Rattle.fux_grid.specs.Exercises.{IsGiven}
use Rattle.fux_text.specs.Reading.{setting_alone}
use Rattle.fux_text.specs.Texts.{AreSingLinesOf}
use Rattle.fux_text.proofs.Answered.{given-both, given-fault, given-only, given-first}
use Rattle.fux_text.proofs.ReadTexts.{lines-read, sing_faults-read, sing_texts-read}
use Rattle.fux_text.proofs.ValidText.{alone-valid}
use Rattle.fux_text.proofs.reading.read_sing.Goals as goal

pub returns-clause-ok : goal.returns-clause-ok
returns-clause-ok c =
    let ex = c.args.ex.now in
    let lines = c.args.lines.now in
    given-both c.setting_alone.result (setting_alone ex lines) (AreSingLinesOf ex lines) (IsGiven ex)
    c.setting_alone.ensures
    (λ score. (sing_texts-read ex lines score c.requires).1) (λ score. alone-valid ex lines score c.requires)

pub returns-clause-fault : goal.returns-clause-fault
returns-clause-fault c = λ kind line column e.
    (sing_faults-read c.args.ex.now c.args.lines.now kind line column c.requires).1
    (given-fault c.setting_alone.result (setting_alone c.args.ex.now c.args.lines.now) kind line column e
    c.setting_alone.ensures)

pub returns-clause-only : goal.returns-clause-only
returns-clause-only c = λ score are.
    given-only c.setting_alone.result (setting_alone c.args.ex.now c.args.lines.now) score
    (lines-read c.args.ex.now c.args.lines.now score c.requires are) c.setting_alone.ensures

pub returns-clause-first : goal.returns-clause-first
returns-clause-first c = λ kind line column has.
    given-first c.setting_alone.result (setting_alone c.args.ex.now c.args.lines.now) kind line column
    ((sing_faults-read c.args.ex.now c.args.lines.now kind line column c.requires).0 has) c.setting_alone.ensures
