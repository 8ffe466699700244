use Rattle.std.proofs.Common.{Ok, sym, ap, ◌∙◌}
use Rattle.std.proofs.lemmas.Result.{err_from_is_err_and}
use Rattle.text_lines.specs.Lines.{lines_of}
use Rattle.fux_text.proofs.ReadSteps.{fail-setting, read-setting}
use Rattle.fux_text.proofs.reading.exercise_in.Goals as goal

pub returns-in_err-setting : goal.returns-in_err-setting
returns-in_err-setting c =
    let p = err_from_is_err_and c.from_residual-in_err-setting.result c.from_residual-in_err-setting.ensures.1 in
    let given = c.in_ok-given.given.items in
    let left = lines_of c.in_ok-given.text in
    rw (p.1, p.2)
    (fail-setting c.in_err-setting.field-0.0 c.args.bytes.now c.in_ok-version.version c.in_ok-ex.ex
    c.in_ok-ranges.ranges.items c.in_ok-relax.relax.items given c.new.result left (
      _,
      _,
      _,
      _,
      _,
      c.in_ok-text.ensures,
      c.in_ok-version.ensures,
      c.in_ok-ex.ensures.value,
      c.in_ok-ranges.ensures,
      c.in_ok-relax.ensures,
      c.in_ok-given.ensures,
    )
    c.new.ensures c.in_err-setting.ensures)

pub returns : goal.returns
returns c =
    let given = c.in_ok-given.given.items in
    let left = lines_of c.in_ok-given.text in
    let ex = c.in_ok-ex.ex in
    let o = c.in_ok-setting.setting in
    read-setting c.args.bytes.now c.in_ok-version.version ex
    c.in_ok-ranges.ranges.items c.in_ok-relax.relax.items given c.new.result left (lines_of c.in_ok-setting.field-0-1) o (
      _,
      _,
      _,
      _,
      _,
      c.in_ok-text.ensures,
      c.in_ok-version.ensures,
      c.in_ok-ex.ensures.value,
      c.in_ok-ranges.ensures,
      c.in_ok-relax.ensures,
      c.in_ok-given.ensures,
    )
    c.new.ensures c.in_ok-setting.ensures
    ∙ ap (λ lines. Ok (record ex { ranges = lines; relax = c.in_ok-relax.relax.items; given = given; setting = o }))
    (sym c.new-2.ensures)
    ∙ ap (λ lines. Ok (record ex { ranges = c.new-2.result; relax = lines; given = given; setting = o })) (sym c.new-3.ensures)
    ∙ ap (λ lines. Ok (record ex { ranges = c.new-2.result; relax = c.new-3.result; given = lines; setting = o }))
    (sym c.new.ensures)
