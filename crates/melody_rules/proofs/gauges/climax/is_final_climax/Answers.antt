use Rattle.std.proofs.Common.{◌≡◌, ◌<◌, ◌≤◌, ◌*◌, ◌+◌, ◌&&◌, ap, sym, ◌∙◌, arith}
use Rattle.std.specs.Prelude.{pos}
use Rattle.fux_grid.specs.Exercises.{columns_in}
use Rattle.melody_rules.specs.Gauges.{is_final_climax}
use Rattle.melody_rules.specs.GaugeLaws.{final_more, final_none}
use Rattle.melody_rules.proofs.gauges.climax.is_final_climax.Goals as goal

pub returns-then-not-is_topped : goal.returns-then-not-is_topped
returns-then-not-is_topped c =
    let here : c.loop-j.j < columns_in c.args.ex.now = omega (arith, c.loop-j-test.true, c.from-bars.ensures) in
    let low = sym c.is_topped.ensures ∙ c.if-not-is_topped.true in
    sym (sym c.loop-j.invariant
    ∙ final_more c.args.ex.now c.args.v c.loop-j.j (pos c.args.key) here
    ∙ ap (λ b. b && is_final_climax c.args.ex.now c.args.v (c.loop-j.j + 1) (pos c.args.key)) low)

pub loop-j-preserved : goal.loop-j-preserved
loop-j-preserved c =
    let here : c.loop-j.j < columns_in c.args.ex.now = omega (arith, c.loop-j-test.true, c.from-bars.ensures) in
    let top = sym c.is_topped.ensures ∙ c.if-not-is_topped.false in
    sym (final_more c.args.ex.now c.args.v c.loop-j.j (pos c.args.key) here
    ∙ ap (λ b. b && is_final_climax c.args.ex.now c.args.v (c.loop-j.j + 1) (pos c.args.key)) top)
    ∙ c.loop-j.invariant

pub returns : goal.returns
returns c =
    let at_end : c.loop-j.j ≤ 8 * c.from-bars.result = c.loop-j.auto.j-end
    (omega (arith, c.requires.place, c.from-bars.ensures)) in
    let whole : c.loop-j.j ≡ columns_in c.args.ex.now = omega (arith, at_end, c.loop-j-test.false, c.from-bars.ensures)
    in
    sym (sym c.loop-j.invariant ∙ final_none c.args.ex.now c.args.v c.loop-j.j (pos c.args.key) whole)
