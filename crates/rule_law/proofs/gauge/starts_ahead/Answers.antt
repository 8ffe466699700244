use Rattle.std.proofs.Common.{◌≡◌, ◌≤◌, ◌<◌, ◌*◌, cond, ap, ◌∙◌, arith}
use Rattle.std.specs.Int.{from_bool}
use Rattle.fux_grid.specs.Exercises.{columns_in}
use Rattle.rule_law.specs.Gauges.{menu_starts}
use Rattle.rule_law.proofs.MenuStarts.{as_number, as_number-bound, starts_ahead-more, starts_ahead-none}
use Rattle.rule_law.proofs.gauge.starts_ahead.Goals as goal

pub loop-j-preserved : goal.loop-j-preserved
loop-j-preserved c =
    let here : c.loop-j.j < columns_in c.args.ex.now = omega (arith, c.loop-j-test.true, c.from-bars.ensures) in
    let count : c.from-count.result ≡ from_bool (menu_starts c.args.ex.now c.args.v c.loop-j.j) = c.from-count.ensures
    ∙ ap from_bool c.menu_starts.ensures in
    let step : from_bool (menu_starts c.args.ex.now c.args.v c.loop-j.j)
    ≡ cond (menu_starts c.args.ex.now c.args.v c.loop-j.j) 1 0 = as_number
    (menu_starts c.args.ex.now c.args.v c.loop-j.j) in
    record {
      counted = omega (
        arith,
        c.loop-j.invariant.counted,
        starts_ahead-more c.args.ex.now c.args.v c.loop-j.j here,
        count,
        step,
      );
      few =
          omega (arith, c.loop-j.invariant.few, count, as_number-bound (menu_starts c.args.ex.now c.args.v c.loop-j.j));
    }

pub returns : goal.returns
returns c =
    let at_end : c.loop-j.j ≤ 8 * c.from-bars.result = c.loop-j.auto.j-end
    (omega (arith, c.requires.place, c.from-bars.ensures)) in
    let whole : c.loop-j.j ≡ columns_in c.args.ex.now = omega (arith, at_end, c.loop-j-test.false, c.from-bars.ensures)
    in
    record {
      value = omega (arith, c.loop-j.invariant.counted, starts_ahead-none c.args.ex.now c.args.v c.loop-j.j whole);
      bound = omega (arith, c.loop-j.invariant.few, whole, c.requires.valid.most_bars);
    }
