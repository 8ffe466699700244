use Rattle.std.proofs.Common.{◌≡◌, cond, ap, ◌∙◌, arith}
use Rattle.std.specs.Int.{from_bool}
use Rattle.rule_law.specs.Gauges.{menu_starts}
use Rattle.rule_law.proofs.MenuStarts.{as_number, starts_ahead-more}
use Rattle.fux_judge.proofs.ahead.pass.Goals as goal

pub returns : goal.returns
returns c = λ col menu e free r.
    let ex = c.args.ex.now in
    let one : c.from.result ≡ from_bool (menu_starts ex c.args.v c.args.i) = c.from.ensures
    ∙ ap from_bool (c.may_start.ensures col menu e) in
    let number : from_bool (menu_starts ex c.args.v c.args.i)
    ≡ cond (menu_starts ex c.args.v c.args.i) 1 0 = as_number (menu_starts ex c.args.v c.args.i) in
    record {
      starts = omega (
        arith,
        c.saturating_sub-ahead.ensures,
        r.starts,
        starts_ahead-more ex c.args.v c.args.i
            c.requires.place,
        one,
        number,
      );
      last_high = r.last_high;
      highest = r.highest;
    }
