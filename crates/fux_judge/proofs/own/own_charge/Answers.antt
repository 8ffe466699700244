use Rattle.std.proofs.Common.{ap, sym, ◌∙◌, arith}
use Rattle.std.specs.Prelude.{None}
use Rattle.rule_law.specs.Quiet.{is_quiet}
use Rattle.fux_judge.specs.Links.{column_tolls, own_of}
use Rattle.fux_judge.proofs.QuietLinks.{tolls_none}
use Rattle.fux_judge.proofs.own.own_charge.Goals as goal

pub returns-then-is_quiet : goal.returns-then-is_quiet
returns-then-is_quiet c =
    let ex = c.args.ex.now in
    let i = c.args.i in
    let cells = c.args.col.now.items in
    record {
      is = sym (tolls_none ex i None cells (ap (is_quiet i) (sym c.as_slice-now.ensures.value) ∙ sym c.if-is_quiet.ensures)
          c.args.sheet.now column_tolls);
      small = omega arith;
    }

pub returns : goal.returns
returns c = record {
  is = c.charges.ensures.value ∙ ap (own_of c.args.ex.now c.args.sheet.now c.args.i) c.as_slice-now.ensures.value;
  small = c.charges.ensures.bound;
}
