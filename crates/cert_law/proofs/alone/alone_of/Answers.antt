use Rattle.std.proofs.Common.{ap, sym, ◌∙◌}
use Rattle.std.specs.Prelude.{None}
use Rattle.rule_law.specs.Quiet.{is_quiet}
use Rattle.fux_judge.specs.Links.{breaks_strictly}
use Rattle.fux_judge.specs.Told.{alone_rules, least_alone}
use Rattle.fux_judge.proofs.QuietLinks.{rules_none}
use Rattle.fux_judge.proofs.ToldLemmas.{nothing_found}
use Rattle.cert_law.proofs.alone.alone_of.Goals as goal

pub returns-then-is_quiet : goal.returns-then-is_quiet
unfolding least_alone
returns-then-is_quiet c =
    let ex = c.args.ex.now in
    let col = c.args.column.now.items in
    sym (nothing_found (breaks_strictly ex c.args.i None col) alone_rules
    (rules_none ex c.args.i None col
    (ap (is_quiet c.args.i) (sym c.as_slice.ensures.value) ∙ sym c.if-is_quiet.ensures) alone_rules))
