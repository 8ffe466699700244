use Rattle.std.proofs.Common.{◌-◌, sym, ◌∙◌, arith}
use Rattle.std.specs.Prelude.{pos}
use Rattle.fux_grid.specs.Exercises.{bar_of, columns_in}
use Rattle.fux_grid.specs.Menus.{range_of}
use Rattle.rule_law.specs.Gauges.{menu_starts}
use Rattle.melody_rules.specs.Gauges.{is_at_top, is_topped}
use Rattle.fux_judge.proofs.AheadLemmas.{all_from, none_starts, not_all}
use Rattle.fux_judge.proofs.ahead.is_final.Goals as goal
use Rattle.fux_judge.proofs.ahead.is_final.Goals.{then-key-ahead-via-then-key-ahead, then-key-ahead-via-else-key-ahead+then-ahead-eq0}

pub returns-then-key-ahead : goal.returns-then-key-ahead
returns-then-key-ahead c = λ r.
    let ex = c.args.ex.now in
    let v = c.args.v in
    let i = c.args.i in
    elim c.then-key-ahead.branch [
      | then-key-ahead-via-then-key-ahead w ↦
          sym (all_from (is_topped ex v (pos c.args.key)) i (columns_in ex - i) (columns_in ex)
          (omega (arith, c.requires.place))
          (r.highest c.args.key (omega (arith, w.if-key-ahead.true))))
      | then-key-ahead-via-else-key-ahead+then-ahead-eq0 w ↦
          sym (none_starts (menu_starts ex v) (λ j. is_at_top (pos c.args.key) (range_of ex v (bar_of j))) i
          (columns_in ex - i)
          (sym r.starts ∙ w.if-ahead-eq0.true))
    ]

pub returns-then-i-ex : goal.returns-then-i-ex
returns-then-i-ex c = λ r.
    let ex = c.args.ex.now in
    let v = c.args.v in
    let i = c.args.i in
    sym (not_all (is_topped ex v (pos c.args.key)) i (columns_in ex - i) (columns_in ex - 8)
    (omega (arith, c.if-i-ex.true)) (omega (arith, c.if-i-ex.true, c.requires.valid.fewest_bars))
    (r.last_high c.args.key (omega (arith, c.if-key-ahead-2.true))))
