use Rattle.std.proofs.Common.{◌≡◌, ◌-◌, ◌||◌, true, Some, ap, sym, ◌∙◌, arith}
use Rattle.std.specs.Prelude.{pos, not}
use Rattle.fux_grid.specs.Exercises.{bar_of, columns_in}
use Rattle.fux_grid.specs.Menus.{range_of}
use Rattle.rule_law.specs.Gauges.{menu_starts}
use Rattle.melody_rules.specs.Gauges.{is_at_top}
use Rattle.fux_judge.proofs.AheadLemmas.{under_end}
use Rattle.fux_judge.proofs.ahead.last_high.Goals as goal

pub returns : goal.returns
returns c = λ key below.
    let ex = c.args.ex.now in
    let v = c.args.v in
    let bar : bar_of (columns_in ex - 8) ≡ ex.bars = omega (arith, c.requires.valid.fewest_bars) in
    let ends : range_of ex v (bar_of (columns_in ex - 8)) ≡ Some c.range.result = ap (range_of ex v) bar
    ∙ c.range.ensures in
    let starts : menu_starts ex v (columns_in ex - 8) ≡ true = sym c.menu_starts.ensures ∙ c.if-not-menu_starts.false in
    ap (λ b. not b || is_at_top (pos key) (range_of ex v (bar_of (columns_in ex - 8)))) starts
    ∙ ap (is_at_top (pos key)) ends
    ∙ under_end key c.semitone.result c.range.result.1 c.semitone.ensures.value below
