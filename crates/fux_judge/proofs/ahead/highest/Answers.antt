use Rattle.std.proofs.Common.{◌≡◌, ap, ◌∙◌, arith, inl, inr}
use Rattle.std.specs.Prelude.{pos, not}
use Rattle.std.proofs.lemmas.Bool.{cases_lt, or_right}
use Rattle.fux_grid.specs.Exercises.{bar_of}
use Rattle.fux_grid.specs.Menus.{range_of}
use Rattle.rule_law.specs.Gauges.{menu_starts}
use Rattle.melody_rules.specs.Gauges.{is_at_top}
use Rattle.fux_judge.proofs.AheadLemmas.{over_end}
use Rattle.fux_judge.proofs.ahead.highest.Goals as goal

pub loop-bar-preserved : goal.loop-bar-preserved
loop-bar-preserved c = λ key h b first before.
    let ex = c.args.ex.now in
    let v = c.args.v in
    elim (cases_lt b c.loop-bar.bar) [
      | inl earlier ↦ c.loop-bar.invariant key (omega (arith, h, c.greater-highest.ensures.first)) b first earlier
      | inr here ↦
          let same : b ≡ c.loop-bar.bar = omega (arith, here, before) in
          ap (λ n. is_at_top (pos key) (range_of ex v n)) same
          ∙ ap (is_at_top (pos key)) c.range.ensures
          ∙ over_end key c.semitone.result c.range.result.1 c.semitone.ensures.value
          (omega (arith, h, c.greater-highest.ensures.second))
    ]

pub returns : goal.returns
returns c = λ key h j within.
    let ex = c.args.ex.now in
    let v = c.args.v in
    or_right (not (menu_starts ex v j)) (is_at_top (pos key) (range_of ex v (bar_of j)))
    (c.loop-bar.invariant key h (bar_of j) (omega arith) (omega (arith, within, c.loop-bar-test.false)))
