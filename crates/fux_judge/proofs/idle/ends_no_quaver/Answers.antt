use Rattle.std.proofs.Common.{sym, ◌∙◌, inl, inr, arith}
use Rattle.std.proofs.lemmas.Bool.{not-true}
use Rattle.fux_judge.proofs.idle.ends_no_quaver.Goals as goal

pub returns-then-holds_there : goal.returns-then-holds_there
returns-then-holds_there c = λ yes. inl (sym c.holds_there.ensures ∙ c.if-holds_there.true)

pub returns : goal.returns
returns c = λ yes. inr (
  omega (arith, c.if-i-eq0.false),
  omega (arith, c.if-next-end.false),
  sym c.menu_starts.ensures ∙ not-true c.menu_starts.result yes,
)
