use Rattle.std.proofs.Common.{sym, subst}
use Rattle.std.specs.List.{AllPairs}
use Rattle.fux_grid.specs.Givens.{IsEarlier}
use Rattle.fux_grid.proofs.given.are_given_bars.Goals as goal

pub returns-then-given_bars_fit : goal.returns-then-given_bars_fit
returns-then-given_bars_fit c = (
  λ h. (
    c.given_bars_fit.ensures.0 c.if-given_bars_fit.true,
    subst (AllPairs IsEarlier) c.as_slice.ensures (c.given_ascend.ensures.0 h),
  ),
  λ (fit, ascend). c.given_ascend.ensures.1 (subst (AllPairs IsEarlier) (sym c.as_slice.ensures) ascend),
)
