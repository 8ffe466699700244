use Rattle.std.proofs.Common.{◌<◌, arith, length, sym, ◌∙◌}
use Rattle.std.proofs.lemmas.Bool.{false≢true, lt-ltb, ltb-true}
use Rattle.fux_grid.specs.Menus.{menu_of}
use Rattle.fux_grid.proofs.MenuLemmas.{can_start-from, can_start-only}
use Rattle.fux_grid.proofs.menus.can_start.Goals as goal

pub returns-then-starts : goal.returns-then-starts
returns-then-starts c = (
  λ h.
      let some : 0 < length (menu_of c.args.ex.now c.args.i) = omega (arith, ltb-true 0 c.width.result h) in
      can_start-from c.args.ex.now c.args.i c.args.v c.requires.voice some
      (c.has_start-starts.ensures.0 c.if-starts.true),
  λ (col, place, starts). lt-ltb 0 c.width.result (omega (arith, place.1)),
)

pub returns-else-starts : goal.returns-else-starts
returns-else-starts c = (
  λ h. absurd (false≢true (sym c.if-starts.false ∙ h)),
  λ h. c.has_start-starts.ensures.1
      (can_start-only c.args.ex.now c.args.i c.args.v c.requires.voice h),
)
