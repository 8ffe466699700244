use Rattle.std.proofs.Common.{◌≡◌, ◌+◌, ◌<◌, suc, ℕ, subst, sym, arith}
use Rattle.cert_check.proofs.MenuLemmas.{first_wide, menus_more}
use Rattle.cert_check.specs.Menus.{HaveMenus}
use Rattle.fux_grid.specs.Exercises.{columns_in}
use Rattle.cert_check.proofs.menus.Menus.of.Goals as goal

pub loop-i-preserved : goal.loop-i-preserved
loop-i-preserved c =
    let ex = c.args.ex.now in
    let i = c.loop-i.i in
    let next : i + 1 ≡ suc i = omega arith in
    subst (λ (n : ℕ). HaveMenus ex n c.push.new.self) (sym next)
    (menus_more ex i c.loop-i.menus c.push.new.self c.in-Ok.columns c.loop-i.invariant c.in-Ok.ensures.made c.in-Ok-push.ensures)

pub returns-in-Err-clause-wide : goal.returns-in-Err-clause-wide
returns-in-Err-clause-wide c =
    let within : c.loop-i.i < columns_in c.args.ex.now = omega (arith, c.loop-i-test.true, c.loop-i.auto.i-end) in
    first_wide c.args.ex.now c.loop-i.i c.loop-i.menus c.in-Err.fault within c.loop-i.invariant c.in-Err.ensures.wide
