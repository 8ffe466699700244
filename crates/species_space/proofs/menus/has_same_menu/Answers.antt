use Rattle.std.proofs.Common.{arith}
use Rattle.floor_tables.proofs.SameMenus.{menus_same, voice_more}
use Rattle.species_space.proofs.menus.has_same_menu.Goals as goal

pub loop-v-preserved : goal.loop-v-preserved
loop-v-preserved c =
    voice_more c.args.ex.now c.loop-v.v c.args.i c.args.j c.loop-v.invariant c.if-not-has_same_cells.ensures

pub returns : goal.returns
returns c =
    menus_same c.args.ex.now c.loop-v.v c.args.i c.args.j (omega (arith, c.loop-v.auto.v-end, c.loop-v-test.false))
    c.loop-v.invariant
