use Rattle.std.proofs.Common.{◌≡◌, ap, subst, arith}
use Rattle.fux_grid.specs.Menus.{cells_at}
use Rattle.floor_tables.specs.Tables.{Task}
use Rattle.floor_tables.proofs.SameMenus.{menus_same, voice_more}
use Rattle.floor_tables.proofs.links.ColumnLinksLinks.has_same_menu.Goals as goal

pub loop-v-preserved : goal.loop-v-preserved
loop-v-preserved c =
    let v = c.loop-v.v in
    voice_more c.args.self.now.exercise v c.args.i c.args.j c.loop-v.invariant
    (subst (λ (t : Task). cells_at t.exercise c.args.i v ≡ cells_at t.exercise c.args.j v) c.self.view_is
    c.if-not-has_same_cells.ensures)

pub returns : goal.returns
returns c =
    let voices = ap (λ (t : Task). t.exercise.voices) c.self.view_is in
    menus_same c.args.self.now.exercise c.loop-v.v c.args.i c.args.j
    (omega (arith, voices, c.loop-v.auto.v-end, c.loop-v-test.false)) c.loop-v.invariant
