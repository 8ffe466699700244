use Rattle.std.proofs.Common.{◌≡◌, ◌*◌, ◌^◌, ◌<◌, ap, length, ◌∙◌, arith}
use Rattle.fux_grid.specs.Menus.{cells_at, combinations}
use Rattle.fux_grid.proofs.CellLemmas.{length-cells_at}
use Rattle.fux_grid.proofs.MenuLemmas.{first_choices-all, menu_of-length, width-more, width-fits}
use Rattle.fux_grid.proofs.menus.width.Goals as goal

pub overflow_mul-width : goal.overflow_mul-width
overflow_mul-width c =
    let count : c.len.result ≡ length (cells_at c.args.ex.now c.args.i c.loop-v.v) = c.len.ensures.value
    ∙ ap length c.voice_cells.ensures in
    let fits : c.loop-v.width * c.len.result < 2 ^
    64 = (width-fits c.loop-v.v c.loop-v.width c.len.result (omega arith) c.loop-v.invariant.bound
    (omega (arith, length-cells_at c.args.ex.now c.args.i c.loop-v.v))).1 in
    omega arith

pub loop-v-preserved : goal.loop-v-preserved
loop-v-preserved c =
    let count : c.len.result ≡ length (cells_at c.args.ex.now c.args.i c.loop-v.v) = c.len.ensures.value
    ∙ ap length c.voice_cells.ensures in
    record {
      product =
          width-more c.args.ex.now c.args.i c.loop-v.v c.loop-v.width c.len.result c.loop-v.invariant.product count;
      bound = (width-fits c.loop-v.v c.loop-v.width c.len.result (omega arith) c.loop-v.invariant.bound
          (omega (arith, length-cells_at c.args.ex.now c.args.i c.loop-v.v))).0;
    }

pub returns : goal.returns
returns c =
    c.loop-v.invariant.product ∙ ap (λ lists. length (combinations lists))
    (first_choices-all c.args.ex.now c.args.i c.loop-v.v (omega arith)) ∙ menu_of-length c.args.ex.now c.args.i
