use Rattle.std.proofs.Common.{◌≡◌, ◌+◌, ◌/◌, ◌%◌, ◌++◌, [], ap, get_or, drop, ◌∙◌, arith}
use Rattle.fux_grid.specs.Grid.{items_of}
use Rattle.fux_grid.specs.Menus.{combinations}
use Rattle.fux_grid.proofs.Combinations.{splits_list, splits_size, splits_column}
use Rattle.fux_grid.proofs.menus.combination.Goals as goal

pub nonzero_div-rest : goal.nonzero_div-rest
nonzero_div-rest c =
    (splits_list c.args.choices.now c.loop-cells.cells-index c.cells-item.result c.loop-cells.size c.len-size.result
    c.loop-cells.rest (omega arith) c.cells-item.is c.len-size.ensures.value c.loop-cells.invariant.sized
    c.loop-cells.invariant.within).some

pub bounds-deref-rest : goal.bounds-deref-rest
bounds-deref-rest c =
    let split = splits_list c.args.choices.now c.loop-cells.cells-index c.cells-item.result c.loop-cells.size
    c.len-size.result c.loop-cells.rest (omega arith) c.cells-item.is c.len-size.ensures.value
    c.loop-cells.invariant.sized c.loop-cells.invariant.within in
    rw c.deref.ensures.0 split.first_below

pub nonzero_rem-rest : goal.nonzero_rem-rest
nonzero_rem-rest c =
    (splits_list c.args.choices.now c.loop-cells.cells-index c.cells-item.result c.loop-cells.size c.len-size.result
    c.loop-cells.rest (omega arith) c.cells-item.is c.len-size.ensures.value c.loop-cells.invariant.sized
    c.loop-cells.invariant.within).some

pub loop-cells-preserved : goal.loop-cells-preserved
loop-cells-preserved c =
    let split = splits_list c.args.choices.now c.loop-cells.cells-index c.cells-item.result c.loop-cells.size
    c.len-size.result c.loop-cells.rest (omega arith) c.cells-item.is c.len-size.ensures.value
    c.loop-cells.invariant.sized c.loop-cells.invariant.within in
    let cell : c.index-deref-rest.result ≡ get_or c.cells-item.result.items
    (c.loop-cells.rest / (c.loop-cells.size / c.len-size.result)) c.index-deref-rest.result = rw c.deref.ensures.0
    at c.index-deref-rest.is in
    record {
      taken = omega (arith, c.push.ensures.len);
      sized = splits_size c.args.choices.now c.loop-cells.cells-index c.cells-item.result c.loop-cells.size
          c.len-size.result (omega arith) (omega arith) c.cells-item.is c.len-size.ensures.value
          c.loop-cells.invariant.sized;
      within = split.rest_below;
      same = ap (λ column. column ++ get_or
          (combinations (items_of (drop (c.loop-cells.cells-index + 1) c.args.choices.now)))
          (c.loop-cells.rest % (c.loop-cells.size / c.len-size.result)) []) c.push.ensures.items
          ∙ splits_column c.args.choices.now c.loop-cells.cells-index c.cells-item.result c.loop-cells.rest
          (c.loop-cells.size / c.len-size.result) c.loop-cells.column.items c.index-deref-rest.result (omega arith)
          c.cells-item.is split cell
          ∙ c.loop-cells.invariant.same;
    }
