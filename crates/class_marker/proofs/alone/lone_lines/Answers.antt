use Rattle.std.proofs.Common.{◌++◌, ◌∷◌, sym, ◌∙◌, arith}
use Rattle.std.proofs.lemmas.List.FromFn.{map-range_with_len_more}
use Rattle.class_marker.specs.Alone.{lone_line}
use Rattle.class_marker.proofs.alone.lone_lines.Goals as goal

pub loop-v-preserved : goal.loop-v-preserved
loop-v-preserved c =
    rw c.in_ok-push.ensures.items
    (rw (c.loop-v.invariant, c.in_ok-lone_line.ensures) (sym (map-range_with_len_more (lone_line c.args.ex.now) 0 c.loop-v.v c.loop-v.v (omega arith))))
