use Rattle.std.proofs.Common.{◌++◌, string_bytes}
use Rattle.written_notes.proofs.Downward.{part-made-down}
use Rattle.written_notes.specs.Titles.{part_name, part_names}
use Rattle.written_notes.proofs.titles.put_names.Goals as goal

pub loop-v-preserved : goal.loop-v-preserved
loop-v-preserved c =
    let ex = c.args.ex.now in
    part-made-down (part_name ex) c.loop-v.v (string_bytes c.loop-v.out) (string_bytes c.put_name.new.out)
    (string_bytes c.args.out.now ++ part_names ex) c.loop-v-test.true c.in_ok-put_name.ensures c.loop-v.invariant
