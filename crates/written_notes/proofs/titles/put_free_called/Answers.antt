use Rattle.std.proofs.Common.{◌++◌, string_bytes, codes}
use Rattle.std.specs.Fmt.{decimal}
use Rattle.written_notes.proofs.Pushed.{pushed}
use Rattle.written_notes.specs.Titles.{free_called}
use Rattle.written_notes.proofs.titles.put_free_called.Goals as goal

pub returns : goal.returns
unfolding free_called
returns c =
    let start = string_bytes c.args.out.now in
    let t1 = codes "Voice " ++ decimal c.args.v ++ codes "</part-name><part-abbreviation>" in
    pushed start t1 (decimal c.args.v)
    c.in_ok-write.ensures.bytes c.in_ok-write-2.ensures.bytes
